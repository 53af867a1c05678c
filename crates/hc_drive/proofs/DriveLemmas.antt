-- Rounds, one after another, and what they come to.
use Rattle.std.proofs.Common.{◌≡◌, ◌≢◌, ◌⊎◌, ◌∙◌, ℕ, ◌+◌, ◌≤◌, List, [], ◌∷◌, ◌++◌, ◌==◌, ◌&&◌, Bool, true, false, length, Option, Some, None, Ok, Err, ap, append_assoc, append-nil, arith, length-append, inl, inr, refl, subst, sym}
use Rattle.std.proofs.lemmas.Grind.{flat_map-append}
use Rattle.std.specs.FinMap.{len}
use Rattle.std.specs.Global.{Global}
use Rattle.std.specs.List.{flat_map}
use Rattle.std.specs.declared.vec.Vec.{Vec}
use Rattle.hc_transcript.specs.declared.record.Record.{Record}
use Rattle.hc_transcript.specs.Limits.{greatest_number}
use Rattle.hc_transcript.specs.Records.{record_text}
use Rattle.hc_service.specs.declared.event.Event.{Event}
use Rattle.hc_service.specs.declared.event.Happening.{Happening}
use Rattle.hc_service.specs.declared.event.Happening.TheVariants.{ClientOpened, ClientBytes, ClientEnd, OriginBytes, OriginEnd, OriginFailed, Stopping}
use Rattle.hc_service.specs.declared.action.Action.{Action}
use Rattle.hc_service.specs.declared.fault.StepFault.{StepFault}
use Rattle.hc_service.specs.declared.fault.StepFault.TheVariants.{Memory, MomentTooLarge, UnknownNumber, TooManyConnections, Failed}
use Rattle.hc_service.specs.declared.settings.CoreSettings.{CoreSettings}
use Rattle.hc_service.specs.Agreement.{Agrees, History, IsReady}
use Rattle.hc_service.specs.Runs.{Runs, RunsTo, StepResult, Steps, records_given}
use Rattle.hc_service.specs.Sending.{recorded_format, records_of}
use Rattle.hc_service.specs.Settings.{AreGood}
use Rattle.hc_service.specs.State.{State}
use Rattle.hc_service.proofs.RunLemmas.{runs_steps, steps_append}
use Rattle.hc_core.specs.Steps.{Cache, GivesStep, StandsFor}
use Rattle.hc_order.specs.declared.occurrence.Occurrence.{Occurrence}
use Rattle.hc_order.specs.Log.{Move, carried}
use Rattle.hc_order.specs.Log.Move.{Before, Closed, Heard, Sent}
use Rattle.hc_order.specs.declared.receiver.Receiver.TheVariants.{Client, Origin}
use Rattle.hc_order.specs.Mirrors.{MayHappen, Mirrors, closed_in, opened_in}
use Rattle.hc_order.specs.Resting.{IsAtRest}
use Rattle.hc_links.specs.Links.{IsBeginning}
use Rattle.hc_connection.specs.Moves.{earlier_or, first_in, is_closed_in, is_ended_in}
use Rattle.hc_connection.specs.Sides.{IsUntouched}
use Rattle.hc_drive.specs.declared.fault.DriveFault.{DriveFault}
use Rattle.hc_drive.specs.declared.fault.DriveFault.TheVariants as fault
use Rattle.hc_drive.specs.Carrying.{CountsRecorder, texts_in}
use Rattle.hc_order.specs.Passed.{AreOrderly, AreServed, AreUsual, IsUsual, events_of, passed}
use Rattle.hc_drive.specs.Drives.{AreRounds, BreakOff, EndStands, GivesDrive, GivesUp, GivesUpLate, IsBusy, IsUsualFrom, Leads, answers_by, most_rounds, occurrences_by, texts_given}
use Rattle.hc_drive.specs.Rounds.{Answers, AnswersBy, Break, IsRound, IsToldBy, MayBreak, StopsAt, stage}
use Rattle.hc_drive.specs.Rounds.Break.{AtAnswer, BeforeEvent, Carrying}
use Rattle.hc_drive.proofs.CarryLemmas.{texts_append}

-- ---- what laws say

abbrev pub StepsAreRuns : Type 0
StepsAreRuns = (settings : CoreSettings) → AreGood settings → (events : List Event) (results : List StepResult) (s : State) (h : History) (end : Option State)
    → Agrees s h → Steps settings s events results end → s.numbers.records + length (records_given results) ≤ greatest_number
    → Runs settings s h events results (records_given results) end

abbrev pub RunsKeepAgreement : Type 0
RunsKeepAgreement = (settings : CoreSettings) (events : List Event) (results : List StepResult) (s : State) (h : History) (records : List Record) (end : Option State)
    → Runs settings s h events results records end → RunsTo records h end

abbrev pub AgreementIsReady : Type 0
AgreementIsReady = (s : State) (h : History) → Agrees s h → IsReady s

abbrev pub RunsAreCounted : Type 0
RunsAreCounted = (settings : CoreSettings) (events : List Event) (results : List StepResult) (s mid : State) (h : History) (records : List Record)
    → Runs settings s h events results records (Some mid) → mid.numbers.records ≡ s.numbers.records + length records

abbrev pub TurnsAreUsual : Type 0
TurnsAreUsual = (room : ℕ) (settings : CoreSettings) (occurrences : List Occurrence) (results : List StepResult) (s : State) (end : Option State) (log : List Move)
    → Steps settings s (events_of occurrences) results end → Mirrors room s log → AreOrderly room occurrences results log → AreUsual occurrences results

abbrev pub TurnsAreMirrored : Type 0
TurnsAreMirrored = (room : ℕ) (settings : CoreSettings) (occurrences : List Occurrence) (results : List StepResult) (s other : State) (log : List Move)
    → Steps settings s (events_of occurrences) results (Some other) → Mirrors room s log → AreServed results → Mirrors room other (passed occurrences results log)

-- ---- what may happen in turn

-- where more connections may be open it may happen as well
may_in_more : (few many : ℕ) → few ≤ many → (happening : Happening) (log : List Move) → MayHappen few happening log → MayHappen many happening log
may_in_more few many less (ClientOpened c) log may = (may.0, (let room = may.1 in omega (arith, room, less)))
may_in_more few many less (ClientBytes c octets) log may = may
may_in_more few many less (ClientEnd c) log may = may
may_in_more few many less (OriginBytes f octets) log may = may
may_in_more few many less (OriginEnd f) log may = may
may_in_more few many less (OriginFailed f) log may = may
may_in_more few many less Stopping log may = may

orderly_in_more : (few many : ℕ) → few ≤ many → (occurrences : List Occurrence) (results : List StepResult) (log : List Move) → AreOrderly few occurrences results log → AreOrderly many occurrences results log
orderly_in_more few many less [] results log o = tt
orderly_in_more few many less (occurrence ∷ occurrences) [] log o = tt
orderly_in_more few many less (occurrence ∷ occurrences) (Ok actions ∷ results) log o =
    (may_in_more few many less occurrence.event.of log o.0, orderly_in_more few many less occurrences results (carried actions.items (Heard occurrence ∷ log)) o.1)
orderly_in_more few many less (occurrence ∷ occurrences) (Err step ∷ results) log o = may_in_more few many less occurrence.event.of log o

-- one event more
pub orderly_then : (most : ℕ) (occurrences others : List Occurrence) (results answers : List StepResult) (log : List Move) → length occurrences ≡ length results → AreServed results
    → AreOrderly most occurrences results log → AreOrderly most others answers (passed occurrences results log) → AreOrderly most (occurrences ++ others) (results ++ answers) log
orderly_then most [] others [] answers log same served o more = more
orderly_then most [] others (result ∷ results) answers log same served o more = absurd (cc)
orderly_then most (occurrence ∷ occurrences) others [] answers log same served o more = absurd (cc)
orderly_then most (occurrence ∷ occurrences) others (Ok actions ∷ results) answers log same served o more =
    (o.0, orderly_then most occurrences others results answers (carried actions.items (Heard occurrence ∷ log)) (omega (arith, same)) served o.1 more)
orderly_then most (occurrence ∷ occurrences) others (Err step ∷ results) answers log same served o more = absurd served

-- the last of them wasn't served
last_usual : (occurrences : List Occurrence) (results : List StepResult) (occurrence : Occurrence) (step : StepFault) → length occurrences ≡ length results → AreServed results
    → AreUsual (occurrences ++ occurrence ∷ []) (results ++ Err step ∷ []) → IsUsual occurrence.event step
last_usual [] [] occurrence step same served usual = usual
last_usual [] (result ∷ results) occurrence step same served usual = absurd (cc)
last_usual (first ∷ occurrences) [] occurrence step same served usual = absurd (cc)
last_usual (first ∷ occurrences) (Ok actions ∷ results) occurrence step same served usual = last_usual occurrences results occurrence step (omega (arith, same)) served usual
last_usual (first ∷ occurrences) (Err fault ∷ results) occurrence step same served usual = absurd served

-- ---- records that are given

abbrev texts_of : List Record → List ℕ
texts_of records = flat_map (record_text recorded_format) records

pub given_append : (a b : List StepResult) → records_given (a ++ b) ≡ records_given a ++ records_given b
given_append [] b = refl
given_append (Ok actions ∷ a) b =
    ap (λ (t : List Record). records_of actions.items ++ t) (given_append a b) ∙ sym (append_assoc (records_of actions.items) (records_given a) (records_given b))
given_append (Err step ∷ a) b = given_append a b

pub fewer : (before more : List StepResult) (n : ℕ) → n + length (records_given (before ++ more)) ≤ greatest_number → n + length (records_given before) ≤ greatest_number
fewer before more n few = omega (arith, few, ap length (given_append before more), length-append (records_given before) (records_given more))

pub texts_given_append : (a b : List StepResult) → texts_given (a ++ b) ≡ texts_given a ++ texts_given b
texts_given_append a b = ap texts_of (given_append a b) ∙ flat_map-append (record_text recorded_format) (records_given a) (records_given b)

pub texts_of_one : (actions : Vec Action Global) → texts_given (Ok actions ∷ []) ≡ texts_in actions.items
texts_of_one actions = ap texts_of (append-nil (records_of actions.items))

pub served_append : (a b : List StepResult) → AreServed a → AreServed b → AreServed (a ++ b)
served_append [] b served more = more
served_append (Ok actions ∷ a) b served more = served_append a b served more
served_append (Err step ∷ a) b served more = absurd served

pub passed_append : (occurrences others : List Occurrence) (results answers : List StepResult) (log : List Move) → length occurrences ≡ length results
    → passed (occurrences ++ others) (results ++ answers) log ≡ passed others answers (passed occurrences results log)
passed_append [] others [] answers log same = refl
passed_append [] others (result ∷ results) answers log same = absurd (cc)
passed_append (occurrence ∷ occurrences) others [] answers log same = absurd (cc)
passed_append (occurrence ∷ occurrences) others (Ok actions ∷ results) answers log same = passed_append occurrences others results answers _ (omega (arith, same))
passed_append (occurrence ∷ occurrences) others (Err step ∷ results) answers log same = passed_append occurrences others results answers _ (omega (arith, same))

pub paired_append : (occurrences others : List Occurrence) (results answers : List StepResult) → length occurrences ≡ length results → length others ≡ length answers
    → length (occurrences ++ others) ≡ length (results ++ answers)
paired_append occurrences others results answers a b = omega (arith, a, b, length-append occurrences others, length-append results answers)

pub events_append : (a b : List Occurrence) → events_of (a ++ b) ≡ events_of a ++ events_of b
events_append [] b = refl
events_append (occurrence ∷ a) b = ap (λ (events : List Event). occurrence.event ∷ events) (events_append a b)

-- ---- what the cache was led to

pub record IsLed (settings : CoreSettings) (s : State) (cache : Cache) (events : List Event) (results : List StepResult) : Type 0 where
  pub state : State
  pub stands : StandsFor settings cache state
  pub steps : Steps settings s events results (Some state)

abbrev pub Leading : Cache → Cache → List Event → List StepResult → Type 0
Leading old new events results = (settings : CoreSettings) (s : State) (h : History) → AreGood settings → StandsFor settings old s → Agrees s h
    → s.numbers.records + length (records_given results) ≤ greatest_number → IsLed settings s new events results

-- the rounds so far
pub record SoFar (most : ℕ) (T : List Move → Type 0) (H : List ℕ → Type 0) (old new : Cache) (log : List Move) (text : List ℕ) (rounds : ℕ) : Type 0 where
  pub occurrences : List Occurrence
  pub results : List StepResult
  pub orderly : AreOrderly most occurrences results log
  pub leading : Leading old new (events_of occurrences) results
  pub many : length occurrences ≡ rounds
  pub paired : length occurrences ≡ length results
  pub served : AreServed results
  pub told : T (passed occurrences results log)
  pub held : H (text ++ texts_given results)

abbrev pub begins : (most : ℕ) (T : List Move → Type 0) (H : List ℕ → Type 0) (cache : Cache) (log : List Move) (text : List ℕ) → T log → H text → SoFar most T H cache cache log text 0
begins most T H cache log text told held = record {
  occurrences = [];
  results = [];
  orderly = tt;
  leading = λ settings s h good stands agrees few. record { state = s; stands = stands; steps = refl };
  many = refl;
  paired = refl;
  served = tt;
  told = told;
  held = subst H (sym (append-nil text)) held;
}

module _ (runs : StepsAreRuns) (keeps : RunsKeepAgreement) (is_ready : AgreementIsReady) (counted : RunsAreCounted) (usual : TurnsAreUsual) (mirrored : TurnsAreMirrored) where
  -- each forward can end there
  ready_there : (settings : CoreSettings) (s : State) (h : History) (cache : Cache) (events : List Event) (results : List StepResult) → AreGood settings → Agrees s h
      → s.numbers.records + length (records_given results) ≤ greatest_number → (led : IsLed settings s cache events results) → IsReady led.state
  ready_there settings s h cache events results good agrees few led =
      let to = keeps settings events results s h (records_given results) (Some led.state) (runs settings good events results s h (Some led.state) agrees led.steps few) in
      is_ready led.state to.later to.agrees

  module _ (old mid new : Cache) (before : List Event) (answered : List StepResult) (leading : Leading old mid before answered) where
    -- one event more is served
    pub leads_on : (event : Event) (actions : Vec Action Global) → Answers event (Ok actions) mid new → Leading old new (before ++ event ∷ []) (answered ++ Ok actions ∷ [])
    leads_on event actions answers settings s h good stands agrees few =
        let less = fewer answered (Ok actions ∷ []) s.numbers.records few in
        let led = leading settings s h good stands agrees less in
        let g = answers.gives settings led.state led.stands (ready_there settings s h mid before answered good agrees less led) in record {
          state = g.0;
          stands = g.1;
          steps = steps_append settings before (event ∷ []) answered (Ok actions ∷ []) s led.state (Some g.0) led.steps (g.0, g.2, refl);
        }

    -- one more isn't
    refused : (event : Event) (step : StepFault) (settings : CoreSettings) (s : State) (led : IsLed settings s mid before answered)
        → GivesStep (Err step) settings event led.state new → (step ≢ Memory → new ≡ mid)
        → (end : Option State) × EndStands settings end new × Steps settings s (before ++ event ∷ []) (answered ++ Err step ∷ []) end
    refused event Memory settings s led g same =
        (None, g.1, steps_append settings before (event ∷ []) answered (Err Memory ∷ []) s led.state None led.steps (g.0, refl, refl))
    refused event MomentTooLarge settings s led g same = (
      Some led.state,
      subst (λ (cache : Cache). StandsFor settings cache led.state) (sym (same (λ e. cc))) led.stands,
      steps_append settings before (event ∷ []) answered (Err MomentTooLarge ∷ []) s led.state (Some led.state) led.steps (g, refl),
    )
    refused event UnknownNumber settings s led g same = (
      Some led.state,
      subst (λ (cache : Cache). StandsFor settings cache led.state) (sym (same (λ e. cc))) led.stands,
      steps_append settings before (event ∷ []) answered (Err UnknownNumber ∷ []) s led.state (Some led.state) led.steps (g, refl),
    )
    refused event TooManyConnections settings s led g same = (
      Some led.state,
      subst (λ (cache : Cache). StandsFor settings cache led.state) (sym (same (λ e. cc))) led.stands,
      steps_append settings before (event ∷ []) answered (Err TooManyConnections ∷ []) s led.state (Some led.state) led.steps (g, refl),
    )
    refused event Failed settings s led g same = absurd g

    leads_to_refusal : (event : Event) (step : StepFault) → Answers event (Err step) mid new → Leads old new (before ++ event ∷ []) (answered ++ Err step ∷ [])
    leads_to_refusal event step answers settings s h good stands agrees few =
        let less = fewer answered (Err step ∷ []) s.numbers.records few in
        let led = leading settings s h good stands agrees less in
        let r = refused event step settings s led
        (answers.gives settings led.state led.stands (ready_there settings s h mid before answered good agrees less led)) (answers.same step refl) in record {
          end = r.0;
          stands = r.1;
          runs = runs settings good (before ++ event ∷ []) (answered ++ Err step ∷ []) s h r.0 agrees r.2 few;
        }

  pub leads : (old new : Cache) (events : List Event) (results : List StepResult) → Leading old new events results → Leads old new events results
  leads old new events results leading settings s h good stands agrees few =
      let led = leading settings s h good stands agrees few in record {
        end = Some led.state;
        stands = led.stands;
        runs = runs settings good events results s h (Some led.state) agrees led.steps few;
      }

  module _ (most : ℕ) (T T' : List Move → Type 0) (H H' : List ℕ → Type 0) (old mid new : Cache) (log : List Move) (text : List ℕ) (rounds : ℕ)
      (f : SoFar most T H old mid log text rounds) where
    abbrev pub goes_on : IsRound most T' H' (stage mid (passed f.occurrences f.results log) (text ++ texts_given f.results)) new → SoFar most T' H' old new log text (rounds + 1)
    goes_on t = record {
      occurrences = f.occurrences ++ t.occurrence ∷ [];
      results = f.results ++ Ok t.actions ∷ [];
      orderly = orderly_then most f.occurrences (t.occurrence ∷ []) f.results (Ok t.actions ∷ []) log f.paired f.served f.orderly (t.may, tt);
      leading = subst (λ (events : List Event). Leading old new events (f.results ++ Ok t.actions ∷ [])) (sym (events_append f.occurrences (t.occurrence ∷ [])))
          (leads_on old mid new (events_of f.occurrences) f.results f.leading t.occurrence.event t.actions t.answers);
      many = omega (arith, f.many, length-append f.occurrences (t.occurrence ∷ []));
      paired = paired_append f.occurrences (t.occurrence ∷ []) f.results (Ok t.actions ∷ []) f.paired refl;
      served = served_append f.results (Ok t.actions ∷ []) f.served tt;
      told = subst T' (sym (passed_append f.occurrences (t.occurrence ∷ []) f.results (Ok t.actions ∷ []) log f.paired)) t.done.0;
      held = subst H' (ap (λ (o : List ℕ). (text ++ texts_given f.results) ++ o) (sym (texts_of_one t.actions))
          ∙ append_assoc text (texts_given f.results) (texts_given (Ok t.actions ∷ []))
          ∙ ap (λ (o : List ℕ). text ++ o) (sym (texts_given_append f.results (Ok t.actions ∷ [])))) t.done.1;
    }

    abbrev pub ended : new ≡ mid → T' (passed f.occurrences f.results log) → H' (text ++ texts_given f.results) → AreRounds most T' H' (stage old log text) new
    ended same told held = record {
      occurrences = f.occurrences;
      results = f.results;
      orderly = f.orderly;
      mirrors = λ room settings s h good stands agrees few m.
          let led = f.leading settings s h good stands agrees few in
          let run = runs settings good (events_of f.occurrences) f.results s h (Some led.state) agrees led.steps few in
          let to = keeps settings (events_of f.occurrences) f.results s h (records_given f.results) (Some led.state) run in record {
            state = led.state;
            stands = subst (λ (cache : Cache). StandsFor settings cache led.state) (sym same) led.stands;
            mirrors = mirrored room settings f.occurrences f.results s led.state log led.steps m f.served;
            later = to.later;
            agrees = to.agrees;
            counted = counted settings (events_of f.occurrences) f.results s led.state h (records_given f.results) run;
          };
      leads = leads old new (events_of f.occurrences) f.results (subst (λ (cache : Cache). Leading old cache (events_of f.occurrences) f.results) (sym same) f.leading);
      served = f.served;
      told = told;
      held = held;
    }

    pub break_leads : (break : Break) → AnswersBy break mid new → Leads old new (events_of (f.occurrences ++ occurrences_by break)) (f.results ++ answers_by break)
    break_leads BeforeEvent same =
        subst (λ (occurrences : List Occurrence). Leads old new (events_of occurrences) (f.results ++ [])) (sym (append-nil f.occurrences))
        (subst (λ (results : List StepResult). Leads old new (events_of f.occurrences) results) (sym (append-nil f.results))
        (leads old new (events_of f.occurrences) f.results (subst (λ (cache : Cache). Leading old cache (events_of f.occurrences) f.results) (sym same) f.leading)))
    break_leads (AtAnswer occurrence step) answers =
        subst (λ (events : List Event). Leads old new events (f.results ++ Err step ∷ [])) (sym (events_append f.occurrences (occurrence ∷ [])))
        (leads_to_refusal old mid new (events_of f.occurrences) f.results f.leading occurrence.event step answers)
    break_leads (Carrying occurrence actions) answers =
        subst (λ (events : List Event). Leads old new events (f.results ++ Ok actions ∷ [])) (sym (events_append f.occurrences (occurrence ∷ [])))
        (leads old new (events_of f.occurrences ++ occurrence.event ∷ []) (f.results ++ Ok actions ∷ [])
        (leads_on old mid new (events_of f.occurrences) f.results f.leading occurrence.event actions answers))

    pub break_orderly : (break : Break) → MayBreak most break (passed f.occurrences f.results log) → AreOrderly most (f.occurrences ++ occurrences_by break) (f.results ++ answers_by break) log
    break_orderly BeforeEvent may = orderly_then most f.occurrences [] f.results [] log f.paired f.served f.orderly tt
    break_orderly (AtAnswer occurrence step) may = orderly_then most f.occurrences (occurrence ∷ []) f.results (Err step ∷ []) log f.paired f.served f.orderly may
    break_orderly (Carrying occurrence actions) may = orderly_then most f.occurrences (occurrence ∷ []) f.results (Ok actions ∷ []) log f.paired f.served f.orderly (may, tt)

    pub break_usual : (break : Break) → AnswersBy break mid new → MayBreak most break (passed f.occurrences f.results log) → IsUsualFrom most old log f.results break
    break_usual BeforeEvent same may room settings s h good stands agrees few less m = tt
    break_usual (AtAnswer occurrence step) answers may room settings s h good stands agrees few less m =
        let parts = fewer f.results (Err step ∷ []) s.numbers.records few in
        let led = f.leading settings s h good stands agrees parts in
        let r = refused old mid new (events_of f.occurrences) f.results f.leading occurrence.event step settings s led
        (answers.gives settings led.state led.stands (ready_there settings s h mid (events_of f.occurrences) f.results good agrees parts led)) (answers.same step refl) in
        let steps =
        subst (λ (events : List Event). Steps settings s events (f.results ++ Err step ∷ []) r.0) (sym (events_append f.occurrences (occurrence ∷ []))) r.2 in
        last_usual f.occurrences f.results occurrence step f.paired f.served
        (usual room settings (f.occurrences ++ occurrence ∷ []) (f.results ++ Err step ∷ []) s r.0 log steps m
        (orderly_in_more most room less (f.occurrences ++ occurrence ∷ []) (f.results ++ Err step ∷ []) log (break_orderly (AtAnswer occurrence step) may)))
    break_usual (Carrying occurrence actions) answers may room settings s h good stands agrees few less m = tt

    pub broke_off : (rests : Type 0) (why : DriveFault) (break : Break) → IsToldBy break why ⊎ GivesUp break why new rests (length f.occurrences) → AnswersBy break mid new
        → GivesUpLate break why (length f.occurrences) → StopsAt break T' H' (passed f.occurrences f.results log) (text ++ texts_given f.results)
        → MayBreak most break (passed f.occurrences f.results log) → BreakOff most why T' H' rests (stage old log text) new
    broke_off rests why break told answers late stops may = record {
      occurrences = f.occurrences;
      results = f.results;
      break = break;
      told_by = told;
      orderly = break_orderly break may;
      leads = break_leads break answers;
      usual = break_usual break answers may;
      late = λ room settings s h good stands agrees few rest m none. late;
      served = f.served;
      stops = stops;
    }

-- so many rounds were made, and no more are
pub made_all : (most : ℕ) (T : List Move → Type 0) (H : List ℕ → Type 0) (rests : Type 0) (old new : Cache) (log : List Move) (text : List ℕ) (rounds : ℕ) (f : SoFar most T H old new log text rounds) → rounds ≡ most_rounds
    → IsToldBy BeforeEvent (fault.Core Failed) ⊎ GivesUp BeforeEvent (fault.Core Failed) new rests (length f.occurrences)
made_all most T H rests old new log text rounds f all = inr (refl, refl, inl (f.many ∙ all))

pub late_all : (most : ℕ) (T : List Move → Type 0) (H : List ℕ → Type 0) (old new : Cache) (log : List Move) (text : List ℕ) (rounds : ℕ) (f : SoFar most T H old new log text rounds) → rounds ≡ most_rounds
    → GivesUpLate BeforeEvent (fault.Core Failed) (length f.occurrences)
late_all most T H old new log text rounds f all before is = f.many ∙ all

-- what a round tells is no giving up
pub never_late : (break : Break) (why : DriveFault) (rounds : ℕ) → IsToldBy break why → GivesUpLate break why rounds
never_late break why rounds told before is = absurd (apart (sym (subst (λ (break : Break). IsToldBy break why) before told) ∙ is))
  where
    apart : fault.Core Memory ≡ fault.Core Failed → ⊥
    apart e = cc

-- ---- a cache that was at rest

-- where each event was served a cache is left
pub never_none : (settings : CoreSettings) (events : List Event) (results : List StepResult) (s : State) (h : History) (records : List Record) → AreServed results
    → Runs settings s h events results records None → ⊥
never_none settings [] [] s h records served runs = none_some s runs.2
  where
    none_some : (s : State) → None ≡ Some s → ⊥
    none_some s e = cc
never_none settings [] (result ∷ results) s h records served runs = absurd runs
never_none settings (event ∷ events) [] s h records served runs = absurd runs
never_none settings (event ∷ events) (Ok actions ∷ results) s h records served runs = never_none settings events results runs.1 runs.2 runs.3 served runs.7
never_none settings (event ∷ events) (Err step ∷ results) s h records served runs = absurd served

never_first : (o : Option Happening) (of : Happening) → earlier_or o of ≡ None → ⊥
never_first None of none = cc
never_first (Some first) of none = cc

-- where nothing has happened no connection was opened, and no client has ended
none_opened : (log : List Move) → first_in log ≡ None → opened_in log ≡ 0
none_opened [] none = refl
none_opened (Before beginning ∷ log) none = refl
none_opened (Heard occurrence ∷ log) none = absurd (never_first (first_in log) occurrence.event.of none)
none_opened (Sent to octets ∷ log) none = none_opened log none
none_opened (Closed link ∷ log) none = none_opened log none

none_ended : (c : ℕ) (log : List Move) → first_in log ≡ None → is_ended_in c log ≡ false
none_ended c [] none = refl
none_ended c (Before beginning ∷ log) none = refl
none_ended c (Heard occurrence ∷ log) none = absurd (never_first (first_in log) occurrence.event.of none)
none_ended c (Sent to octets ∷ log) none = none_ended c log none
none_ended c (Closed link ∷ log) none = none_ended c log none

none_closed : (c : ℕ) (log : List Move) → closed_in log ≡ 0 → is_closed_in c log ≡ false
none_closed c [] none = refl
none_closed c (Before beginning ∷ log) none = refl
none_closed c (Heard occurrence ∷ log) none = none_closed c log none
none_closed c (Sent to octets ∷ log) none = none_closed c log none
none_closed c (Closed (Client d) ∷ log) none = absurd (omega (arith, none))
none_closed c (Closed (Origin f) ∷ log) none = none_closed c log (omega (arith, none))

-- nothing has happened of any connection where nothing has happened, and nothing was open
untouched : (room : ℕ) (s : State) (c : ℕ) (log : List Move) → IsAtRest s → Mirrors room s log → first_in log ≡ None → IsUntouched c log
untouched room s c log rest m none = record {
  first = none;
  ended = none_ended c log none;
  closed = none_closed c log (let count = m.count in let open_none = rest.0 in let opened = none_opened log none in omega (arith, count, open_none, opened));
}

-- what a law says of links that rest: a cache that was at rest is at rest once what has passed is what was told
abbrev pub RestsAgain : (List Move → Type 0) → ℕ → List Move → Type 0
RestsAgain T c log = (room : ℕ) (settings : CoreSettings) (occurrences : List Occurrence) (results : List StepResult) (s other : State) (h : History) (records : List Record)
    → IsAtRest s → IsUntouched c log → Runs settings s h (events_of occurrences) results records (Some other) → AreServed results → AreOrderly 1 occurrences results log
    → Mirrors room other (passed occurrences results log) → T (passed occurrences results log) → IsAtRest other

module _ (mirrored : TurnsAreMirrored) (T : List Move → Type 0) (H : List ℕ → Type 0) (rests : Type 0) (old new : Cache) (log : List Move) (text : List ℕ) (c : ℕ) (again : RestsAgain T c log)
    (busy : IsBusy new) (rest : rests) (t : AreRounds 1 T H (stage old log text) new) where
  -- rounds that went well don't leave a cache busy that was at rest before
  never_busy : (room : ℕ) (settings : CoreSettings) (s : State) (h : History) → IsAtRest s → Mirrors room s log → first_in log ≡ None → (end : Option State) → EndStands settings end new
      → Runs settings s h (events_of t.occurrences) t.results (records_given t.results) end → ⊥
  never_busy room settings s h was m none None fails runs = never_none settings (events_of t.occurrences) t.results s h (records_given t.results) t.served runs
  never_busy room settings s h was m none (Some other) works runs =
      let steps = runs_steps settings (events_of t.occurrences) t.results s h (records_given t.results) (Some other) runs in
      busy settings other works
      (again room settings t.occurrences t.results s other h (records_given t.results) was (untouched room s c log was m none) runs t.served t.orderly
      (mirrored room settings t.occurrences t.results s other log steps m t.served) t.told)

  -- rounds that went well, and then no more is done, though the cache isn't idle
  pub as_broken : BreakOff 1 (fault.Core Failed) T H rests (stage old log text) new
  as_broken = record {
    occurrences = t.occurrences;
    results = t.results;
    break = BeforeEvent;
    told_by = inr (refl, refl, inr (busy, rest));
    orderly = subst (λ (occurrences : List Occurrence). AreOrderly 1 occurrences (t.results ++ []) log) (sym (append-nil t.occurrences))
        (subst (λ (results : List StepResult). AreOrderly 1 t.occurrences results log) (sym (append-nil t.results)) t.orderly);
    usual = λ room settings s h good stands agrees few less m. tt;
    late = λ room settings s h good stands agrees few was m none before is.
        let led = t.leads settings s h good stands agrees few in
        absurd (never_busy room settings s h was m none led.end led.stands led.runs);
    leads = subst (λ (occurrences : List Occurrence). Leads old new (events_of occurrences) (t.results ++ [])) (sym (append-nil t.occurrences))
        (subst (λ (results : List StepResult). Leads old new (events_of t.occurrences) results) (sym (append-nil t.results)) t.leads);
    served = t.served;
    stops = (t.told, t.held);
  }

-- ---- a cache that is idle

true_false : true ≡ false → ⊥
true_false e = cc

none_open : (connections forwards : ℕ) → connections ≡ 0 → forwards ≡ 0 → (connections == 0 && forwards == 0) ≡ true
none_open connections forwards no_connection no_forward =
    ap (λ (n : ℕ). n == 0 && forwards == 0) no_connection ∙ ap (λ (n : ℕ). n == 0) no_forward

pub is_busy : (idle : Bool) (cache : Cache) → idle ≡ false
    → ((settings : CoreSettings) (s : State) → StandsFor settings cache s → idle ≡ (len s.connections == 0 && len s.forwards == 0)) → IsBusy cache
is_busy idle cache none is settings s stands i = true_false (sym (none_open _ _ i.0 i.1) ∙ sym (is settings s stands) ∙ none)

-- a fault behind which rounds broke off
pub breaks : (T U : Type 0) (most : ℕ) (why : DriveFault) (tells : List Move → Type 0) (holds : List ℕ → Type 0) (rests : Type 0) (old new : Cache) (log : List Move) (text : List ℕ) (before after : ℕ)
    → CountsRecorder {T = T} (Err why) before after → BreakOff most why tells holds rests (stage old log text) new → GivesDrive {T = U} most tells holds rests (Err why) (stage old log text) new
breaks T U most fault.Client tells holds rests old new log text before after counted b = absurd counted
breaks T U most fault.Recorder tells holds rests old new log text before after counted b = b
breaks T U most (fault.Core step) tells holds rests old new log text before after counted b = b

-- ---- what was written by a break

-- behind a break a beginning of what was to be written stands there
pub front_at : (T : List Move → Type 0) (H : List ℕ → Type 0) (break : Break) (log : List Move) (text : List ℕ) → StopsAt break T H log text
    → (front : List ℕ) × IsBeginning front (text ++ texts_given (answers_by break)) × H front
front_at T H BeforeEvent log text stops = (text, ([], refl), stops.1)
front_at T H (AtAnswer occurrence step) log text stops = (text, ([], refl), stops.1)
front_at T H (Carrying occurrence actions) log text stops =
    let rest = stops.begins.0 in
    let done = texts_in stops.done in
    let left = texts_in stops.left in (
      text ++ (done ++ stops.front),
      (
        rest ++ left,
        ap (λ (o : List ℕ). text ++ o) (texts_of_one actions ∙ ap texts_in stops.actions_are ∙ texts_append stops.done (stops.last ∷ stops.left)
            ∙ ap (λ (o : List ℕ). done ++ o) (texts_append (stops.last ∷ []) stops.left ∙ ap (λ (o : List ℕ). o ++ left) stops.begins.1 ∙ append_assoc stops.front rest left)
            ∙ sym (append_assoc done stops.front (rest ++ left)))
            ∙ sym (append_assoc text (done ++ stops.front) (rest ++ left)),
      ),
      stops.held,
    )
