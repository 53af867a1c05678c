-- Batches, one after another, and what they come to.
use Rattle.std.proofs.Common.{◌≡◌, ◌⊎◌, ◌∙◌, ℕ, ◌+◌, ◌≤◌, List, [], ◌∷◌, ◌++◌, false, nat_lt, true, length, Option, Some, None, Result, Ok, Err, ap, append_assoc, append-nil, arith, inl, inr, refl, subst, sym}
use Rattle.std.proofs.lemmas.Bool.Decides.{nat_tests}
use Rattle.std.specs.Cmp.{nat_cmp_total}
use Rattle.std.specs.FinMap.{empty, get, len, len-empty, nat_cmp-IsAntisymmetric, same_map}
use Rattle.std.specs.Ordering.{nat_cmp}
use Rattle.std.specs.Prelude.{is_some}
use Rattle.hc_transcript.specs.Limits.{greatest_moment, greatest_number}
use Rattle.hc_transcript.specs.Records.{opening}
use Rattle.hc_service.specs.declared.event.Event.{Event}
use Rattle.hc_service.specs.declared.fault.StepFault.{StepFault}
use Rattle.hc_service.specs.declared.fault.StepFault.TheVariants.{Memory, MomentTooLarge, UnknownNumber, TooManyConnections, Failed}
use Rattle.hc_service.specs.declared.settings.CoreOptions.{CoreOptions}
use Rattle.hc_service.specs.declared.settings.CoreSettings.{CoreSettings}
use Rattle.hc_service.specs.Runs.{IsJudgedRight, StepResult, nothing_yet, records_given}
use Rattle.hc_service.specs.Sending.{recorded_format}
use Rattle.hc_service.specs.Settings.{AreGood}
use Rattle.hc_service.specs.State.{State, Table, new_state_with}
use Rattle.hc_service.proofs.TableLemmas.{get_none}
use Rattle.hc_core.specs.Steps.{Cache, StandsFor}
use Rattle.hc_order.specs.declared.occurrence.Occurrence.{Occurrence}
use Rattle.hc_order.specs.Log.{Move, carried}
use Rattle.hc_order.specs.Log.Move.{Heard}
use Rattle.hc_order.specs.Mirrors.{Mirrors}
use Rattle.hc_order.specs.Passed.{IsUsual, events_of, passed}
use Rattle.hc_order.specs.Resting.{IsAtRest}
use Rattle.hc_links.specs.Batches.{NothingIsOpen}
use Rattle.hc_links.specs.Links.{IsBeginning}
use Rattle.hc_drive.specs.declared.fault.DriveFault.{DriveFault}
use Rattle.hc_drive.specs.declared.fault.DriveFault.TheVariants as fault
use Rattle.hc_drive.specs.Crowds.{Breaks, EndsBetween, Ends, GivesCrowd, GivesRecording, IsExpectedFrom, IsExpectedOf, IsSafe, Releases, Stays, Telling}
use Rattle.hc_drive.specs.Drives.{BreaksAsUsual, IsUsualFrom, Leads, answers_by, most_rounds, occurrences_by, texts_given}
use Rattle.hc_drive.specs.Rounds.{AnswersBy, Break, DriveStage, IsRound, IsToldBy, MayBreak, StopsAt, stage}
use Rattle.hc_drive.specs.Rounds.Break.{AtAnswer, BeforeEvent, Carrying}
use Rattle.hc_drive.proofs.ClientLemmas.{NewCacheAgrees, RunsAreJudgedRight, still_few}
use Rattle.hc_drive.proofs.DriveLemmas.{AgreementIsReady, Leading, RunsAreCounted, RunsKeepAgreement, SoFar, StepsAreRuns, TurnsAreMirrored, TurnsAreUsual, begins, break_leads, break_orderly, break_usual, ended, front_at, goes_on, texts_given_append}

-- ---- what laws say

abbrev pub EmptyMirrors : Type 0
EmptyMirrors = (options : CoreOptions) (settings : CoreSettings) → Mirrors options.connections (new_state_with settings options) []

pub record Laws : Type 0 where
  pub runs : StepsAreRuns
  pub keeps : RunsKeepAgreement
  pub is_ready : AgreementIsReady
  pub counted : RunsAreCounted
  pub usual : TurnsAreUsual
  pub mirrored : TurnsAreMirrored
  pub agrees : NewCacheAgrees
  pub empty : EmptyMirrors

-- whatever is told can be told by a transcript
abbrev pub IsInTime : (List Move → Type 0) → Type 0
IsInTime T = (occurrence : Occurrence) (log : List Move) → T (Heard occurrence ∷ log) → occurrence.event.moment ≤ greatest_moment

-- ---- what is expected

too_late : (moment greatest : ℕ) → moment ≤ greatest → nat_lt greatest moment ≡ true → ⊥
too_late moment greatest few late = grind (arith, nat_tests)

module _ (T : List Move → Type 0) (H : List ℕ → Type 0) (in_time : IsInTime T) (why : DriveFault) (log : List Move) (text : List ℕ) where
  answer_expected : (occurrence : Occurrence) (step : StepFault) → T (Heard occurrence ∷ log) → IsUsual occurrence.event step → IsExpectedOf (fault.Core step) (AtAnswer occurrence step)
  answer_expected occurrence Memory told usual = tt
  answer_expected occurrence MomentTooLarge told usual = absurd (too_late occurrence.event.moment greatest_moment (in_time occurrence log told) usual)
  answer_expected occurrence UnknownNumber told usual = absurd usual
  answer_expected occurrence TooManyConnections told usual = absurd usual
  answer_expected occurrence Failed told usual = absurd usual

  -- what was told, as usual, is expected
  is_expected : (break : Break) → IsToldBy break why ⊎ EndsBetween break why → BreaksAsUsual break → StopsAt break T H log text → IsExpectedOf why break
  is_expected BeforeEvent (inl is) usual stops = subst (λ (why : DriveFault). IsExpectedOf why BeforeEvent) (sym is) tt
  is_expected BeforeEvent (inr (same, inl is)) usual stops = subst (λ (why : DriveFault). IsExpectedOf why BeforeEvent) (sym is) tt
  is_expected BeforeEvent (inr (same, inr is)) usual stops = subst (λ (why : DriveFault). IsExpectedOf why BeforeEvent) (sym is) refl
  is_expected (AtAnswer occurrence step) (inl is) usual stops =
      subst (λ (why : DriveFault). IsExpectedOf why (AtAnswer occurrence step)) (sym is) (answer_expected occurrence step stops.0 usual)
  is_expected (AtAnswer occurrence step) (inr (same, ends)) usual stops = absurd (apart same)
    where
      apart : AtAnswer occurrence step ≡ BeforeEvent → ⊥
      apart e = cc
  is_expected (Carrying occurrence actions) (inl (inl is)) usual stops = subst (λ (why : DriveFault). IsExpectedOf why (Carrying occurrence actions)) (sym is) tt
  is_expected (Carrying occurrence actions) (inl (inr is)) usual stops = subst (λ (why : DriveFault). IsExpectedOf why (Carrying occurrence actions)) (sym is) tt
  is_expected (Carrying occurrence actions) (inr (same, ends)) usual stops = absurd (apart same)
    where
      apart : Carrying occurrence actions ≡ BeforeEvent → ⊥
      apart e = cc

-- so it is where the cache was a new one
expected_from : (laws : Laws) (most : ℕ) (why : DriveFault) (new : Telling) (from : DriveStage) (results : List StepResult) (break : Break) (log : List Move) (text : List ℕ) → IsInTime new.tells
    → IsToldBy break why ⊎ EndsBetween break why → IsUsualFrom most from.cache from.log results break → StopsAt break new.tells new.holds log text → IsExpectedFrom most from results break why
expected_from laws most why new from results break log text in_time told usual stops settings options good is_new less none few =
    is_expected new.tells new.holds in_time why log text break told
    (usual options.connections settings (new_state_with settings options) nothing_yet good is_new (laws.agrees settings options) (still_few (length (records_given (results ++ answers_by break))) few) less
    (subst (λ (log : List Move). Mirrors options.connections (new_state_with settings options) log) (sym none) (laws.empty options settings)))
    stops

-- ---- where nothing is open

none_of : {X : Type 0} (o : Option X) → is_some o ≡ false → o ≡ None
none_of None none = refl
none_of (Some x) none = absurd (cc)

none_in : {X : Type 0} (t : Table X) → ((n : ℕ) → is_some (get t n) ≡ false) → len t ≡ 0
none_in {X = X} t none =
    ap (λ (t : Table X). len t) (same_map nat_cmp_total nat_cmp-IsAntisymmetric t (empty {X = X} {R = nat_cmp}) (λ n. none_of (get t n) (none n) ∙ sym (get_none n))) ∙ len-empty nat_cmp X

at_rest : (room : ℕ) (s : State) (log : List Move) → Mirrors room s log → NothingIsOpen log → IsAtRest s
at_rest room s log m closed = (none_in s.connections (λ c. m.connections c ∙ closed.0 c), none_in s.forwards (λ f. m.forwards f ∙ closed.1 f))

-- ---- the turns so far

pub record TurnsSoFar (most : ℕ) (was_safe : Type 0) (new : Telling) (from : DriveStage) (cache : Cache) (turns : ℕ) : Type 0 where
  pub rounds : ℕ
  pub few : rounds ≤ turns
  pub so_far : SoFar most new.tells new.holds from.cache cache from.log from.text rounds
  pub safe : was_safe → IsSafe new from so_far.occurrences so_far.results

-- the records of all rounds stand for good
all_safe : (new : Telling) (from : DriveStage) (occurrences : List Occurrence) (results : List StepResult) → new.shows (passed occurrences results from.log) → new.keeps (from.text ++ texts_given results)
    → IsSafe new from occurrences results
all_safe new from occurrences results shown kept = record {
  front = occurrences;
  behind = [];
  answered = results;
  later = [];
  occurrences_are = sym (append-nil occurrences);
  results_are = sym (append-nil results);
  shown = shown;
  kept = kept;
}

pub turns_begin : (most : ℕ) (old : Telling) (from : DriveStage) → old.tells from.log → old.holds from.text → TurnsSoFar most (old.shows from.log × old.keeps from.text) old from from.cache 0
turns_begin most old from told held = record {
  rounds = 0;
  few = omega arith;
  so_far = begins most old.tells old.holds from.cache from.log from.text told held;
  safe = λ was. all_safe old from [] [] was.0 (subst old.keeps (sym (append-nil from.text)) was.1);
}

module _ {most : ℕ} {was_safe : Type 0} {mid : Telling} {from : DriveStage} {between : Cache} {turns : ℕ} (f : TurnsSoFar most was_safe mid from between turns) where
  -- what has passed by then
  abbrev pub log_so_far : List Move
  log_so_far = passed f.so_far.occurrences f.so_far.results from.log

  -- what was written by then
  abbrev pub text_so_far : List ℕ
  text_so_far = from.text ++ texts_given f.so_far.results

  module _ {new : Telling} where
    -- ---- what clients have seen

    pub safe_still : Stays mid new → was_safe → IsSafe new from f.so_far.occurrences f.so_far.results
    safe_still stays was =
        let s = f.safe was in record {
          front = s.front;
          behind = s.behind;
          answered = s.answered;
          later = s.later;
          occurrences_are = s.occurrences_are;
          results_are = s.results_are;
          shown = stays.shown (passed s.front s.answered from.log) s.shown;
          kept = stays.kept (from.text ++ texts_given s.answered) s.kept;
        }

    safe_released : Releases mid new → IsSafe new from f.so_far.occurrences f.so_far.results
    safe_released r = all_safe new from f.so_far.occurrences f.so_far.results (r.shown log_so_far f.so_far.told) (r.kept text_so_far f.so_far.held)

    pub safe_paused : Releases mid new ⊎ Stays mid new → was_safe → IsSafe new from f.so_far.occurrences f.so_far.results
    safe_paused (inl releases) was = safe_released releases
    safe_paused (inr stays) was = safe_still stays was

    -- ---- what a turn leads to

    -- nothing happened
    pub idle_on : (cache : Cache) → Stays mid new → (cache ≡ between) × new.tells log_so_far × new.holds text_so_far → TurnsSoFar most was_safe new from cache turns
    idle_on cache stays was = record {
      rounds = f.rounds;
      few = f.few;
      so_far = record {
        occurrences = f.so_far.occurrences;
        results = f.so_far.results;
        orderly = f.so_far.orderly;
        leading = subst (λ (cache : Cache). Leading from.cache cache (events_of f.so_far.occurrences) f.so_far.results) (sym was.0) f.so_far.leading;
        many = f.so_far.many;
        paired = f.so_far.paired;
        served = f.so_far.served;
        told = was.1;
        held = was.2;
      };
      safe = safe_still stays;
    }

    -- a pause behind the rounds
    pub pause_on : ((log : List Move) → mid.tells log → new.tells log) → ((text : List ℕ) → mid.holds text → new.holds text) → Releases mid new → TurnsSoFar most was_safe new from between (turns + 1)
    pause_on tells holds releases = record {
      rounds = f.rounds;
      few = omega (arith, f.few);
      so_far = record {
        occurrences = f.so_far.occurrences;
        results = f.so_far.results;
        orderly = f.so_far.orderly;
        leading = f.so_far.leading;
        many = f.so_far.many;
        paired = f.so_far.paired;
        served = f.so_far.served;
        told = tells log_so_far f.so_far.told;
        held = holds text_so_far f.so_far.held;
      };
      safe = λ was. safe_released releases;
    }

    module _ (laws : Laws) where
      -- one more round
      pub round_on : (cache : Cache) → Stays mid new → IsRound most new.tells new.holds (stage between log_so_far text_so_far) cache → TurnsSoFar most was_safe new from cache (turns + 1)
      round_on cache stays t = record {
        rounds = f.rounds + 1;
        few = omega (arith, f.few);
        so_far = goes_on laws.runs laws.keeps laws.is_ready laws.counted laws.usual laws.mirrored most mid.tells new.tells mid.holds new.holds from.cache between cache from.log from.text f.rounds f.so_far t;
        safe = λ was.
            let s = safe_still stays was in record {
              front = s.front;
              behind = s.behind ++ t.occurrence ∷ [];
              answered = s.answered;
              later = s.later ++ Ok t.actions ∷ [];
              occurrences_are = ap (λ (o : List Occurrence). o ++ t.occurrence ∷ []) s.occurrences_are ∙ append_assoc s.front s.behind (t.occurrence ∷ []);
              results_are = ap (λ (r : List StepResult). r ++ Ok t.actions ∷ []) s.results_are ∙ append_assoc s.answered s.later (Ok t.actions ∷ []);
              shown = s.shown;
              kept = s.kept;
            };
      }

      -- a pause behind which all is served
      pub all_served : ((log : List Move) → mid.tells log → new.tells log) → ((text : List ℕ) → mid.holds text → new.holds text) → Releases mid new → (new.tells log_so_far → NothingIsOpen log_so_far)
          → Ends most new from between
      all_served tells holds releases closed =
          let told = tells log_so_far f.so_far.told in
          let rounds = ended laws.runs laws.keeps laws.is_ready laws.counted laws.usual laws.mirrored most mid.tells new.tells mid.holds new.holds from.cache between between from.log from.text
          f.rounds f.so_far refl told (holds text_so_far f.so_far.held) in record {
            rounds = rounds;
            shown = releases.shown log_so_far f.so_far.told;
            kept = releases.kept text_so_far f.so_far.held;
            rests = λ room settings s h good stands agrees few m.
                let led = rounds.mirrors room settings s h good stands agrees few m in
                (led.state, led.stands, at_rest room led.state log_so_far led.mirrors (closed told));
          }

      -- a fault
      pub broke_off : (cache : Cache) → IsInTime new.tells → turns ≤ most_rounds → (why : DriveFault) (break : Break) → IsToldBy break why ⊎ EndsBetween break why → AnswersBy break between cache
          → StopsAt break new.tells new.holds log_so_far text_so_far → MayBreak most break log_so_far → (was_safe → IsSafe new from f.so_far.occurrences f.so_far.results)
          → Breaks most was_safe why new from cache
      broke_off cache in_time bound why break told answers stops may safe =
          let usual = break_usual laws.runs laws.keeps laws.is_ready laws.counted laws.usual laws.mirrored most mid.tells new.tells mid.holds new.holds from.cache between cache from.log from.text
          f.rounds f.so_far break answers may in record {
            cut = record {
              occurrences = f.so_far.occurrences;
              results = f.so_far.results;
              break = break;
              told_by = told;
              orderly = break_orderly laws.runs laws.keeps laws.is_ready laws.counted laws.usual laws.mirrored most mid.tells new.tells mid.holds new.holds from.cache between cache from.log from.text
                  f.rounds f.so_far break may;
              leads = break_leads laws.runs laws.keeps laws.is_ready laws.counted laws.usual laws.mirrored most mid.tells new.tells mid.holds new.holds from.cache between cache from.log from.text
                  f.rounds f.so_far break answers;
              served = f.so_far.served;
              stops = stops;
              few = omega (arith, f.few, f.so_far.many, bound);
              usual = usual;
              expected = expected_from laws most why new from f.so_far.results break log_so_far text_so_far in_time told usual stops;
            };
            safe = safe;
          }

-- why a pause ended all
pub told_of_pause : (why : DriveFault) → (why ≡ fault.Recorder) ⊎ (why ≡ fault.Core Memory) → IsToldBy BeforeEvent why ⊎ EndsBetween BeforeEvent why
told_of_pause why (inl is) = inr (refl, inl is)
told_of_pause why (inr is) = inl is

-- ---- something is told, however it ends

told_at : (T : List Move → Type 0) (H : List ℕ → Type 0) (break : Break) (log : List Move) (text : List ℕ) → StopsAt break T H log text → (later : List Move) × T later
told_at T H BeforeEvent log text stops = (log, stops.0)
told_at T H (AtAnswer occurrence step) log text stops = (Heard occurrence ∷ log, stops.0)
told_at T H (Carrying occurrence actions) log text stops = (carried stops.done (Heard occurrence ∷ log), stops.told)

pub still_told : (T : Type 0) (result : Result T DriveFault) (most : ℕ) (was_safe : Type 0) (new : Telling) (from : DriveStage) (cache : Cache)
    → GivesCrowd most was_safe result new from cache → (later : List Move) × new.tells later
still_told T (Ok done) most was_safe new from cache ends = (passed ends.rounds.occurrences ends.rounds.results from.log, ends.rounds.told)
still_told T (Err why) most was_safe new from cache breaks =
    let c = breaks.cut in told_at new.tells new.holds c.break (passed c.occurrences c.results from.log) (from.text ++ texts_given c.results) c.stops

-- ---- the recording

module _ (judged : RunsAreJudgedRight) (agrees : NewCacheAgrees) (settings : CoreSettings) (options : CoreOptions) (good : AreGood settings) (old : Cache) (is_new : StandsFor settings old (new_state_with settings options)) where
  right : (new : Cache) (events : List Event) (results : List StepResult) → Leads old new events results → length (records_given results) ≤ greatest_number → IsJudgedRight (records_given results)
  right new events results leads few =
      let led = leads settings (new_state_with settings options) nothing_yet good is_new (agrees settings options) (still_few (length (records_given results)) few) in
      judged settings options events results (records_given results) led.end led.runs

  pub recorded : (T : Type 0) (result : Result T DriveFault) (most : ℕ) (was_safe : Type 0) (new : Telling) (cache : Cache)
      → GivesCrowd most was_safe result new (stage old [] (opening recorded_format)) cache → GivesRecording result new.holds new.keeps
  recorded T (Ok done) most was_safe new cache ends = record {
    records = records_given ends.rounds.results;
    held = (ends.rounds.held, ends.kept);
    right = right cache (events_of ends.rounds.occurrences) ends.rounds.results ends.rounds.leads;
  }
  recorded T (Err why) most was_safe new cache breaks =
      let c = breaks.cut in
      let results = c.results ++ answers_by c.break in
      let f = front_at new.tells new.holds c.break (passed c.occurrences c.results []) (opening recorded_format ++ texts_given c.results) c.stops in record {
        records = records_given results;
        front = f.0;
        begins = subst (IsBeginning f.0)
            (append_assoc (opening recorded_format) (texts_given c.results) (texts_given (answers_by c.break))
            ∙ ap (λ (o : List ℕ). opening recorded_format ++ o) (sym (texts_given_append c.results (answers_by c.break)))) f.1;
        held = f.2;
        right = right cache (events_of (c.occurrences ++ occurrences_by c.break)) results c.leads;
      }
