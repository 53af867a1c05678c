-- A run so far, and what it comes to.
use Rattle.std.proofs.Common.{◌≡◌, ◌≢◌, ℕ, ◌+◌, ◌≤◌, Bool, true, false, not, List, [], ◌∷◌, ◌++◌, length, Option, Some, None, Ok, Err, ap, arith, length-append, refl, subst, sym}
use Rattle.hc_transcript.specs.Limits.{greatest_number}
use Rattle.hc_history.specs.declared.verdicts.Verdict.TheVariants.{Yes}
use Rattle.hc_history.specs.Verdicts.{IsVerdict}
use Rattle.hc_service.specs.declared.event.Event.{Event}
use Rattle.hc_service.specs.declared.fault.StepFault.{StepFault}
use Rattle.hc_service.specs.declared.fault.StepFault.TheVariants.{Memory, MomentTooLarge, UnknownNumber, TooManyConnections, Failed}
use Rattle.hc_service.specs.declared.settings.CoreSettings.{CoreSettings}
use Rattle.hc_service.specs.Agreement.{Agrees, History, IsReady}
use Rattle.hc_service.specs.Runs.{IsJudgedRight, Runs, StepResult, Steps, nothing_yet, records_given, strict, transcript_of}
use Rattle.hc_service.specs.Settings.{AreGood}
use Rattle.hc_service.specs.State.{State, new_state, usual_options}
use Rattle.hc_service.proofs.BeginLemmas.{new_agrees}
use Rattle.hc_service.proofs.RunLemmas.{runs_judged, steps_append}
use Rattle.hc_core.specs.Steps.{Cache, GivesStep, StandsFor}
use Rattle.hc_core.specs.declared.recording.Recording.{Recording}
use Rattle.hc_core.specs.Recordings.{TakesStep}
use Rattle.hc_core.specs.Results.{is_refusal, records_in}
use Rattle.hc_core.specs.Runs.{IsRunOf}
use Rattle.hc_core.proofs.GivenLemmas.{given_more, longer_transcript}

-- ---- a run so far

-- the events have led a new cache by these answers to a state, which is that of the cache
pub record HasCome (settings : CoreSettings) (events : List Event) (results : List StepResult) (cache : Cache) : Type 0 where
  pub state : State
  pub stands : StandsFor settings cache state
  pub steps : Steps settings (new_state settings) events results (Some state)

-- the text is the transcript so far, and as far as records can be numbered the events have led there
pub record IsRecording (settings : CoreSettings) (events : List Event) (results : List StepResult) (text : List ℕ) (cache : Cache) : Type 0 where
  pub text_is : text ≡ transcript_of (records_given results)
  pub comes : length (records_given results) ≤ greatest_number → HasCome settings events results cache

pub begins : (settings : CoreSettings) (results : List StepResult) (text : List ℕ) (cache : Cache) → results ≡ [] → text ≡ transcript_of [] → StandsFor settings cache (new_state settings)
    → IsRecording settings [] results text cache
begins settings results text cache none is stands =
    subst (λ (rs : List StepResult). IsRecording settings [] rs text cache) (sym none)
    (record { text_is = is; comes = λ few. record { state = new_state settings; stands = stands; steps = refl } })

-- ---- what laws of the service say of these settings

abbrev pub LeadToReady : CoreSettings → Type 0
LeadToReady settings = (events : List Event) (results : List StepResult) (s : State) → Steps settings (new_state settings) events results (Some s)
    → length (records_given results) ≤ greatest_number → IsReady s

abbrev pub LeadToRuns : CoreSettings → Type 0
LeadToRuns settings = (events : List Event) (results : List StepResult) (end : Option State) → Steps settings (new_state settings) events results end
    → length (records_given results) ≤ greatest_number
    → Runs settings (new_state settings) nothing_yet events results (records_given results) end × IsJudgedRight (records_given results)

-- steps of a new cache are a run, which the strictest audit judges right
pub leads_to_runs : (settings : CoreSettings)
    → ((events : List Event) (results : List StepResult) (s : State) (h : History) (end : Option State) → Agrees s h → Steps settings s events results end
    → s.numbers.records + length (records_given results) ≤ greatest_number → Runs settings s h events results (records_given results) end)
    → LeadToRuns settings
leads_to_runs settings law events results end steps few =
    let run = law events results (new_state settings) nothing_yet end (new_agrees settings usual_options) steps (omega arith) in
    (run, runs_judged settings usual_options events results (records_given results) end run)

-- ---- one step more

fewer : (before : List StepResult) (answer : StepResult) → length (records_given (before ++ answer ∷ [])) ≤ greatest_number
    → length (records_given before) ≤ greatest_number
fewer before answer few =
    omega (arith, few, ap length (given_more before answer), length-append (records_given before) (records_in answer))

goes_by : (answer : StepResult) (goes_on b : Bool) → goes_on ≡ not (is_refusal answer) → goes_on ≡ not b → is_refusal answer ≡ b
goes_by answer goes_on b is same = grind arith

module _ (settings : CoreSettings) (event : Event) (before : List Event) (results : List StepResult) (old new : Cache) (h : HasCome settings before results old) where
  -- an event whose answer isn't want of memory
  step_on : (answer : StepResult) → is_refusal answer ≡ false → GivesStep answer settings event h.state new
      → ((fault : StepFault) → answer ≡ Err fault → fault ≢ Memory → new ≡ old)
      → HasCome settings (before ++ event ∷ []) (results ++ answer ∷ []) new
  step_on (Ok actions) on g same = record {
    state = g.0;
    stands = g.1;
    steps = steps_append settings before (event ∷ []) results (Ok actions ∷ []) (new_state settings) h.state (Some g.0) h.steps (g.0, g.2, refl);
  }
  step_on (Err Memory) on g same = absurd cc
  step_on (Err MomentTooLarge) on g same = record {
    state = h.state;
    stands = subst (λ (cache : Cache). StandsFor settings cache h.state) (sym (same MomentTooLarge refl (λ e. cc))) h.stands;
    steps = steps_append settings before (event ∷ []) results (Err MomentTooLarge ∷ []) (new_state settings) h.state (Some h.state) h.steps (g, refl);
  }
  step_on (Err UnknownNumber) on g same = record {
    state = h.state;
    stands = subst (λ (cache : Cache). StandsFor settings cache h.state) (sym (same UnknownNumber refl (λ e. cc))) h.stands;
    steps = steps_append settings before (event ∷ []) results (Err UnknownNumber ∷ []) (new_state settings) h.state (Some h.state) h.steps (g, refl);
  }
  step_on (Err TooManyConnections) on g same = record {
    state = h.state;
    stands = subst (λ (cache : Cache). StandsFor settings cache h.state) (sym (same TooManyConnections refl (λ e. cc))) h.stands;
    steps = steps_append settings before (event ∷ []) results (Err TooManyConnections ∷ []) (new_state settings) h.state (Some h.state) h.steps (g, refl);
  }
  step_on (Err Failed) on g same = absurd g

  -- one whose answer is, whatever is left
  cut_off : (answer : StepResult) (left : List Event) → is_refusal answer ≡ true → GivesStep answer settings event h.state new
      → Steps settings (new_state settings) (before ++ event ∷ left) (results ++ answer ∷ []) None
  cut_off (Ok actions) left off g = absurd cc
  cut_off (Err Memory) left off g =
      steps_append settings before (event ∷ left) results (Err Memory ∷ []) (new_state settings) h.state None h.steps (g.0, refl, refl)
  cut_off (Err MomentTooLarge) left off g = absurd cc
  cut_off (Err UnknownNumber) left off g = absurd cc
  cut_off (Err TooManyConnections) left off g = absurd cc
  cut_off (Err Failed) left off g = absurd cc

-- ---- the loop over the events

pub none_left : (events : List Event) (n : ℕ) → n ≡ length events → n ≡ 0 → events ≡ []
none_left [] n is none = refl
none_left (event ∷ events) n is none = absurd (omega arith)

module _ (settings : CoreSettings) (ready : LeadToReady settings) (event : Event) (before : List Event) (kept after : Recording) (old new : Cache) (goes_on : Bool)
    (r : IsRecording settings before kept.results.items kept.text.items old) (t : TakesStep event old new kept after goes_on) where
  abbrev results : List StepResult
  results = kept.results.items

  abbrev longer : List ℕ
  longer = after.text.items

  text_goes_on : longer ≡ transcript_of (records_given (results ++ t.answer ∷ []))
  text_goes_on = longer_transcript results t.answer kept.text.items longer r.text_is t.text_is

  came : length (records_given (results ++ t.answer ∷ [])) ≤ greatest_number → HasCome settings before results old
  came few = r.comes (fewer results t.answer few)

  gave : (few : length (records_given (results ++ t.answer ∷ [])) ≤ greatest_number) → GivesStep t.answer settings event (came few).state new
  gave few =
      let h = came few in
      t.gives settings h.state h.stands (ready before results h.state h.steps (fewer results t.answer few))

  pub went_on : goes_on ≡ true → IsRecording settings (before ++ event ∷ []) after.results.items longer new
  went_on on =
      subst (λ (rs : List StepResult). IsRecording settings (before ++ event ∷ []) rs longer new) (sym t.results_are) (record {
        text_is = text_goes_on;
        comes = λ few. step_on settings event before results old new (came few) t.answer (goes_by t.answer goes_on false t.goes_on_is on) (gave few) t.same;
      })

  pub was_cut_off : (left : List Event) → AreGood settings → LeadToRuns settings → goes_on ≡ false → IsRunOf settings (before ++ event ∷ left) after.results.items longer
  was_cut_off left good runs off =
      subst (λ (rs : List StepResult). IsRunOf settings (before ++ event ∷ left) rs longer) (sym t.results_are) (record {
        good = good;
        octets_are = text_goes_on;
        is_right = λ few.
            let steps = cut_off settings event before results old new (came few) t.answer left (goes_by t.answer goes_on true t.goes_on_is off) (gave few) in
            let all = runs (before ++ event ∷ left) (results ++ t.answer ∷ []) None steps few in record {
              end = None;
              runs = all.0;
              counts = all.1.counts;
              verdict = subst (λ (o : List ℕ). IsVerdict o strict (Yes all.1.counts)) (sym text_goes_on) all.1.verdict;
            };
      })

pub ended : (settings : CoreSettings) (events : List Event) (results : List StepResult) (text : List ℕ) (cache : Cache) → AreGood settings → LeadToRuns settings
    → IsRecording settings events results text cache → IsRunOf settings events results text
ended settings events results text cache good runs r = record {
  good = good;
  octets_are = r.text_is;
  is_right = λ few.
      let h = r.comes few in
      let all = runs events results (Some h.state) h.steps few in record {
        end = Some h.state;
        runs = all.0;
        counts = all.1.counts;
        verdict = subst (λ (o : List ℕ). IsVerdict o strict (Yes all.1.counts)) (sym r.text_is) all.1.verdict;
      };
}
