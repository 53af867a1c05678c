-- What a script is replayed to, by its run.
use Rattle.std.proofs.Common.{◌≡◌, ◌≢◌, ◌∙◌, ℕ, false, List, Option, Result, Ok, Err, inl, subst, sym}
use Rattle.std.specs.Prelude.{IfErr}
use Rattle.std.specs.Result.{IsErrAnd}
use Rattle.hc_history.specs.declared.verdicts.Verdict.{Verdict}
use Rattle.hc_history.specs.declared.verdicts.Verdict.TheVariants.{Yes}
use Rattle.hc_history.specs.Verdicts.{IsVerdict}
use Rattle.hc_history.proofs.VerdictLemmas.{one_verdict}
use Rattle.hc_service.specs.declared.event.Event.{Event}
use Rattle.hc_service.specs.declared.settings.CoreSettings.{CoreSettings}
use Rattle.hc_service.specs.Runs.{Runs, StepResult, nothing_yet, records_given, strict}
use Rattle.hc_service.specs.State.{State, new_state}
use Rattle.hc_core.specs.Results.{is_cut_off}
use Rattle.hc_core.specs.Runs.{IsRight, IsRunOf}
use Rattle.hc_core.proofs.CutLemmas.{run_ends}
use Rattle.hc_scripts.specs.declared.fault.ScriptFault.{ScriptFault}
use Rattle.hc_scripts.specs.declared.fault.ScriptFault.TheVariants as fault
use Rattle.hc_scripts.specs.Replays.{PlaysAll, Replays, StopsReplay, settings_of}
use Rattle.hc_scripts.specs.ScriptFaults.{ScriptBreaks}
use Rattle.hc_scripts.specs.Scripts.{IsScript}

-- a run that wasn't cut off has played all events, and its verdict is the only one
plays_all : (settings : CoreSettings) (events : List Event) (results : List StepResult) (transcript : List ℕ) (verdict : Verdict)
    → IsRight settings events results transcript → is_cut_off results ≡ false → IsVerdict transcript strict verdict
    → PlaysAll settings events results verdict
plays_all settings events results transcript verdict r whole is =
    let ends = run_ends settings events (new_state settings) nothing_yet results (records_given results) r.end r.runs whole in record {
      state = ends.0;
      runs = subst (λ (end : Option State). Runs settings (new_state settings) nothing_yet events results (records_given results) end) ends.1 r.runs;
      counts = r.counts;
      verdict_is = one_verdict transcript strict verdict (Yes r.counts) is r.verdict;
    }

pub replayed : (octets : List ℕ) (keys bytes : ℕ) (events : List Event) (settings : CoreSettings) (results : List StepResult) (transcript : List ℕ) (verdict : Verdict)
    → IsScript octets keys bytes events → settings ≡ settings_of keys bytes → IsRunOf settings events results transcript → is_cut_off results ≡ false
    → IsVerdict transcript strict verdict → Replays octets transcript verdict
replayed octets keys bytes events settings results transcript verdict script same run whole is =
    let of = subst (λ (s : CoreSettings). IsRunOf s events results transcript) same run in record {
      keys = keys;
      bytes = bytes;
      events = events;
      is_script = script;
      good = of.good;
      results = results;
      transcript_is = of.octets_are;
      is_verdict = is;
      plays = λ few. plays_all (settings_of keys bytes) events results transcript verdict (of.is_right few) whole is;
    }

-- what breaks the octets stops the replay
pub broken : {A : Type 0} (octets : List ℕ) (f : ScriptFault) (answer : Result A ScriptFault) → (f ≢ fault.Memory → ScriptBreaks octets f)
    → IsErrAnd answer (λ g. g ≡ f) → IfErr answer (λ g. g ≢ fault.Memory → StopsReplay octets g)
broken octets f (Ok a) breaks is = absurd is
broken octets f (Err g) breaks is = λ no_memory.
    inl (subst (λ (e : ScriptFault). ScriptBreaks octets e) (sym is) (breaks (λ memory. no_memory (is ∙ memory))))
