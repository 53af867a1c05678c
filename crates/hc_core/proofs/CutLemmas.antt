-- Whether want of memory ended a run.
use Rattle.std.proofs.Common.{◌≡◌, false, List, [], ◌∷◌, ◌++◌, Option, Some, Ok, Err, refl}
use Rattle.hc_service.specs.declared.event.Event.{Event}
use Rattle.hc_transcript.specs.declared.record.Record.{Record}
use Rattle.hc_service.specs.declared.fault.StepFault.TheVariants.{Memory, MomentTooLarge, UnknownNumber, TooManyConnections, Failed}
use Rattle.hc_service.specs.declared.settings.CoreSettings.{CoreSettings}
use Rattle.hc_service.specs.Agreement.{History}
use Rattle.hc_service.specs.Runs.{Runs, StepResult}
use Rattle.hc_service.specs.State.{State}
use Rattle.hc_core.specs.Results.{is_cut_off, is_refusal}

pub cut_off-last : (front : List StepResult) (last : StepResult) → is_cut_off (front ++ last ∷ []) ≡ is_refusal last
cut_off-last [] last = refl
cut_off-last (one ∷ []) last = refl
cut_off-last (one ∷ two ∷ front) last = cut_off-last (two ∷ front) last

later : (first : StepResult) (results : List StepResult) → is_cut_off (first ∷ results) ≡ false → is_cut_off results ≡ false
later first [] whole = refl
later first (second ∷ results) whole = whole

memory_cuts : (results : List StepResult) → results ≡ [] → is_cut_off (Err Memory ∷ results) ≡ false → ⊥
memory_cuts [] none whole = cc
memory_cuts (one ∷ results) none whole = cc

-- a run that wasn't cut off has led to a state
pub run_ends : (settings : CoreSettings) (events : List Event) (s : State) (h : History) (results : List StepResult) (records : List Record) (end : Option State)
    → Runs settings s h events results records end → is_cut_off results ≡ false → (state : State) × (end ≡ Some state)
run_ends settings [] s h [] records end runs whole = (s, runs.2)
run_ends settings [] s h (result ∷ results) records end runs whole = absurd runs
run_ends settings (event ∷ events) s h [] records end runs whole = absurd runs
run_ends settings (event ∷ events) s h (Ok actions ∷ results) records end runs whole =
    run_ends settings events runs.1 runs.2 results runs.3 end runs.7 (later (Ok actions) results whole)
run_ends settings (event ∷ events) s h (Err Memory ∷ results) records end runs whole = absurd (memory_cuts results runs.2 whole)
run_ends settings (event ∷ events) s h (Err MomentTooLarge ∷ results) records end runs whole =
    run_ends settings events s h results records end runs.2 (later (Err MomentTooLarge) results whole)
run_ends settings (event ∷ events) s h (Err UnknownNumber ∷ results) records end runs whole =
    run_ends settings events s h results records end runs.2 (later (Err UnknownNumber) results whole)
run_ends settings (event ∷ events) s h (Err TooManyConnections ∷ results) records end runs whole =
    run_ends settings events s h results records end runs.2 (later (Err TooManyConnections) results whole)
run_ends settings (event ∷ events) s h (Err Failed ∷ results) records end runs whole = absurd runs
