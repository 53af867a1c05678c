-- Events that may happen, one after another, are served.
use Rattle.std.proofs.Common.{◌≡◌, ℕ, Bool, true, false, cond, List, [], ◌∷◌, Option, Some, None, Ok, Err, nat_lt, refl, sym, ◌∙◌, subst}
use Rattle.hc_transcript.specs.Limits.{greatest_moment}
use Rattle.hc_service.specs.declared.fault.StepFault.TheVariants.{Memory, MomentTooLarge, UnknownNumber, TooManyConnections, Failed}
use Rattle.hc_service.specs.declared.settings.CoreSettings.{CoreSettings}
use Rattle.hc_service.specs.Runs.{StepResult, Steps}
use Rattle.hc_service.specs.State.{State}
use Rattle.hc_order.specs.declared.occurrence.Occurrence.{Occurrence}
use Rattle.hc_order.specs.Log.{Move, carried}
use Rattle.hc_order.specs.Log.Move.{Heard}
use Rattle.hc_order.specs.Mirrors.{Mirrors}
use Rattle.hc_order.specs.Passed.{AreOrderly, AreServed, AreUsual, events_of, passed}
use Rattle.hc_order.proofs.MirrorLemmas.{event_mirrors, may_happen_served}

too_late : (late : Bool) → cond late (Some MomentTooLarge) None ≡ Some MomentTooLarge → late ≡ true
too_late true is = refl
too_late false is = absurd (cc)

never_unknown : (late : Bool) → cond late (Some MomentTooLarge) None ≡ Some UnknownNumber → ⊥
never_unknown true is = cc
never_unknown false is = cc

never_too_many : (late : Bool) → cond late (Some MomentTooLarge) None ≡ Some TooManyConnections → ⊥
never_too_many true is = cc
never_too_many false is = cc

pub steps_usual : (room : ℕ) (settings : CoreSettings) (occurrences : List Occurrence) (results : List StepResult) (s : State) (end : Option State) (log : List Move)
    → Steps settings s (events_of occurrences) results end → Mirrors room s log → AreOrderly room occurrences results log → AreUsual occurrences results
steps_usual room settings [] results s end log steps m o = tt
steps_usual room settings (occurrence ∷ occurrences) [] s end log steps m o = absurd steps
steps_usual room settings (occurrence ∷ occurrences) (Ok actions ∷ results) s end log steps m o =
    steps_usual room settings occurrences results steps.0 end (carried actions.items (Heard occurrence ∷ log)) steps.2
    (event_mirrors room settings occurrence s actions.items steps.0 log m steps.1) o.1
steps_usual room settings (occurrence ∷ occurrences) (Err Memory ∷ results) s end log steps m o = tt
steps_usual room settings (occurrence ∷ occurrences) (Err MomentTooLarge ∷ results) s end log steps m o =
    too_late (nat_lt greatest_moment occurrence.event.moment) (sym (may_happen_served room occurrence.event s log m o) ∙ steps.0)
steps_usual room settings (occurrence ∷ occurrences) (Err UnknownNumber ∷ results) s end log steps m o =
    never_unknown (nat_lt greatest_moment occurrence.event.moment) (sym (may_happen_served room occurrence.event s log m o) ∙ steps.0)
steps_usual room settings (occurrence ∷ occurrences) (Err TooManyConnections ∷ results) s end log steps m o =
    never_too_many (nat_lt greatest_moment occurrence.event.moment) (sym (may_happen_served room occurrence.event s log m o) ∙ steps.0)
steps_usual room settings (occurrence ∷ occurrences) (Err Failed ∷ results) s end log steps m o = absurd steps

same_state : (a b : State) → Some a ≡ Some b → b ≡ a
same_state a b e = cc

pub steps_mirror : (room : ℕ) (settings : CoreSettings) (occurrences : List Occurrence) (results : List StepResult) (s other : State) (log : List Move)
    → Steps settings s (events_of occurrences) results (Some other) → Mirrors room s log → AreServed results → Mirrors room other (passed occurrences results log)
steps_mirror room settings [] [] s other log steps m served = subst (λ (t : State). Mirrors room t log) (same_state other s steps) m
steps_mirror room settings [] (result ∷ results) s other log steps m served = absurd steps
steps_mirror room settings (occurrence ∷ occurrences) [] s other log steps m served = absurd steps
steps_mirror room settings (occurrence ∷ occurrences) (Ok actions ∷ results) s other log steps m served =
    steps_mirror room settings occurrences results steps.0 other (carried actions.items (Heard occurrence ∷ log)) steps.2
    (event_mirrors room settings occurrence s actions.items steps.0 log m steps.1) served
steps_mirror room settings (occurrence ∷ occurrences) (Err step ∷ results) s other log steps m served = absurd served
