-- What is due.
use Rattle.std.proofs.Common.{arith, ◌≡◌, ◌∙◌, ◌≤◌, ℕ, true, Some, ap, subst, sym, nat_le}
use Rattle.std.proofs.lemmas.Bool.Decides.{nat_tests}
use Rattle.hc_agenda.specs.declared.agenda.Agenda.{Agenda}
use Rattle.hc_agenda.specs.declared.deadline.Deadline.{Deadline}
use Rattle.hc_agenda.specs.declared.deadline.Timeout.{Timeout}
use Rattle.hc_agenda.specs.Deadlines.{IsDueFirst, has_come}
use Rattle.hc_attended.specs.Notes.{is_due_up_to}

by_then : (due tick : ℕ) → due ≤ tick → nat_le due tick ≡ true
by_then due tick less = grind (arith, nat_tests)

-- what comes first of all that is due by a tick is due by then
pub comes : (timeout : Timeout) (deadline : Deadline) (tick : ℕ) (agenda : Agenda) → IsDueFirst timeout tick (Some deadline) agenda.deadlines
    → is_due_up_to deadline.timeout deadline.number tick agenda ≡ true
comes timeout deadline tick agenda is =
    subst (λ (t : Timeout). is_due_up_to t deadline.number tick agenda ≡ true) (sym is.1.0)
    (ap (λ due. has_come due tick) is.1.1.due ∙ by_then deadline.tick tick is.0)
