use Rattle.std.proofs.Common.{Option, ℕ, sym, ap, subst, ◌∙◌}
use Rattle.hc_agenda.specs.Deadlines.{IsDue}
use Rattle.hc_agenda.specs.Earliest.{IsEarliest, earlier_of}
use Rattle.hc_agenda.proofs.DeadlineLemmas.{first_of_all}
use Rattle.hc_agenda.proofs.deadlines.Deadlines.first.Goals as goal

pub returns : goal.returns
returns c =
    subst (IsEarliest (IsDue c.args.self.now))
    (sym (c.earlier-3.ensures ∙ ap (λ (o : Option ℕ). earlier_of o c.earlier-2.result) c.earlier.ensures ∙ ap (earlier_of _) c.earlier-2.ensures))
    (first_of_all c.args.self.now c.first_by_either-of_guest.result c.first_by_either-of_client.result c.first_by_either-of_forward.result c.first_by_either-of_link.result
    c.first_by_either-of_guest.ensures c.first_by_either-of_client.ensures c.first_by_either-of_forward.ensures c.first_by_either-of_link.ensures)
