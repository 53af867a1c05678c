use Rattle.std.proofs.Common.{◌≡◌, Some, sym, subst}
use Rattle.hc_agenda.specs.Agendas.{IsToBeDone}
use Rattle.hc_agenda.specs.Deadlines.{IsDue}
use Rattle.hc_agenda.specs.Earliest.{IsEarliest}
use Rattle.hc_agenda.proofs.EarliestLemmas.{earliest_of_both, earliest_of_one}
use Rattle.hc_agenda.proofs.agenda.Agenda.first.Goals as goal

pub returns : goal.returns
returns c =
    let now = c.args.self.now in
    subst (IsEarliest (IsToBeDone now)) (sym c.earlier.ensures)
    (earliest_of_both (IsDue now.deadlines) (λ tick. now.sweep ≡ Some tick) c.first.result now.sweep c.first.ensures (earliest_of_one now.sweep))
