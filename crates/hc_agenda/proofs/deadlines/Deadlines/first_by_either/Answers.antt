use Rattle.std.proofs.Common.{◌⊎◌, sym, subst}
use Rattle.hc_agenda.specs.Deadlines.{IsDueBy}
use Rattle.hc_agenda.specs.Earliest.{IsEarliest}
use Rattle.hc_agenda.proofs.EarliestLemmas.{earliest_of_both}
use Rattle.hc_agenda.proofs.deadlines.Deadlines.first_by_either.Goals as goal

pub returns : goal.returns
returns c =
    let now = c.args.self.now in
    subst (IsEarliest (λ tick. IsDueBy c.args.one now tick ⊎ IsDueBy c.args.other now tick)) (sym c.earlier.ensures)
    (earliest_of_both (IsDueBy c.args.one now) (IsDueBy c.args.other now) c.first_by.result c.first_by-2.result c.first_by.ensures c.first_by-2.ensures)
