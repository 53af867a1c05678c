use Rattle.std.proofs.Common.{Option, drop, sym, subst, take}
use Rattle.hc_order.specs.declared.receiver.Receiver.{Receiver}
use Rattle.hc_agenda.specs.Turns.{IsFirstTurn}
use Rattle.hc_agenda.proofs.TurnLemmas.{first_turn}
use Rattle.hc_agenda.proofs.turns.Turns.first.Goals as goal

pub returns : goal.returns
returns c =
    let turns = c.self.inside in
    let links = turns.waiting.items in
    subst (IsFirstTurn c.copied.result) c.self.view_is
    (subst (λ (first : Option Receiver). IsFirstTurn first (record { batch = take turns.left links; behind = drop turns.left links })) (sym c.copied.ensures)
    (first_turn links turns.left c.front.result c.if-self-eq0.false c.self.invariant c.front.ensures.item))
