use Rattle.std.proofs.Common.{◌∷◌, subst, sym}
use Rattle.std.proofs.lemmas.Result.{err_from_is_err_and}
use Rattle.hc_order.specs.Log.Move.{Heard}
use Rattle.hc_links.proofs.KeepingLemmas.{links_stay}
use Rattle.hc_drive.specs.Carrying.{IsOfCarrying}
use Rattle.hc_drive.specs.Rounds.Break.{AtAnswer, Carrying}
use Rattle.hc_drive.proofs.rounds.round.Goals as goal

pub returns-in_err-actions-clause-round : goal.returns-in_err-actions-clause-round
returns-in_err-actions-clause-round g c =
    let p = err_from_is_err_and c.from_residual-in_err-actions.result c.from_residual-in_err-actions.ensures.1 in
    rw p.1 (λ log text told held. (
      AtAnswer c.in-Some.occurrence c.in_err-actions.field-0.0,
      p.2,
      record { gives = c.in_err-actions.ensures.gives; same = c.in_err-actions.ensures.same },
      ((rw c.in-Some.is at c.in_ok-occurrence.ensures.tells) log told, held),
      (rw c.in-Some.is at c.in_ok-occurrence.ensures.orderly) log told,
      rw c.in-Some.is at c.in_ok-occurrence.ensures.in_turn,
    ))

pub returns-in_err-carry_out-clause-round : goal.returns-in_err-carry_out-clause-round
returns-in_err-carry_out-clause-round g c =
    let p = err_from_is_err_and c.from_residual-in_err-carry_out.result c.from_residual-in_err-carry_out.ensures.1 in
    rw p.1 (λ log text told held. (
      Carrying c.in-Some.occurrence c.in_ok-actions.actions,
      subst IsOfCarrying (sym p.2) c.in_err-carry_out.ensures.why,
      record { gives = c.in_ok-actions.ensures.gives; same = c.in_ok-actions.ensures.same },
      (rw c.as_slice.ensures.value at c.in_err-carry_out.ensures.done) (Heard c.in-Some.occurrence ∷ log) text
          ((rw c.in-Some.is at c.in_ok-occurrence.ensures.tells) log told) held,
      (rw c.in-Some.is at c.in_ok-occurrence.ensures.orderly) log told,
      rw c.in-Some.is at c.in_ok-occurrence.ensures.in_turn,
    ))

pub returns-clause-round : goal.returns-clause-round
returns-clause-round g c = λ log text told held. (
  record {
    occurrence = c.in-Some.occurrence;
    actions = c.in_ok-actions.actions;
    may = (rw c.in-Some.is at c.in_ok-occurrence.ensures.orderly) log told;
    answers = record { gives = c.in_ok-actions.ensures.gives; same = c.in_ok-actions.ensures.same };
    done = (rw c.as_slice.ensures.value at c.in_ok-carry_out.ensures.done) (Heard c.in-Some.occurrence ∷ log) text
        ((rw c.in-Some.is at c.in_ok-occurrence.ensures.tells) log told) held;
  },
  rw c.in-Some.is at c.in_ok-occurrence.ensures.in_turn,
)

pub returns-in_err-carry_out-clause-links : goal.returns-in_err-carry_out-clause-links
returns-in_err-carry_out-clause-links g c = links_stay c.next.ensures.links c.carry_out.ensures.links

pub returns-clause-links : goal.returns-clause-links
returns-clause-links g c = links_stay c.next.ensures.links c.carry_out.ensures.links
