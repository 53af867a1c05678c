use Rattle.std.proofs.Common.{Some, None, subst, take}
use Rattle.hc_auditing.specs.Pulling.{IsNextPiece}
use Rattle.hc_auditing.proofs.PullLemmas.{pulled_on}
use Rattle.hc_auditing.proofs.pulling.pull.Goals as goal

pub returns-in-Some-2-clause-pulled : goal.returns-in-Some-2-clause-pulled
returns-in-Some-2-clause-pulled g c =
    let mid = g.R.Read.remaining c.pieces.input in
    let new = g.R.Read.remaining c.next_piece.new.input in
    let octets = take c.in-Some.count c.next_piece.new.piece in
    let next : IsNextPiece mid new c.next_piece.new.piece (Some c.in-Some.count) =
    subst (λ o. IsNextPiece mid new c.next_piece.new.piece o) c.in-Some.is c.in_ok-count.ensures.next in
    pulled_on g.F.Fed.goes g.met.F.Fed.goes_on c.args.fed.now c.pieces.fed c.take.new.self c.args.told.now c.pieces.told c.take.new.told (g.R.Read.remaining c.args.input.now) mid new octets
    (Some c.in-Some-2.answer) c.pieces.invariant next.1
    (subst (λ o. g.F.Fed.goes c.pieces.fed c.pieces.told c.take.new.self c.take.new.told octets o) c.in-Some-2.is c.in_ok-answer.ensures.goes)

pub pieces-preserved : goal.pieces-preserved
pieces-preserved g c =
    let mid = g.R.Read.remaining c.pieces.input in
    let new = g.R.Read.remaining c.next_piece.new.input in
    let octets = take c.in-Some.count c.next_piece.new.piece in
    let next : IsNextPiece mid new c.next_piece.new.piece (Some c.in-Some.count) =
    subst (λ o. IsNextPiece mid new c.next_piece.new.piece o) c.in-Some.is c.in_ok-count.ensures.next in
    pulled_on g.F.Fed.goes g.met.F.Fed.goes_on c.args.fed.now c.pieces.fed c.take.new.self c.args.told.now c.pieces.told c.take.new.told (g.R.Read.remaining c.args.input.now) mid new octets
    None c.pieces.invariant next.1 (subst (λ o. g.F.Fed.goes c.pieces.fed c.pieces.told c.take.new.self c.take.new.told octets o) c.in-None.is c.in_ok-answer.ensures.goes)
