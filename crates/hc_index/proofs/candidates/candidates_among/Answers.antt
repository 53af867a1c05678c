use Rattle.hc_index.proofs.CandidateLemmas.{candidates_told}
use Rattle.hc_index.proofs.candidates.candidates_among.Goals as goal

pub returns : goal.returns
returns c = λ h are.
    candidates_told c.args.claim.now h c.args.lives.now c.in_ok-candidates.candidates.items c.put_in_order.new.candidates.items are c.in_ok-candidates.ensures
    c.put_in_order.ensures.moved c.put_in_order.ensures.in_order
