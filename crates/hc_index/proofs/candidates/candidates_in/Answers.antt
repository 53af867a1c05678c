use Rattle.std.proofs.Common.{◌≡◌, ◌∙◌, sym, true, false}
use Rattle.hc_head.specs.Targets.{same_target}
use Rattle.hc_index.proofs.CandidateLemmas.{passed_over, taken_in}
use Rattle.hc_index.proofs.candidates.candidates_in.Goals as goal

pub loop-live-preserved-then-not-same_target : goal.loop-live-preserved-then-not-same_target
loop-live-preserved-then-not-same_target c =
    let other : same_target c.live-item.result.target c.args.claim.now.target ≡ false = rw (← c.claim.view_is) (sym c.same_target.ensures ∙ c.if-not-same_target.true) in
    passed_over c.args.claim.now c.args.lives.now c.loop-live.live-index c.live-item.result c.loop-live.candidates.items _
    c.loop-live-test.true c.live-item.is other c.loop-live.invariant

pub loop-live-preserved : goal.loop-live-preserved
loop-live-preserved c =
    let same : same_target c.live-item.result.target c.args.claim.now.target ≡ true = rw (← c.claim.view_is) (sym c.same_target.ensures ∙ c.if-not-same_target.false) in
    let taken = taken_in c.args.claim.now c.args.lives.now c.loop-live.live-index c.live-item.result c.loop-live.candidates.items _
    c.loop-live-test.true c.live-item.is same c.loop-live.invariant in
    rw (c.in_ok-push.ensures.items, c.in_ok-candidate_of.ensures) taken
