use Rattle.std.proofs.Common.{arith, refl}
use Rattle.hc_access.proofs.AccountLemmas.{action_more, all_accounted, none_yet}
use Rattle.hc_access.proofs.replies.Replies.see.Goals as goal

pub actions-preserved : goal.actions-preserved
actions-preserved g c = action_more c.args.actions.now c.actions.action-index c.action-item.result _ _ _ c.action-item.is c.actions-test.true c.actions.invariant c.note.ensures

pub actions-init : goal.actions-init
actions-init g c = none_yet _ _ refl refl

pub returns : goal.returns
returns g c = all_accounted c.args.actions.now c.actions.action-index _ _ (omega (arith, c.actions-test.false)) c.actions.invariant
