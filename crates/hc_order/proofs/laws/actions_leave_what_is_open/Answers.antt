use Rattle.hc_order.proofs.MirrorLemmas.{event_mirrors}
use Rattle.hc_order.proofs.laws.actions_leave_what_is_open.Goals as goal

pub returns : goal.returns
returns c = event_mirrors
