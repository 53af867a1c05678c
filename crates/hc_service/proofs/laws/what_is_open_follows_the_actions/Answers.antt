use Rattle.hc_service.proofs.FollowLemmas.{event_follows}
use Rattle.hc_service.proofs.laws.what_is_open_follows_the_actions.Goals as goal

pub returns : goal.returns
returns c = event_follows
