use Rattle.hc_notices.specs.VoiceLaws.{joined}
use Rattle.hc_serving.proofs.herald.HeraldWatcherCrowd.look.Goals as goal

pub returns : goal.returns
returns g c = rw c.look_at_replies.ensures at (joined g.E.Write.contents _ _ _ c.look_at.ensures c.look_at_recording.ensures)
