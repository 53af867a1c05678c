use Rattle.hc_notices.specs.VoiceLaws.{joined}
use Rattle.hc_serving.proofs.herald.Herald.conclude.Goals as goal

pub returns : goal.returns
returns g c = joined g.E.Write.contents _ _ _ c.look_at.ensures c.look_at_recording.ensures
