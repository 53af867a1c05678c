use Rattle.hc_notices.specs.VoiceLaws.{stays_as_it_is}
use Rattle.hc_serving.proofs.herald.Herald.look_at_recording.Goals as goal

pub returns-then-self : goal.returns-then-self
returns-then-self g c = stays_as_it_is g.E.Write.contents c.args.self.now.voice

pub returns-in_default : goal.returns-in_default
returns-in_default g c = stays_as_it_is g.E.Write.contents c.args.self.now.voice
