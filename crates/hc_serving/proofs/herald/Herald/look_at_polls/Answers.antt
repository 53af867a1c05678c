use Rattle.hc_notices.specs.VoiceLaws.{stays_as_it_is}
use Rattle.hc_serving.proofs.herald.Herald.look_at_polls.Goals as goal

pub returns-then-unpolled-tick : goal.returns-then-unpolled-tick
returns-then-unpolled-tick g c = stays_as_it_is g.E.Write.contents c.args.self.now.voice
