use Rattle.hc_notices.specs.VoiceLaws.{stays_as_it_is}
use Rattle.hc_notices.proofs.voice.Voice.say_if.Goals as goal

pub returns-then-not-is_due : goal.returns-then-not-is_due
returns-then-not-is_due g c = stays_as_it_is g.E.Write.contents c.args.self.now
