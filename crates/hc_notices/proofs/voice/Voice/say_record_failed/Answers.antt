use Rattle.hc_notices.specs.VoiceLaws.{stays_as_it_is}
use Rattle.hc_notices.proofs.voice.Voice.say_record_failed.Goals as goal

pub returns-in_default : goal.returns-in_default
returns-in_default g c = stays_as_it_is g.E.Write.contents c.args.self.now
