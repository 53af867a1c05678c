use Rattle.hc_notices.specs.VoiceLaws.{stays_as_it_is}
use Rattle.hc_serving.proofs.wrongs.say_wrong.Goals as goal

pub returns-then-count-eq0 : goal.returns-then-count-eq0
returns-then-count-eq0 g c = stays_as_it_is g.E.Write.contents c.args.voice.now

pub returns-in_default : goal.returns-in_default
returns-in_default g c = stays_as_it_is g.E.Write.contents c.args.voice.now
