use Rattle.hc_notices.specs.VoiceLaws.{joined, stays_as_it_is}
use Rattle.hc_serving.proofs.wrongs.say_wrongs.Goals as goal

pub kinds-init : goal.kinds-init
kinds-init g c = stays_as_it_is g.E.Write.contents c.args.voice.now

pub kinds-preserved : goal.kinds-preserved
kinds-preserved g c = joined g.E.Write.contents _ _ _ c.kinds.invariant c.say_wrong.ensures
