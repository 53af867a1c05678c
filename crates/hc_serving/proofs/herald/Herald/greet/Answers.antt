use Rattle.hc_notices.specs.VoiceLaws.{joined}
use Rattle.hc_serving.proofs.herald.Herald.greet.Goals as goal

pub returns : goal.returns
returns g c = joined g.E.Write.contents _ _ _ (joined g.E.Write.contents _ _ _ c.say.ensures c.say_if.ensures) c.say_if-2.ensures
