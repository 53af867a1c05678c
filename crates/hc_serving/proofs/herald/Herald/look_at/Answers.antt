use Rattle.hc_notices.specs.VoiceLaws.{joined}
use Rattle.hc_serving.proofs.herald.Herald.look_at.Goals as goal

pub returns : goal.returns
returns g c =
    let last = joined g.E.Write.contents _ _ _ c.look_at_clock.ensures c.look_at_wrongs.ensures in
    joined g.E.Write.contents _ _ _ c.look_at_polls.ensures last
