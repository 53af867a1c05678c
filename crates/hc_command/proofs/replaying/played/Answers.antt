use Rattle.hc_command.proofs.ReplayLemmas.{refuses}
use Rattle.hc_command.proofs.replaying.played.Goals as goal

pub returns : goal.returns
returns g c = refuses c.args.script.now c.in-Err.fault c.refused.result _ _ _ c.refused.ensures c.in-Err.ensures.err
