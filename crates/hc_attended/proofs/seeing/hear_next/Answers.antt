use Rattle.hc_attended.proofs.TendLemmas.{turns_none}
use Rattle.hc_attended.proofs.seeing.hear_next.Goals as goal

pub returns-else-is_to_be_heard-clause-turns : goal.returns-else-is_to_be_heard-clause-turns
returns-else-is_to_be_heard-clause-turns g c = turns_none c.args.link c.args.peers.now
