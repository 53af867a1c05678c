use Rattle.hc_flow.proofs.PaceLemmas.{look_in_time}
use Rattle.hc_flow.proofs.pace.a_look_comes_in_time.Goals as goal

pub returns : goal.returns
returns c = look_in_time
