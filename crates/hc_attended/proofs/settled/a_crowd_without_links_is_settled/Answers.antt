use Rattle.hc_attended.proofs.SettledLemmas.{settled_without_links}
use Rattle.hc_attended.proofs.settled.a_crowd_without_links_is_settled.Goals as goal

pub returns : goal.returns
returns g c = settled_without_links
