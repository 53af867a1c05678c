use Rattle.hc_incoming.proofs.HeadLemmas.{refused_for}
use Rattle.hc_incoming.proofs.laws.refusals_have_their_status.Goals as goal

pub returns : goal.returns
returns c = refused_for
