use Rattle.hc_store.proofs.LawLemmas.{put_is_there}
use Rattle.hc_store.proofs.laws.what_is_put_is_there.Goals as goal

pub returns : goal.returns
returns c = put_is_there
