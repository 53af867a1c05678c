use Rattle.hc_use.proofs.PermitLemmas.{named_permits}
use Rattle.hc_use.proofs.laws.named_permit_permits.Goals as goal

pub returns : goal.returns
returns c = λ claim state stale_use told. named_permits claim state stale_use told
