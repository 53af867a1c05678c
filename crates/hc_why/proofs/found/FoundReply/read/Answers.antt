use Rattle.std.proofs.Common.{refl}
use Rattle.hc_why.proofs.found.FoundReply.read.Goals as goal

pub returns-clause-there : goal.returns-clause-there
returns-clause-there g c = λ h seen opened. refl
