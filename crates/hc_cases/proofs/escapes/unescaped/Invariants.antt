use Rattle.std.proofs.Common.{length}
use Rattle.hc_cases.proofs.escapes.unescaped.Given as goal

abbrev pub decreases-octets : goal.decreases-octets
decreases-octets l = length l.rest
