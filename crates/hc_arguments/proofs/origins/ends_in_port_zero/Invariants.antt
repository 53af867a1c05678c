use Rattle.std.proofs.Common.{◌≡◌, length}
use Rattle.hc_arguments.specs.Origins.{ends_in_port_zero}
use Rattle.hc_arguments.proofs.origins.ends_in_port_zero.Given as goal

-- the whole follows from what is left
abbrev pub invariant-octets : goal.invariant-octets
invariant-octets l = ends_in_port_zero l.left ≡ ends_in_port_zero l.text

abbrev pub decreases-octets : goal.decreases-octets
decreases-octets l = length l.left
