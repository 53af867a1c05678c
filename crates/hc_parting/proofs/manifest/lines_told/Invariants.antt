use Rattle.std.proofs.Common.{◌≡◌, length}
use Rattle.hc_parting.specs.Manifests.{lines_told, told_from}
use Rattle.hc_parting.proofs.manifest.lines_told.Given as goal

-- the whole follows from what is left
abbrev pub invariant-octets : goal.invariant-octets
invariant-octets l = told_from l.told l.left ≡ lines_told l.entries

abbrev pub decreases-octets : goal.decreases-octets
decreases-octets l = length l.left
