use Rattle.std.proofs.Common.{◌≡◌, take, true}
use Rattle.std.specs.List.{list_all}
use Rattle.hc_access.specs.Values.{is_plain}
use Rattle.hc_access.proofs.quoting.are_plain.Given as goal

abbrev pub invariant-loop-octet : goal.invariant-loop-octet
invariant-loop-octet l = list_all is_plain (take l.octet-index l.octets) ≡ true
