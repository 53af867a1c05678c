use Rattle.std.proofs.Common.{◌≡◌, ◌^◌, ◌-◌, min, take}
use Rattle.hc_access.specs.Writing.{feeds_in}
use Rattle.hc_access.proofs.writer.feeds_in.Given as goal

abbrev pub invariant-loop-octet : goal.invariant-loop-octet
invariant-loop-octet l = l.count ≡ min (feeds_in (take l.octet-index l.octets)) (2 ^ 64 - 1)
