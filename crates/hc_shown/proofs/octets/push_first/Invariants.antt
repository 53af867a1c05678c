use Rattle.std.proofs.Common.{◌≡◌, ◌++◌, take, string_bytes}
use Rattle.std.specs.List.{flat_map}
use Rattle.hc_shown.specs.Octets.{octet_text}
use Rattle.hc_shown.proofs.octets.push_first.Given as goal

abbrev pub invariant-loop-octet : goal.invariant-loop-octet
invariant-loop-octet l = string_bytes l.out ≡ string_bytes l.initial.out ++ flat_map octet_text (take l.octet-index (take l.most l.octets))
