use Rattle.std.proofs.Common.{◌≡◌, ◌++◌, string_bytes, take}
use Rattle.hc_html.specs.Marked.{escaped}
use Rattle.hc_html.proofs.html.push_escaped.Given as goal

abbrev pub invariant-loop-octet : goal.invariant-loop-octet
invariant-loop-octet l = string_bytes l.out ≡ string_bytes l.initial.out ++ escaped (take l.octet-index l.octet-items)
