use Rattle.std.proofs.Common.{◌≡◌, false, drop}
use Rattle.hc_directives.specs.QuotedStrings.{is_quoted_text}
use Rattle.hc_directives.proofs.quoted.is_quoted_text.Given as goal

-- all depends on the octets that are left
abbrev pub invariant-loop-octet : goal.invariant-loop-octet
invariant-loop-octet l = is_quoted_text l.escaped (drop l.octet-index l.text) ≡ is_quoted_text false l.text
