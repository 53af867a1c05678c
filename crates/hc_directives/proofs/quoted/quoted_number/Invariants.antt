use Rattle.std.proofs.Common.{◌≡◌}
use Rattle.hc_fields.specs.Numbers.{number_of}
use Rattle.hc_directives.specs.QuotedStrings.{unescaped}
use Rattle.hc_directives.proofs.QuotedLemmas.{number_behind}
use Rattle.hc_directives.proofs.quoted.quoted_number.Given as goal

-- the octets that are left lead from the number so far to that of the text
abbrev pub invariant-loop-octet : goal.invariant-loop-octet
invariant-loop-octet l = record {
  can : (goal.iterator-loop-octet).can_next l.octet-iterator;
  finite : (goal.iterator-loop-octet).is_finite l.octet-iterator;
  number : number_behind l.number l.octet-iterator ≡ number_of (unescaped l.text);
}
