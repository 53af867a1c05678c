use Rattle.std.proofs.Common.{◌≡◌, [], length}
use Rattle.hc_status.specs.Reading.{string_from}
use Rattle.hc_status.proofs.strings.string.Given as goal

-- what is left of the text completes what was read
abbrev pub invariant-loop-octet : goal.invariant-loop-octet
invariant-loop-octet l = string_from [] l.text ≡ string_from l.value.items l.rest

abbrev pub decreases-loop-octet : goal.decreases-loop-octet
decreases-loop-octet l = length l.rest
