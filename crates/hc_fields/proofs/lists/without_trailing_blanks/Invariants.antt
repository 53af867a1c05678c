use Rattle.std.proofs.Common.{◌≡◌, length}
use Rattle.hc_fields.specs.Lists.{without_trailing_blanks}
use Rattle.hc_fields.proofs.lists.without_trailing_blanks.Given as goal

abbrev pub invariant-loop-last : goal.invariant-loop-last
invariant-loop-last l = without_trailing_blanks l.text ≡ without_trailing_blanks l.initial.text

abbrev pub decreases-loop-last : goal.decreases-loop-last
decreases-loop-last l = length l.text
