use Rattle.std.proofs.Common.{◌≡◌, length}
use Rattle.hc_fields.specs.Lists.{without_leading_blanks}
use Rattle.hc_fields.proofs.lists.without_leading_blanks.Given as goal

abbrev pub invariant-loop-first : goal.invariant-loop-first
invariant-loop-first l = without_leading_blanks l.text ≡ without_leading_blanks l.initial.text

abbrev pub decreases-loop-first : goal.decreases-loop-first
decreases-loop-first l = length l.text
