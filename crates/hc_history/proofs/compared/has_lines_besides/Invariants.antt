use Rattle.std.proofs.Common.{◌≡◌, length}
use Rattle.hc_history.proofs.ComparedLemmas.{has_lines}
use Rattle.hc_history.proofs.compared.has_lines_besides.Given as goal

-- the lines that are left decide
abbrev pub invariant-loop-name : goal.invariant-loop-name
invariant-loop-name l = has_lines l.claim l.state l.rest ≡ has_lines l.claim l.state l.initial.rest

abbrev pub decreases-loop-name : goal.decreases-loop-name
decreases-loop-name l = length l.rest
