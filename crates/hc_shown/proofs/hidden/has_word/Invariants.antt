use Rattle.std.proofs.Common.{◌≡◌, length}
use Rattle.hc_shown.specs.Secrets.{has_word}
use Rattle.hc_shown.proofs.hidden.has_word.Given as goal

abbrev pub invariant-loop-rest : goal.invariant-loop-rest
invariant-loop-rest l = has_word l.name l.word ≡ has_word l.initial.name l.word

abbrev pub decreases-loop-rest : goal.decreases-loop-rest
decreases-loop-rest l = length l.name
