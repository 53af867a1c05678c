use Rattle.std.proofs.Common.{◌≡◌, ◌++◌, drop}
use Rattle.hc_index.specs.Lists.{candidates_in}
use Rattle.hc_index.proofs.candidates.candidates_in.Given as goal

-- those so far, and those of what is left
abbrev pub invariant-loop-live : goal.invariant-loop-live
invariant-loop-live l = l.candidates.items ++ candidates_in l.claim (drop l.live-index l.lives) ≡ candidates_in l.claim l.lives
