use Rattle.hc_index.proofs.FindLemmas.{IsMost}
use Rattle.hc_index.proofs.finding.furthest.Given as goal

-- the most so far and the most of what is left are the most of all
abbrev pub invariant-loop-live : goal.invariant-loop-live
invariant-loop-live l = IsMost l.among l.claim l.lives l.most l.live-iterator.iter.rest.now
