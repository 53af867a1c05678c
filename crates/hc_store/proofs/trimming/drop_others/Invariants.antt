use Rattle.std.proofs.Common.{◌≡◌, length}
use Rattle.hc_store.proofs.TrimLemmas.{Trims}
use Rattle.hc_store.proofs.trimming.drop_others.Given as goal

abbrev pub invariant-loop-room : goal.invariant-loop-room
invariant-loop-room g l = record {
  cap : l.keys.cap ≡ l.initial.keys.cap;
  trims : Trims l.room l.initial.keys.entries l.others l.keys.entries;
}

abbrev pub decreases-loop-room : goal.decreases-loop-room
decreases-loop-room g l = length l.keys.entries
