use Rattle.std.proofs.Common.{Bool, length}
use Rattle.hc_flow.specs.Passing.{Moves, Stays}
use Rattle.hc_flow.proofs.outbox.Outbox.write_to.Given as goal

-- a front was written
abbrev pub invariant-writes : goal.invariant-writes
invariant-writes g l = record {
  given : Stays (g.S.Stream.has_given l.initial.stream) (g.S.Stream.has_given l.stream);
  got : Moves (g.S.Stream.has_got l.initial.stream) (g.S.Stream.has_got l.stream) l.initial.self l.self;
  ended : (ended : Bool) → g.S.Stream.was_ended l.initial.stream ended → g.S.Stream.was_ended l.stream ended;
  fails : g.S.Stream.has_failed l.initial.stream → g.S.Stream.has_failed l.stream;
}

abbrev pub decreases-writes : goal.decreases-writes
decreases-writes g l = length l.self
