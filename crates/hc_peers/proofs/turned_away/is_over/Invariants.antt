use Rattle.std.proofs.Common.{ℕ, List}
use Rattle.hc_peers.specs.TurnedAway.{IsRefused}
use Rattle.hc_peers.proofs.turned_away.is_over.Given as goal

-- what is dropped changes nothing of what was written
abbrev pub invariant-reads : goal.invariant-reads
invariant-reads g l =
    (refusal : List ℕ) → IsRefused g.S.Stream.has_got g.S.Stream.was_ended refusal l.initial.stream → IsRefused g.S.Stream.has_got g.S.Stream.was_ended refusal l.stream
