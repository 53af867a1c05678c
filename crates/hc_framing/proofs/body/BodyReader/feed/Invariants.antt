use Rattle.std.proofs.Common.{ℕ, ◌-◌, ◌≤◌, List, ◌++◌, length, take}
use Rattle.hc_framing.specs.declared.framing.Framing.{Framing}
use Rattle.hc_framing.specs.BodyReading.{AgreesBody}
use Rattle.hc_framing.proofs.body.BodyReader.feed.Given as goal

abbrev pub invariant-loop-used : goal.invariant-loop-used
invariant-loop-used l = record {
  within : l.used ≤ length l.piece;
  agrees : (framing : Framing) (octets : List ℕ) → AgreesBody framing l.fn.self octets → AgreesBody framing l.self (octets ++ take l.used l.piece);
}

abbrev pub decreases-loop-used : goal.decreases-loop-used
decreases-loop-used l = length l.piece - l.used
