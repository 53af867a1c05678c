use Rattle.std.proofs.Common.{ℕ, ◌-◌, ◌≤◌, Bool, List, ◌++◌, length, take}
use Rattle.hc_incoming.specs.ResponseReading.{WasGiven, CanRead}
use Rattle.hc_incoming.proofs.responses.ResponseReader.hear.Given as goal

-- interim responses have ended with so many octets of the piece
abbrev pub invariant-loop-taken : goal.invariant-loop-taken
invariant-loop-taken l = record {
  within : l.used ≤ length l.piece;
  can : CanRead l.self;
  agrees : (to_head : Bool) (octets : List ℕ) → WasGiven to_head l.fn.self octets → WasGiven to_head l.self (octets ++ take l.used l.piece);
}

abbrev pub decreases-loop-taken : goal.decreases-loop-taken
decreases-loop-taken l = length l.piece - l.used
