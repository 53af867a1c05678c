use Rattle.std.proofs.Common.{◌≤◌, ◌+◌, ◌-◌, ◌^◌, drop, min}
use Rattle.hc_flow.specs.Weights.{joined_in, size_of}
use Rattle.hc_flow.proofs.weight.weight_of_pieces.Given as goal

-- the pieces so far are weighed, and the others are left
abbrev pub invariant-pieces : goal.invariant-pieces
invariant-pieces l = record {
  most : l.weight + size_of (drop l.piece-index l.pieces) ≤ size_of l.pieces;
  some : min (size_of l.pieces) 1 ≤ l.weight + size_of (drop l.piece-index l.pieces);
  own : min (joined_in l.pieces) (2 ^ 64 - 1) ≤ l.weight + joined_in (drop l.piece-index l.pieces);
}
