use Rattle.std.proofs.Common.{◌-◌, ◌≤◌, length, take, drop}
use Rattle.std.specs.List.{flat_map}
use Rattle.hc_framing.specs.Pieces.{AreInOrder, end_of, piece_at}
use Rattle.hc_framing.specs.BodyReading.{AgreesFraming}
use Rattle.hc_framing.proofs.noting.note_parts.Given as goal

-- the reader was given the octets up to a place, and the pieces so far are those of the body, in order and before that place
abbrev pub invariant-loop-at : goal.invariant-loop-at
invariant-loop-at l = record {
  behind : l.from ≤ l.at;
  agrees : AgreesFraming l.fn.framing l.reader (take (l.at - l.from) (drop l.from l.octets)) (flat_map (piece_at l.octets) l.pieces.items);
  ordered : AreInOrder 0 l.pieces.items;
  before : end_of 0 l.pieces.items ≤ l.at;
}

abbrev pub decreases-loop-at : goal.decreases-loop-at
decreases-loop-at l = length l.octets - l.at
