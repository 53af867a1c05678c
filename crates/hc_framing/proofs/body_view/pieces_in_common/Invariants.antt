use Rattle.std.proofs.Common.{◌≡◌, ◌++◌, take}
use Rattle.std.specs.List.{flat_map}
use Rattle.hc_framing.specs.Pieces.{piece_at}
use Rattle.hc_framing.proofs.body_view.pieces_in_common.Given as goal

-- the octets begin with the pieces so far
abbrev pub invariant-loop-at : goal.invariant-loop-at
invariant-loop-at l = l.fn.other ≡ flat_map (piece_at l.octets) (take l.at-index l.pieces) ++ l.rest
