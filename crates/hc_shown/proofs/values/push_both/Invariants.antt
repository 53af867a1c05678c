use Rattle.std.proofs.Common.{◌≡◌, ◌+◌, ◌++◌, length, string_bytes}
use Rattle.hc_shown.specs.Pieces.{both_text, fitting_text}
use Rattle.hc_shown.proofs.values.push_both.Given as goal

-- what was put and what fits of the pieces that are left are the whole text
abbrev pub invariant-loop-piece : goal.invariant-loop-piece
invariant-loop-piece l = record {
  can : (goal.iterator-loop-piece).can_next l.piece-iterator;
  finite : (goal.iterator-loop-piece).is_finite l.piece-iterator;
  text : string_bytes l.out ++ fitting_text (length l.one + length l.other) l.room l.piece-iterator ≡ string_bytes l.initial.out ++ both_text l.one l.other;
}
