-- The positions that a table has.
use Rattle.std.specs.Prelude.{◌≡◌, ◌<◌, ◌^◌, ℕ, false, List, [], ◌∷◌, ◌++◌}
use Rattle.std.specs.List.{list_any}
use Rattle.hc_transcript.specs.Lines.{is_feed}

-- positions that can be read: fewer than that many records
abbrev pub AreFew : List ℕ → Type 0
AreFew [] = Unit {0}
AreFew (position ∷ positions) = (position < 10 ^ 18) × AreFew positions

-- the text is a line, a line feed, and what stands behind it
pub record IsLineAnd (text line behind : List ℕ) : Type 0 where
  pub text_is : text ≡ line ++ 10 ∷ behind
  pub no_feed : list_any is_feed line ≡ false
