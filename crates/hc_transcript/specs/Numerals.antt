-- Plumbing: a number and the space behind it.
use Rattle.std.specs.Prelude.{◌≡◌, ℕ, List, ◌∷◌, ◌++◌}
use Rattle.hc_transcript.specs.Lines.{Writes}

-- the text is a decimal that writes the number, a space, and the rest
pub record SplitsAtSpace (text : List ℕ) (n : ℕ) (rest : List ℕ) : Type 0 where
  pub numeral : List ℕ
  pub text_is : text ≡ numeral ++ 32 ∷ rest
  pub writes : Writes numeral n
