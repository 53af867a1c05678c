-- What is written of lines that wait, and what is dropped.
use Rattle.std.specs.Prelude.{◌≡◌, ◌⊎◌, ◌==◌, ◌+◌, ◌-◌, ◌^◌, ℕ, List, [], ◌∷◌, ◌++◌, Option, min}
use Rattle.std.specs.List.{count_by}
use Rattle.std.specs.Io.KnownBytes.{Appends}

-- how many line feeds there are
abbrev pub feeds_in : List ℕ → ℕ
feeds_in octets = count_by (λ octet. octet == 10) octets

-- known octets grow by all of those but the rest
pub record PutsAllBut (old new : Option (List ℕ)) (octets rest : List ℕ) : Type 0 where
  pub said : List ℕ
  pub octets_are : said ++ rest ≡ octets
  pub appended : Appends old new said

-- known octets grow by a beginning of the lines, and so many aren't written whole
pub record PutsLines (old new : Option (List ℕ)) (lines : List ℕ) (lost : ℕ) : Type 0 where
  pub said : List ℕ
  pub unsaid : List ℕ
  pub lines_are : said ++ unsaid ≡ lines
  pub appended : Appends old new said
  pub lost_is : lost ≡ min (feeds_in unsaid) (2 ^ 64 - 1)

-- known octets grow by a line feed, or by nothing
pub record Mends (old new : Option (List ℕ)) : Type 0 where
  pub mended : List ℕ
  pub mended_is : (mended ≡ []) ⊎ (mended ≡ 10 ∷ [])
  pub appended : Appends old new mended

-- known octets grow by a beginning of the lines, which may stand behind a line feed that ends a line which was cut before; and each line that isn't
-- written whole counts as lost
pub record WritesSome (old new : Option (List ℕ)) (lines : List ℕ) (lost_before lost_behind : ℕ) : Type 0 where
  pub mended : List ℕ
  pub mended_is : (mended ≡ []) ⊎ (mended ≡ 10 ∷ [])
  pub said : List ℕ
  pub unsaid : List ℕ
  pub lines_are : said ++ unsaid ≡ lines
  pub appended : Appends old new (mended ++ said)
  pub lost : lost_behind ≡ min (lost_before + min (feeds_in unsaid) (2 ^ 64 - 1)) (2 ^ 64 - 1)
