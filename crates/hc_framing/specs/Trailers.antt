-- The trailer section of a chunked body: field lines, and an empty line (RFC 9112 section 7.1.2).
use Rattle.std.specs.Prelude.{◌≡◌, ℕ, ◌+◌, ◌<◌, ◌≤◌, ◌⊎◌, Bool, not, ◌||◌, List, [], ◌∷◌, ◌++◌, length, All, ◌==◌}
use Rattle.std.specs.List.{flat_map}
use Rattle.httparse.specs.Grammar.{Field, IsField, print_field, LineEnd, print_end, AllPass}

-- field lines in the syntax of those of a head: at most 100, of at most 65536 octets together
pub record AreTrailerLines (fields : List Field) : Type 0 where
  pub are : All IsField fields
  pub few : length fields ≤ 100
  pub short : length (flat_map print_field fields) ≤ 65536

-- the octets are such lines, the empty line that ends them, and then rest
pub record IsTrailerThen (octets rest : List ℕ) : Type 0 where
  pub fields : List Field
  pub are : AreTrailerLines fields
  pub end : LineEnd
  pub octets_are : octets ≡ flat_map print_field fields ++ (print_end end ++ rest)

-- no octets can follow that make a front of them a trailer section
abbrev pub NeverHasTrailer : List ℕ → Type 0
NeverHasTrailer octets = (more rest : List ℕ) → ¬ (IsTrailerThen (octets ++ more) rest)

-- neither CR nor LF
abbrev pub is_plain : ℕ → Bool
is_plain b = not (b == 13 || b == 10)

-- there is room behind those lines for one more of so many octets
pub record HasRoomFor (fields : List Field) (size : ℕ) : Type 0 where
  pub few : length fields < 100
  pub short : length (flat_map print_field fields) + size ≤ 65536

-- the octets are field lines and a line that hasn't ended, of which a CR may have come; it is empty, or the limits allow it with its LF
pub record IsOpenTrailer (octets : List ℕ) : Type 0 where
  pub fields : List Field
  pub are : AreTrailerLines fields
  pub text : List ℕ
  pub plain : AllPass is_plain text
  pub end : List ℕ
  pub begun : (end ≡ []) ⊎ (end ≡ 13 ∷ [])
  pub room : (text ≡ []) ⊎ HasRoomFor fields (length text + length end + 1)
  pub octets_are : octets ≡ flat_map print_field fields ++ (text ++ end)
