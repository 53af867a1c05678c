-- What is shown of octets that may be any.
use Rattle.std.specs.Prelude.{◌≡◌, ◌≤◌, ◌+◌, ◌*◌, true, ℕ, Bool, ◌&&◌, ◌==◌, nat_le, List, [], ◌∷◌, ◌++◌, length, take, codes, if◌then◌else◌}
use Rattle.std.specs.List.{flat_map, list_all}
use Rattle.std.specs.Fmt.{decimal}
use Rattle.std.specs.Char.Escape.{escape_ascii}

-- printable ASCII
abbrev pub is_printable : ℕ → Bool
is_printable octet = nat_le 32 octet && nat_le octet 126

-- what stands for an octet: what Rust's escape_ascii gives, but for a single quote
abbrev pub octet_text : ℕ → List ℕ
octet_text octet = if octet == 39 then 39 ∷ [] else escape_ascii octet

-- what stands for at most so many octets, the first ones
abbrev pub first_text : ℕ → List ℕ → List ℕ
first_text most octets = flat_map octet_text (take most octets)

-- a length
abbrev pub length_text : ℕ → List ℕ
length_text count = codes "(" ++ (decimal count ++ codes " octets)")

-- how many octets are shown at most
abbrev pub most_shown : ℕ
most_shown = 200

-- what is said behind octets that aren't all of so many
abbrev pub all_text : ℕ → List ℕ
all_text count = codes "..." ++ length_text count

-- what is said behind the octets that are shown, of so many
abbrev pub cut_text : ℕ → List ℕ
cut_text count = if nat_le count most_shown then [] else all_text count

-- octets
abbrev pub octets_text : List ℕ → List ℕ
octets_text octets = first_text most_shown octets ++ cut_text (length octets)

-- ---- what holds of each text that is shown

-- printable ASCII alone, and not much
pub record IsShown (text : List ℕ) : Type 0 where
  pub printable : list_all is_printable text ≡ true
  pub short : length text ≤ 4 * most_shown + 40
