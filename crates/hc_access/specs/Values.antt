-- Values as printable ASCII without a double quote, and what holds of lines of such.
use Rattle.std.specs.Prelude.{◌≡◌, true, ℕ, Bool, ◌==◌, ◌&&◌, ◌+◌, ◌/◌, ◌%◌, not, nat_le, List, [], ◌∷◌, ◌++◌, get_or, codes, decimal, if◌then◌else◌}
use Rattle.std.specs.List.{flat_map, list_all}

-- ---- values: whatever a stranger sent, they end where the line says so

-- printable ASCII
abbrev pub is_printable : ℕ → Bool
is_printable octet = nat_le 32 octet && nat_le octet 126

-- an octet that stands for itself: printable, and neither a double quote nor a backslash
abbrev pub is_plain : ℕ → Bool
is_plain octet = is_printable octet && (not (octet == 34) && not (octet == 92))

-- a hexadecimal digit
abbrev pub hexadecimal : ℕ → ℕ
hexadecimal digit = get_or (codes "0123456789ABCDEF") digit 48

-- what stands for an octet: itself, or \xHH
abbrev pub octet_text : ℕ → List ℕ
octet_text octet = if is_plain octet then octet ∷ [] else 92 ∷ 120 ∷ hexadecimal (octet / 16) ∷ hexadecimal (octet % 16) ∷ []

-- a value, or a hyphen where it is empty
abbrev pub value_text : List ℕ → List ℕ
value_text [] = codes "-"
value_text (octet ∷ octets) = flat_map octet_text (octet ∷ octets)

-- the same in double quotes
abbrev pub quoted : List ℕ → List ℕ
quoted value = 34 ∷ value_text value ++ 34 ∷ []

-- how long it took, in milliseconds, and the line's end
abbrev pub end_text : ℕ → List ℕ
end_text milliseconds = decimal milliseconds ++ 10 ∷ []

-- ---- what holds of each line

-- how many double quotes there are
abbrev pub quotes_in : List ℕ → ℕ
quotes_in [] = 0
quotes_in (octet ∷ octets) = if octet == 34 then 1 + quotes_in octets else quotes_in octets

-- printable ASCII, with so many double quotes
pub record HasQuotes (count : ℕ) (text : List ℕ) : Type 0 where
  pub printable : list_all is_printable text ≡ true
  pub quotes : quotes_in text ≡ count

-- whole lines, where so many double quotes stand in the first one before: printable ASCII with ten double quotes in all, and a line feed
abbrev pub are_lines_behind : ℕ → List ℕ → Bool
are_lines_behind count [] = count == 0
are_lines_behind count (octet ∷ octets) =
    if octet == 10 then (count == 10) && are_lines_behind 0 octets
    else is_printable octet && are_lines_behind (if octet == 34 then 1 + count else count) octets

-- whole lines
abbrev pub are_lines : List ℕ → Bool
are_lines octets = are_lines_behind 0 octets
