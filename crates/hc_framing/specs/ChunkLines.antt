-- The line before a chunk (RFC 9112 section 7.1), with at most 16 digits and 4096 octets.
use Rattle.std.specs.Prelude.{◌≡◌, ℕ, ◌<◌, ◌≤◌, Bool, ◌||◌, ◌==◌, List, [], ◌∷◌, ◌++◌, length, Option, None, Some}
use Rattle.std.specs.Bool.{⊤}
use Rattle.std.specs.Char.{is_ascii_hexdigit}
use Rattle.std.specs.Int.{is_in_range}
use Rattle.std.specs.List.{AllPass}
use Rattle.std.specs.Str.Parse.{digits_value}
use Rattle.hc_fields.specs.Lists.{is_blank}

-- the digits of the size, the white space behind them, and what follows a semicolon
pub record ChunkLine : Type 0 where
  pub digits : List ℕ
  pub padding : List ℕ
  pub extension : Option (List ℕ)

-- CR LF
abbrev pub line_end : List ℕ
line_end = 13 ∷ 10 ∷ []

-- a semicolon and the text behind it, or nothing
abbrev pub extension_text : Option (List ℕ) → List ℕ
extension_text None = []
extension_text (Some text) = 59 ∷ text

-- the octets of a chunk line
abbrev pub chunk_line_text : ChunkLine → List ℕ
chunk_line_text line = line.digits ++ (line.padding ++ (extension_text line.extension ++ line_end))

-- a tab, or no control
abbrev pub is_extension_octet : ℕ → Bool
is_extension_octet octet = octet == 9 || (is_in_range 32 126 octet || is_in_range 128 255 octet)

-- the text of an extension has such octets alone
abbrev pub IsExtension : Option (List ℕ) → Type 0
IsExtension None = ⊤
IsExtension (Some text) = AllPass is_extension_octet text

-- each part has its octets, and the line keeps to the limits
pub record IsChunkLine (line : ChunkLine) : Type 0 where
  pub some_digit : 0 < length line.digits
  pub few_digits : length line.digits ≤ 16
  pub digits : AllPass is_ascii_hexdigit line.digits
  pub padding : AllPass is_blank line.padding
  pub extension : IsExtension line.extension
  pub short : length (chunk_line_text line) ≤ 4096

-- the octets begin with a chunk line, which announces a chunk of that size and takes len of them
pub record BeginsChunkLine (octets : List ℕ) (size len : ℕ) : Type 0 where
  pub line : ChunkLine
  pub rest : List ℕ
  pub is : IsChunkLine line
  pub octets_are : octets ≡ chunk_line_text line ++ rest
  pub size_is : size ≡ digits_value 16 line.digits
  pub len_is : len ≡ length (chunk_line_text line)

-- no front of the octets is a chunk line
abbrev pub HasNoChunkLine : List ℕ → Type 0
HasNoChunkLine octets = (size len : ℕ) → ¬ (BeginsChunkLine octets size len)

-- no octets can follow that make a front of them a chunk line
abbrev pub NeverHasChunkLine : List ℕ → Type 0
NeverHasChunkLine octets = (more : List ℕ) (size len : ℕ) → ¬ (BeginsChunkLine (octets ++ more) size len)

-- some octets can follow that make all of them a chunk line
abbrev pub CanBecomeChunkLine : List ℕ → Type 0
CanBecomeChunkLine octets = (more : List ℕ) × (size : ℕ) × BeginsChunkLine (octets ++ more) size (length (octets ++ more))
