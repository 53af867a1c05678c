-- The line that begins a record, as it is read: over all numbers, of which one over 10 ^ 18 is read as that number, out of every range.
use Rattle.std.specs.Prelude.{◌≡◌, ℕ, ◌<◌, ◌≤◌, Bool, true, false, List, ◌∷◌, ◌++◌, length, take, slice_index, Some, ◌==◌, codes}
use Rattle.std.specs.List.{list_any}
use Rattle.hc_fields.specs.Numbers.{decimal_of}
use Rattle.hc_transcript.specs.declared.format.Format.{Format}
use Rattle.hc_transcript.specs.declared.line.Line.{Line}
use Rattle.hc_transcript.specs.declared.line.ToldCause.{ToldCause}
use Rattle.hc_transcript.specs.declared.line.ToldCause.TheVariants.{Untold, NoExchange, Exchange}
use Rattle.hc_transcript.specs.Limits.{longest_line}
use Rattle.hc_transcript.specs.Records.{letter, line_has_cause}

-- a decimal without a leading zero writes the number
pub record Writes (text : List ℕ) (n : ℕ) : Type 0 where
  pub number : decimal_of text ≡ Some n
  pub no_leading_zero : slice_index text 0 ≡ 48 → length text ≡ 1

-- the text writes a cause: the number of an exchange, or `-` for none
abbrev pub WritesCause : List ℕ → ToldCause → Type 0
WritesCause text Untold = ⊥
WritesCause text NoExchange = text ≡ codes "-"
WritesCause text (Exchange n) = Writes text n

-- the text is a length, a space and a cause
pub record IsSizeAndCause (text : List ℕ) (size : ℕ) (cause : ToldCause) : Type 0 where
  pub numeral : List ℕ
  pub behind : List ℕ
  pub text_is : text ≡ numeral ++ 32 ∷ behind
  pub writes : Writes numeral size
  pub writes_cause : WritesCause behind cause

-- how the text of a line ends, which has a cause or none: with the length, and with the cause where it has one
abbrev pub IsEnd : Bool → List ℕ → ℕ → ToldCause → Type 0
IsEnd true text size cause = IsSizeAndCause text size cause
IsEnd false text size cause = Writes text size × (cause ≡ Untold)

-- the text is the line, without its line feed
pub record IsLineText (format : Format) (text : List ℕ) (l : Line) : Type 0 where
  pub number : List ℕ
  pub moment : List ℕ
  pub end : List ℕ
  pub text_is : text ≡ letter l.kind ∷ 32 ∷ (number ++ 32 ∷ (moment ++ 32 ∷ end))
  pub writes_number : Writes number l.number
  pub writes_moment : Writes moment l.moment
  pub ends : IsEnd (line_has_cause format l.kind) end l.size l.cause

-- whether an octet is a line feed
abbrev pub is_feed : ℕ → Bool
is_feed c = c == 10

-- the octets begin with that text and a line feed, within the octets that a line may have
pub record BeginsLine (octets text : List ℕ) : Type 0 where
  pub after : List ℕ
  pub octets_are : octets ≡ text ++ 10 ∷ after
  pub no_feed : list_any is_feed text ≡ false
  pub short : length text < longest_line

-- as many octets as a line may have, and no line feed among them
pub record HasLongLine (octets : List ℕ) : Type 0 where
  pub long : longest_line ≤ length octets
  pub no_feed : list_any is_feed (take longest_line octets) ≡ false
