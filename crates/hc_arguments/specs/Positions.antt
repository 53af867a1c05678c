-- Positions, and hyphens between two of them.
use Rattle.std.specs.Prelude.{ℕ, Bool, ◌==◌, ◌+◌, [], ◌∷◌, Option, Some, None, drop, take, if◌then◌else◌, nat_le, option_and_then}
use Rattle.clap.specs.Words.{Text}
use Rattle.hc_shown.specs.declared.span.Span.{Span}
use Rattle.hc_transcript.specs.Limits.{greatest_number}
use Rattle.hc_options.specs.Values.{number_within}

-- the positive number that one or more digits write, at most 999999999999
abbrev pub positive_of : Text → Option ℕ
positive_of text = number_within 1 greatest_number text

abbrev pub is_hyphen : ℕ → Bool
is_hyphen octet = octet == 45

-- how many octets stand before the first hyphen
abbrev pub len_before_hyphen : Text → ℕ
len_before_hyphen [] = 0
len_before_hyphen (c ∷ cs) = if is_hyphen c then 0 else len_before_hyphen cs + 1

-- the positions from one to another, if there are some
abbrev pub span_between : ℕ → ℕ → Option Span
span_between first last = if nat_le first last then Some (record { first = first; last = last }) else None

-- those from one to what stands after a hyphen, or one alone
abbrev pub span_from : ℕ → Text → Option Span
span_from first [] = span_between first first
span_from first (hyphen ∷ last) = option_and_then (span_between first) (positive_of last)

-- what stands before the first hyphen, and what after it
abbrev pub span_of : Text → Option Span
span_of text = option_and_then (λ first. span_from first (drop (len_before_hyphen text) text)) (positive_of (take (len_before_hyphen text) text))
