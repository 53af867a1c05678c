-- Quoted strings (RFC 9110 section 5.6.4).
use Rattle.std.specs.Prelude.{ℕ, Bool, true, false, ◌&&◌, ◌||◌, not, ◌==◌, ◌-◌, List, [], ◌∷◌, length, take, drop, Option, Some, None, if◌then◌else◌}
use Rattle.std.specs.Int.{is_in_range}
use Rattle.std.specs.Option.{option_and_then}
use Rattle.std.specs.Str.{bytes_eq}

-- a tab, a space, or an octet that is no control: what may stand behind a backslash
abbrev pub is_escapable : ℕ → Bool
is_escapable octet = octet == 9 || is_in_range 32 126 octet || is_in_range 128 255 octet

-- the same without the quote and the backslash: what may stand alone
abbrev pub is_plain : ℕ → Bool
is_plain octet = is_escapable octet && not (octet == 34) && not (octet == 92)

-- whether that is the text of a quoted string, where the flag tells that a backslash stands before it
abbrev pub is_quoted_text : Bool → List ℕ → Bool
is_quoted_text escaped [] = not escaped
is_quoted_text true (c ∷ cs) = is_escapable c && is_quoted_text false cs
is_quoted_text false (c ∷ cs) = if c == 92 then is_quoted_text true cs else is_plain c && is_quoted_text false cs

-- what the text says: the octet behind each backslash stands for itself
abbrev pub unescaped_from : Bool → List ℕ → List ℕ
unescaped_from escaped [] = []
unescaped_from true (c ∷ cs) = c ∷ unescaped_from false cs
unescaped_from false (c ∷ cs) = if c == 92 then unescaped_from true cs else c ∷ unescaped_from false cs

-- what the whole text says
abbrev pub unescaped : List ℕ → List ℕ
unescaped text = unescaped_from false text

-- a quote
abbrev pub quote_mark : List ℕ
quote_mark = 34 ∷ []

-- what stands behind a quote that the octets begin with
abbrev pub behind_quote : List ℕ → Option (List ℕ)
behind_quote octets = if bytes_eq (take 1 octets) quote_mark then Some (drop 1 octets) else None

-- what stands before a quote that the octets end with
abbrev pub before_quote : List ℕ → Option (List ℕ)
before_quote octets =
    if bytes_eq (drop (length octets - 1) octets) quote_mark then Some (take (length octets - 1) octets) else None

-- the text of a quoted string, which stands between two quotes
abbrev pub quoted_text : List ℕ → Option (List ℕ)
quoted_text octets =
    option_and_then (λ text. if is_quoted_text false text then Some text else None)
    (option_and_then before_quote (behind_quote octets))
