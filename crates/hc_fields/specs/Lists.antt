-- The members of a list in the value of a field (RFC 9110 section 5.6.1).
use Rattle.std.specs.Prelude.{ℕ, Bool, true, false, ◌||◌, ◌+◌, not, ◌==◌, List, [], ◌∷◌, length, reverse, map, filter, if◌then◌else◌}
use Rattle.std.specs.List.{flat_map, onto_first}
use Rattle.hc_fields.specs.declared.fields.Field.{Field}
use Rattle.hc_fields.specs.declared.lists.Quoting.{Quoting}
use Rattle.hc_fields.specs.declared.lists.Quoting.TheVariants.{Outside, Inside, Escaped}
use Rattle.hc_fields.specs.Values.{values_of}

-- ---- the white space around a member (RFC 9110 section 5.6.3)

-- a space or a tab
abbrev pub is_blank : ℕ → Bool
is_blank octet = octet == 32 || octet == 9

-- the text from its first octet on that is no space or tab
abbrev pub without_leading_blanks : List ℕ → List ℕ
without_leading_blanks [] = []
without_leading_blanks (c ∷ cs) = if is_blank c then without_leading_blanks cs else c ∷ cs

-- the text up to its last octet that is no space or tab
abbrev pub without_trailing_blanks : List ℕ → List ℕ
without_trailing_blanks text = reverse (without_leading_blanks (reverse text))

-- the text without the spaces and tabs around it
abbrev pub trimmed : List ℕ → List ℕ
trimmed text = without_trailing_blanks (without_leading_blanks text)

-- ---- the commas between members: those outside quoted strings (RFC 9110 section 5.6.4)

-- where the octet behind this one stands: a quote opens and closes a quoted string, a backslash inside of one escapes the next octet
abbrev pub quoting_behind : Quoting → ℕ → Quoting
quoting_behind Outside octet = if octet == 34 then Inside else Outside
quoting_behind Inside octet = if octet == 34 then Outside else if octet == 92 then Escaped else Inside
quoting_behind Escaped octet = Inside

-- whether the octet ends a piece: a comma outside quoted strings
abbrev pub ends_piece : Quoting → ℕ → Bool
ends_piece Outside octet = octet == 44
ends_piece Inside octet = false
ends_piece Escaped octet = false

-- the pieces between those commas; a quoted string that no quote closes reaches to the end
abbrev pub pieces : Quoting → List ℕ → List (List ℕ)
pieces quoting [] = [] ∷ []
pieces quoting (c ∷ cs) =
    if ends_piece quoting c then [] ∷ pieces Outside cs else onto_first c (pieces (quoting_behind quoting c) cs)

-- ---- the members

-- whether there is no octet
abbrev pub is_empty : List ℕ → Bool
is_empty text = length text == 0

-- the members of a list: its pieces, trimmed, without the empty ones
abbrev pub list_members : List ℕ → List (List ℕ)
list_members value = filter (λ member. not (is_empty member)) (map trimmed (pieces Outside value))

-- the members of the lines of that name, in order; each line is a list of its own
abbrev pub members_of : List ℕ → List Field → List (List ℕ)
members_of name fields = flat_map list_members (values_of name fields)

-- ---- lines whose quoted strings are closed

-- where the octet behind the text stands
abbrev pub quoting_at_end : Quoting → List ℕ → Quoting
quoting_at_end quoting [] = quoting
quoting_at_end quoting (c ∷ cs) = quoting_at_end (quoting_behind quoting c) cs

-- whether that is outside quoted strings
abbrev pub is_outside : Quoting → Bool
is_outside Outside = true
is_outside Inside = false
is_outside Escaped = false

-- whether each quoted string of the value is closed
abbrev pub closes_quotes : List ℕ → Bool
closes_quotes value = is_outside (quoting_at_end Outside value)

-- ---- what private functions return

-- how many octets stand before the first comma that ends a piece
abbrev pub piece_len : Quoting → List ℕ → ℕ
piece_len quoting [] = 0
piece_len quoting (c ∷ cs) = if ends_piece quoting c then 0 else piece_len (quoting_behind quoting c) cs + 1
