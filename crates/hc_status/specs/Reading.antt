-- What octets are as a list of structured items, after the parsing algorithms of RFC 8941 section 4.2.
use Rattle.std.specs.Prelude.{ℕ, zero, suc, Bool, true, false, ◌&&◌, ◌==◌, nat_lt, nat_le, List, [], ◌∷◌, ◌++◌, length, drop, if◌then◌else◌, Option, Some, None, Result, Ok, Err}
use Rattle.std.specs.List.{list_all, prefix_len, take_while}
use Rattle.std.specs.Char.{is_ascii_digit}
use Rattle.std.specs.Str.Parse.{digits_value}
use Rattle.hc_status.specs.declared.fault.SfFault.{SfFault}
use Rattle.hc_status.specs.declared.fault.SfFault.TheVariants.{Syntax, InnerList}
use Rattle.hc_status.specs.declared.items.Bare.{Bare}
use Rattle.hc_status.specs.declared.items.Bare.TheVariants.{Integer, Decimal, Str, Token, Bytes, Bool as Boolean}
use Rattle.hc_status.specs.declared.items.Parameter.{Parameter}
use Rattle.hc_status.specs.declared.items.Member.{Member}
use Rattle.hc_status.specs.Grammar.{signed, with_parameter}
use Rattle.hc_status.specs.Classes.{is_space, is_blank, is_key_start, is_key_octet, is_token_start, is_token_octet, is_number_start, is_number_octet, is_base64_octet, is_printable, is_escaped}

-- The octets that are named by their numbers: 34 is a quote, 40 an opening parenthesis, 44 a comma, 45 a minus, 46 a point, 48 and 49
-- are the digits of a Boolean, 58 is a colon, 59 a semicolon, 61 an equals sign, 63 a question mark, 92 a backslash.

-- what follows where the first was read
infixl 10 ◌>>=◌
abbrev pub ◌>>=◌ : {A B : Type 0} → Option A → (A → Option B) → Option B
(Some x) >>= f = f x
None >>= f = None

-- the same of a result
abbrev pub result_and_then : {A B : Type 0} → (A → Result B SfFault) → Result A SfFault → Result B SfFault
result_and_then f (Ok x) = f x
result_and_then f (Err fault) = Err fault

-- that fault where nothing was read
abbrev pub ok_or : {A : Type 0} → SfFault → Option A → Result A SfFault
ok_or fault (Some x) = Ok x
ok_or fault None = Err fault

-- what stands behind the octets at the front that pass
abbrev pub behind : (ℕ → Bool) → List ℕ → List ℕ
behind passes text = drop (prefix_len passes text) text

-- ---- numbers (section 4.2.4)

-- one digit or more, and no more than that
abbrev pub is_digits : ℕ → List ℕ → Bool
is_digits most text = nat_lt 0 (length text) && (nat_le (length text) most && list_all is_ascii_digit text)

-- whether a minus stands in front
abbrev pub is_negative : List ℕ → Bool
is_negative [] = false
is_negative (b ∷ text) = b == 45

-- the text without its minus
abbrev pub unsigned : List ℕ → List ℕ
unsigned [] = []
unsigned (b ∷ text) = if b == 45 then text else b ∷ text

-- the integer of these digits
abbrev pub integer_of : Bool → List ℕ → Option Bare
integer_of negative digits =
    if is_digits 15 digits then Some (Integer (signed negative (digits_value 10 digits))) else None

-- whether a point and digits make a decimal of the digits before them
abbrev pub makes_decimal : List ℕ → ℕ → List ℕ → Bool
makes_decimal whole b fraction = b == 46 && (is_digits 12 whole && is_digits 3 fraction)

-- the number that a text is, by the digits behind its sign and what stands behind them: nothing, or a point and more digits
abbrev pub number_with : List ℕ → List ℕ → List ℕ → Option Bare
number_with text whole [] = integer_of (is_negative text) whole
number_with text whole (b ∷ fraction) = if makes_decimal whole b fraction then Some (Decimal text) else None

-- the number that a text is
unfoldable pub number_of : List ℕ → Option Bare
number_of text = number_with text (take_while is_ascii_digit (unsigned text)) (behind is_ascii_digit (unsigned text))

-- ---- strings, tokens, byte sequences and Booleans (sections 4.2.5 to 4.2.8)

-- the string behind what of it was read, and what stands behind its closing quote; a backslash stands before a quote and a
-- backslash, and before nothing else
unfoldable pub string_from : List ℕ → List ℕ → Option (List ℕ × List ℕ)
string_from value [] = None
string_from value (b ∷ []) = if b == 34 then Some (value, []) else None
string_from value (b ∷ c ∷ text) =
    if b == 34 then Some (value, c ∷ text)
    else (if b == 92 then (if is_escaped c then string_from (value ++ c ∷ []) text else None)
    else (if is_printable b then string_from (value ++ b ∷ []) (c ∷ text) else None))

-- the byte sequence, if a colon closes it
abbrev pub closed_bytes : List ℕ → List ℕ → Option (Bare × List ℕ)
closed_bytes inner [] = None
closed_bytes inner (b ∷ text) = if b == 58 then Some (Bytes inner, text) else None

-- the Boolean behind a question mark
abbrev pub boolean_at : List ℕ → Option (Bare × List ℕ)
boolean_at [] = None
boolean_at (b ∷ text) = if b == 48 then Some (Boolean false, text) else (if b == 49 then Some (Boolean true, text) else None)

-- ---- bare items (section 4.2.3.1)

-- the bare item at the front, which its first octet tells, and what stands behind it
unfoldable pub bare_at : List ℕ → Option (Bare × List ℕ)
bare_at [] = None
bare_at (b ∷ text) =
    if b == 34 then (string_from [] text >>= λ read. Some (Str read.0, read.1))
    else (if b == 58 then closed_bytes (take_while is_base64_octet text) (behind is_base64_octet text)
    else (if b == 63 then boolean_at text
    else (if is_token_start b then Some (Token (take_while is_token_octet (b ∷ text)), behind is_token_octet (b ∷ text))
    else (if is_number_start b then (number_of (take_while is_number_octet (b ∷ text)) >>= λ number. Some (number, behind is_number_octet (b ∷ text)))
    else None))))

-- ---- parameters (sections 4.2.3.2 and 4.2.3.3)

-- the key at the front, and what stands behind it
abbrev pub key_at : List ℕ → Option (List ℕ × List ℕ)
key_at [] = None
key_at (b ∷ text) = if is_key_start b then Some (take_while is_key_octet (b ∷ text), behind is_key_octet (b ∷ text)) else None

-- the value behind a key: a bare item behind `=`, else the Boolean true
abbrev pub value_at : List ℕ → Option (Bare × List ℕ)
value_at [] = Some (Boolean true, [])
value_at (b ∷ text) = if b == 61 then bare_at text else Some (Boolean true, b ∷ text)

-- the parameter behind its semicolon, where spaces may stand before the key
unfoldable pub parameter_at : List ℕ → Option (Parameter × List ℕ)
parameter_at text = do
  key ← key_at (behind is_space text)
  value ← value_at key.1
  Some (record { key = key.0; value = value.0 }, value.1)

-- the parameters, with those that were read, and what stands behind them; n is no less than the length of the text
unfoldable pub parameters_from : ℕ → List Parameter → List ℕ → Option (List Parameter × List ℕ)
parameters_from zero params text = Some (params, text)
parameters_from (suc n) params [] = Some (params, [])
parameters_from (suc n) params (b ∷ text) =
    if b == 59 then (parameter_at text >>= λ p. parameters_from n (with_parameter params p.0) p.1) else Some (params, b ∷ text)

-- the parameters at the front
abbrev pub parameters_at : List ℕ → Option (List Parameter × List ℕ)
parameters_at text = parameters_from (length text) [] text

-- ---- lists (sections 4.2 and 4.2.1)

-- the item at the front with its parameters
unfoldable pub item_at : List ℕ → Option (Member × List ℕ)
item_at text = do
  item ← bare_at text
  params ← parameters_at item.1
  Some (record { item = item.0; params = params.0 }, params.1)

-- the member at the front, if it is no inner list
abbrev pub member_at : List ℕ → Result (Member × List ℕ) SfFault
member_at [] = Err Syntax
member_at (b ∷ text) = if b == 40 then Err InnerList else ok_or Syntax (item_at (b ∷ text))

-- what follows a member and white space: the end, or a comma, white space and more
abbrev pub after_member : List Member → (List ℕ → Result (List Member) SfFault) → List ℕ → Result (List Member) SfFault
after_member members more [] = Ok members
after_member members more (b ∷ text) = if b == 44 then more (behind is_blank text) else Err Syntax

-- the members of one or more, with those that were read; n is no less than the length of the text
unfoldable pub members_from : ℕ → List Member → List ℕ → Result (List Member) SfFault
members_from zero members text = Err Syntax
members_from (suc n) members text = result_and_then
    (λ m. after_member (members ++ m.0 ∷ []) (members_from n (members ++ m.0 ∷ [])) (behind is_blank m.1))
    (member_at text)

-- the members of a list that has one at least
abbrev pub members_at : List ℕ → Result (List Member) SfFault
members_at text = members_from (length text) [] text

-- the list that the octets are, without the spaces in front
abbrev pub trimmed_list_of : List ℕ → Result (List Member) SfFault
trimmed_list_of [] = Ok []
trimmed_list_of (b ∷ text) = members_at (b ∷ text)

-- the list that the octets are
unfoldable pub list_of : List ℕ → Result (List Member) SfFault
list_of octets = trimmed_list_of (behind is_space octets)
