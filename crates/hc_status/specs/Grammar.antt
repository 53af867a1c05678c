-- Lists of structured items as RFC 8941 section 3 spells them: which octets say what.
use Rattle.std.specs.Prelude.{◌≡◌, ℕ, ◌<◌, ◌≤◌, ◌⊎◌, Bool, true, List, [], ◌∷◌, ◌++◌, length, fold, flat_map, ℤ, pos, neg_ℤ, if◌then◌else◌}
use Rattle.std.specs.Str.{bytes_eq}
use Rattle.std.specs.List.{AllPass}
use Rattle.std.specs.Char.{is_ascii_digit}
use Rattle.std.specs.Str.Parse.{digits_value}
use Rattle.hc_status.specs.declared.items.Bare.{Bare}
use Rattle.hc_status.specs.declared.items.Bare.TheVariants.{Integer, Decimal, Str, Token, Bytes, Bool as Boolean}
use Rattle.hc_status.specs.declared.items.Parameter.{Parameter}
use Rattle.hc_status.specs.declared.items.Member.{Member}
use Rattle.hc_status.specs.Classes.{is_space, is_blank, is_key_start, is_key_octet, is_token_start, is_token_octet, is_base64_octet, is_printable, is_escaped}

-- 1*mostDIGIT
pub record IsDigits (most : ℕ) (digits : List ℕ) : Type 0 where
  pub some : 0 < length digits
  pub few : length digits ≤ most
  pub are_digits : AllPass is_ascii_digit digits

-- the minus of a negative number
abbrev pub minus : Bool → List ℕ
minus negative = if negative then 45 ∷ [] else []

-- a number with its sign
abbrev pub signed : Bool → ℕ → ℤ
signed negative n = if negative then neg_ℤ (pos n) else pos n

-- sf-integer = ["-"] 1*15DIGIT
pub record IsInteger (n : ℤ) (text : List ℕ) : Type 0 where
  pub negative : Bool
  pub digits : List ℕ
  pub is_digits : IsDigits 15 digits
  pub spelled : text ≡ minus negative ++ digits
  pub value_is : n ≡ signed negative (digits_value 10 digits)

-- sf-decimal = ["-"] 1*12DIGIT "." 1*3DIGIT
pub record IsDecimal (text : List ℕ) : Type 0 where
  pub negative : Bool
  pub whole : List ℕ
  pub fraction : List ℕ
  pub is_whole : IsDigits 12 whole
  pub is_fraction : IsDigits 3 fraction
  pub spelled : text ≡ minus negative ++ (whole ++ 46 ∷ fraction)

-- chr = unescaped / escaped: a backslash stands before a quote and a backslash, and before nothing else
abbrev pub character_text : ℕ → List ℕ
character_text b = if is_escaped b then 92 ∷ b ∷ [] else b ∷ []

-- sf-token = ( ALPHA / "*" ) *( tchar / ":" / "/" )
abbrev pub IsToken : List ℕ → Type 0
IsToken [] = ⊥
IsToken (b ∷ text) = (is_token_start b ≡ true) × AllPass is_token_octet text

-- bare-item = sf-integer / sf-decimal / sf-string / sf-token / sf-binary / sf-boolean
abbrev pub IsBare : Bare → List ℕ → Type 0
IsBare (Integer n) text = IsInteger n text
IsBare (Decimal decimal) text = (text ≡ decimal) × IsDecimal decimal
IsBare (Str value) text = (text ≡ 34 ∷ (flat_map character_text value ++ 34 ∷ [])) × AllPass is_printable value
IsBare (Token token) text = (text ≡ token) × IsToken token
IsBare (Bytes inner) text = (text ≡ 58 ∷ (inner ++ 58 ∷ [])) × AllPass is_base64_octet inner
IsBare (Boolean b) text = text ≡ 63 ∷ (if b then 49 else 48) ∷ []

-- key = ( lcalpha / "*" ) *( lcalpha / DIGIT / "_" / "-" / "." / "*" )
abbrev pub IsKey : List ℕ → Type 0
IsKey [] = ⊥
IsKey (b ∷ text) = (is_key_start b ≡ true) × AllPass is_key_octet text

-- [ "=" bare-item ]; nothing is the Boolean true
abbrev pub IsValue : Bare → List ℕ → Type 0
IsValue value text = ((value ≡ Boolean true) × (text ≡ [])) ⊎ ((item : List ℕ) × (text ≡ 61 ∷ item) × IsBare value item)

-- ";" *SP key [ "=" bare-item ]
pub record IsParameter (p : Parameter) (text : List ℕ) : Type 0 where
  pub spaces : List ℕ
  pub value_text : List ℕ
  pub are_spaces : AllPass is_space spaces
  pub is_key : IsKey p.key
  pub is_value : IsValue p.value value_text
  pub spelled : text ≡ 59 ∷ (spaces ++ (p.key ++ value_text))

-- parameters one behind another, as they are written: a key may stand twice
abbrev pub AreParameters : List Parameter → List ℕ → Type 0
AreParameters [] text = text ≡ []
AreParameters (p ∷ params) text = (one rest : List ℕ) × (text ≡ one ++ rest) × IsParameter p one × AreParameters params rest

-- the parameters with one more, whose value takes the place of an earlier one of that key
unfoldable pub with_parameter : List Parameter → Parameter → List Parameter
with_parameter [] p = p ∷ []
with_parameter (q ∷ params) p = if bytes_eq q.key p.key then p ∷ params else q ∷ with_parameter params p

-- what written parameters say: each key once, at its first place, with its last value (section 4.2.3.2)
abbrev pub parameters_of : List Parameter → List Parameter
parameters_of written = fold with_parameter [] written

-- sf-item = bare-item parameters
pub record IsMember (m : Member) (text : List ℕ) : Type 0 where
  pub item_text : List ℕ
  pub params_text : List ℕ
  pub written : List Parameter
  pub is_item : IsBare m.item item_text
  pub are_parameters : AreParameters written params_text
  pub params_are : m.params ≡ parameters_of written
  pub spelled : text ≡ item_text ++ params_text

-- OWS "," OWS
pub record IsComma (text : List ℕ) : Type 0 where
  pub before : List ℕ
  pub behind : List ℕ
  pub blank_before : AllPass is_blank before
  pub blank_behind : AllPass is_blank behind
  pub spelled : text ≡ before ++ 44 ∷ behind

-- members with a comma behind each
abbrev pub HaveCommas : List Member → List ℕ → Type 0
HaveCommas [] text = text ≡ []
HaveCommas (m ∷ members) text = (one comma rest : List ℕ)
    × (text ≡ one ++ (comma ++ rest)) × IsMember m one × IsComma comma × HaveCommas members rest

-- a member or more, with a comma behind each but the last: spaces may stand in front (section 4.2), and white space behind (section 4.2.1)
pub record AreMembers (list : List Member) (octets : List ℕ) : Type 0 where
  pub spaces : List ℕ
  pub members : List Member
  pub last : Member
  pub front : List ℕ
  pub last_text : List ℕ
  pub blanks : List ℕ
  pub are_spaces : AllPass is_space spaces
  pub have_commas : HaveCommas members front
  pub is_last : IsMember last last_text
  pub are_blanks : AllPass is_blank blanks
  pub spelled : octets ≡ spaces ++ (front ++ (last_text ++ blanks))
  pub list_is : list ≡ members ++ last ∷ []

-- sf-list: the octets are that list, which may have no member
abbrev pub IsList : List Member → List ℕ → Type 0
IsList list octets = ((list ≡ []) × AllPass is_space octets) ⊎ AreMembers list octets

-- an inner list begins in the octets, behind members with a comma behind each; what it has isn't looked at (this project's own choice)
pub record BeginsInnerList (octets : List ℕ) : Type 0 where
  pub spaces : List ℕ
  pub members : List Member
  pub front : List ℕ
  pub more : List ℕ
  pub are_spaces : AllPass is_space spaces
  pub have_commas : HaveCommas members front
  pub spelled : octets ≡ spaces ++ (front ++ 40 ∷ more)
