-- Which octets are hidden in a text that may have URIs: userinfo, and the values of parameters that are named like secrets.
use Rattle.std.specs.Prelude.{ℕ, Bool, true, false, ◌+◌, ◌-◌, ◌&&◌, ◌||◌, ◌==◌, not, nat_lt, List, [], ◌∷◌, ◌++◌, length, take, take_while, if◌then◌else◌}
use Rattle.std.specs.List.{before_last, prefix_len, slice_index}
use Rattle.hc_shown.specs.declared.values.Piece.{Piece}
use Rattle.hc_shown.specs.declared.values.Piece.TheVariants.{Hidden, Octet}
use Rattle.hc_shown.specs.declared.hidden.Parameter.{Parameter}
use Rattle.hc_shown.specs.declared.hidden.Parameter.TheVariants.{Name, Other, Value}
use Rattle.hc_shown.specs.declared.hidden.Place.{Place}
use Rattle.hc_shown.specs.Secrets.{is_secret_name}

-- ---- what ends what

-- `"`, `<`, `>`, a space or a tab, none of which stands in a URI
abbrev pub ends_uri : ℕ → Bool
ends_uri octet = octet == 34 || octet == 60 || octet == 62 || octet == 32 || octet == 9

-- or `/`, `?` or `#` (RFC 3986 section 3.2)
abbrev pub ends_authority : ℕ → Bool
ends_authority octet = octet == 47 || octet == 63 || octet == 35 || ends_uri octet

-- `?`, `#`, `&` or `;`
abbrev pub begins_parameter : ℕ → Bool
begins_parameter octet = octet == 63 || octet == 35 || octet == 38 || octet == 59

-- `=`, or what stands in no name
abbrev pub ends_name : ℕ → Bool
ends_name octet = octet == 61 || begins_parameter octet || ends_uri octet

-- `&` or `#`, or what ends the URI
abbrev pub ends_value : ℕ → Bool
ends_value octet = octet == 38 || octet == 35 || ends_uri octet

-- ---- where an octet stands

-- how many octets of userinfo there are behind two slashes: those of the authority before its last `@`
abbrev pub userinfo_length : List ℕ → ℕ
userinfo_length octets = length (before_last (λ octet. octet == 64) (take_while (λ octet. not (ends_authority octet)) octets))

-- how many octets of a name there are
abbrev pub name_length : List ℕ → ℕ
name_length octets = prefix_len (λ octet. not (ends_name octet)) octets

-- whether the octets begin with a name that is like a secret's, and a `=`
abbrev pub names_secret : List ℕ → Bool
names_secret octets = slice_index octets (name_length octets) == 61 && is_secret_name (take (name_length octets) octets)

-- what begins behind an octet, before the others
abbrev pub begun_behind : ℕ → List ℕ → Parameter
begun_behind octet rest = if begins_parameter octet && names_secret rest then Name else Other

abbrev pub parameter_behind : Parameter → ℕ → List ℕ → Parameter
parameter_behind Other octet rest = begun_behind octet rest
parameter_behind Name octet rest = if octet == 61 then Value else Name
parameter_behind Value octet rest = if ends_value octet then begun_behind octet rest else Value

-- how many octets of userinfo are left behind an octet, before the others
abbrev pub userinfo_behind : Place → ℕ → List ℕ → ℕ
userinfo_behind place octet rest = if place.slash && octet == 47 then userinfo_length rest else place.userinfo - 1

abbrev pub place_behind : Place → ℕ → List ℕ → Place
place_behind place octet rest = record {
  slash = octet == 47;
  userinfo = userinfo_behind place octet rest;
  parameter = parameter_behind place.parameter octet rest;
}

-- ---- what is hidden

abbrev pub is_value : Parameter → Bool
is_value Other = false
is_value Name = false
is_value Value = true

-- whether an octet that stands there is of userinfo, or of the value of a parameter that is named like a secret
abbrev pub is_hidden : Place → ℕ → Bool
is_hidden place octet = nat_lt 0 place.userinfo || (is_value place.parameter && not (ends_value octet))

-- whether the first octet of those that stand there is shown, if there is one
abbrev pub begins_shown : Place → List ℕ → Bool
begins_shown place [] = true
begins_shown place (octet ∷ rest) = not (is_hidden place octet)

-- so many hidden octets, if there are any
abbrev pub hidden_run : ℕ → List Piece
hidden_run count = if count == 0 then [] else Hidden count ∷ []

-- the pieces of octets that stand there, behind so many hidden ones
abbrev pub pieces_behind : ℕ → Place → List ℕ → List Piece
pieces_behind hidden place [] = hidden_run hidden
pieces_behind hidden place (octet ∷ rest) =
    if is_hidden place octet then pieces_behind (hidden + 1) (place_behind place octet rest) rest
    else hidden_run hidden ++ (Octet octet ∷ pieces_behind 0 (place_behind place octet rest) rest)

-- the front
abbrev pub front : Place
front = record { slash = false; userinfo = 0; parameter = Other }

-- octets as those that are shown, and as runs of those that are hidden
abbrev pub pieces_of : List ℕ → List Piece
pieces_of octets = pieces_behind 0 front octets
