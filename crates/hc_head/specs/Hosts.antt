-- A host and a port, as a Host line and the authority of a URI have them (RFC 9110 section 7.2, RFC 3986 section 3.2).
use Rattle.std.specs.Prelude.{◌≡◌, ℕ, ◌<◌, ◌≤◌, ◌⊎◌, Bool, true, ◌&&◌, ◌||◌, List, [], ◌∷◌, ◌++◌, length, codes, nat_le, bytes_eq, ◌==◌, if◌then◌else◌}
use Rattle.std.specs.List.{AllPass, list_all, list_any}
use Rattle.std.specs.Char.{is_ascii_alphanumeric, is_ascii_digit, is_ascii_hexdigit}
use Rattle.std.specs.Str.{str_to_ascii_lowercase}

-- an octet of a name: unreserved, of a percent-encoding, or a sub-delimiter
abbrev pub is_name_octet : ℕ → Bool
is_name_octet b = is_ascii_alphanumeric b || list_any (λ c. c == b) (codes "-._~!$&'()*+,;=%")

-- an octet of an address inside brackets
abbrev pub is_address_octet : ℕ → Bool
is_address_octet b = is_ascii_hexdigit b || (b == 58 || b == 46)

-- a name of one octet or more
abbrev pub IsName : List ℕ → Type 0
IsName text = (0 < length text) × AllPass is_name_octet text

-- an address of one octet or more, in brackets
pub record IsAddress (text : List ℕ) : Type 0 where
  pub inner : List ℕ
  pub bracketed : text ≡ codes "[" ++ (inner ++ codes "]")
  pub some : 0 < length inner
  pub octets : AllPass is_address_octet inner

-- a host of at most 255 octets, brackets included
abbrev pub IsHost : List ℕ → Type 0
IsHost text = (IsName text ⊎ IsAddress text) × (length text ≤ 255)

-- nothing, or a colon and at most five digits
abbrev pub is_port : List ℕ → Bool
is_port [] = true
is_port (c ∷ digits) = c == 58 && (nat_le (length digits) 5 && list_all is_ascii_digit digits)

-- a host and what follows it, a port or nothing
pub record Authority : Type 0 where
  pub host : List ℕ
  pub port : List ℕ

-- the text is that host and that port
pub record HasAuthority (text : List ℕ) (authority : Authority) : Type 0 where
  pub spelled : text ≡ authority.host ++ authority.port
  pub is_host : IsHost authority.host
  pub is_port : is_port authority.port ≡ true

-- a port that says nothing: an empty one, or the one of the scheme http
abbrev pub is_default_port : List ℕ → Bool
is_default_port port = bytes_eq port (codes ":") || bytes_eq port (codes ":80")

-- the host in lower case, with its port where that says something (RFC 9110 section 4.2.3)
abbrev pub normal_host : Authority → List ℕ
normal_host a = str_to_ascii_lowercase a.host ++ (if is_default_port a.port then [] else a.port)
