-- The classes of octets of structured fields (RFC 8941 section 3, RFC 9110 section 5.6.2).
use Rattle.std.specs.Prelude.{ℕ, Bool, ◌||◌, ◌==◌, codes}
use Rattle.std.specs.List.{list_any}
use Rattle.std.specs.Int.{is_in_range}
use Rattle.std.specs.Char.{is_ascii_alphabetic, is_ascii_alphanumeric, is_ascii_digit, is_ascii_lowercase}

-- SP
abbrev pub is_space : ℕ → Bool
is_space b = b == 32

-- SP or HTAB, of which optional white space is made
abbrev pub is_blank : ℕ → Bool
is_blank b = b == 32 || b == 9

-- lcalpha / "*"
abbrev pub is_key_start : ℕ → Bool
is_key_start b = is_ascii_lowercase b || b == 42

-- lcalpha / DIGIT / "_" / "-" / "." / "*"
abbrev pub is_key_octet : ℕ → Bool
is_key_octet b = is_ascii_lowercase b || (is_ascii_digit b || list_any (λ c. c == b) (codes "_-.*"))

-- ALPHA / "*"
abbrev pub is_token_start : ℕ → Bool
is_token_start b = is_ascii_alphabetic b || b == 42

-- tchar / ":" / "/"
abbrev pub is_token_octet : ℕ → Bool
is_token_octet b = is_ascii_alphanumeric b || list_any (λ c. c == b) (codes "!#$%&'*+-.^_`|~:/")

-- DIGIT / "-"
abbrev pub is_number_start : ℕ → Bool
is_number_start b = is_ascii_digit b || b == 45

-- the octets of which a number is made
abbrev pub is_number_octet : ℕ → Bool
is_number_octet b = is_ascii_digit b || (b == 45 || b == 46)

-- ALPHA / DIGIT / "+" / "/" / "="
abbrev pub is_base64_octet : ℕ → Bool
is_base64_octet b = is_ascii_alphanumeric b || list_any (λ c. c == b) (codes "+/=")

-- the octets of strings: SP / VCHAR
abbrev pub is_printable : ℕ → Bool
is_printable b = is_in_range 32 126 b

-- the octets of strings before which a backslash stands
abbrev pub is_escaped : ℕ → Bool
is_escaped b = b == 34 || b == 92
