-- Tokens (RFC 9110 section 5.6.2).
use Rattle.std.specs.Prelude.{ℕ, Bool, ◌&&◌, ◌||◌, ◌==◌, List, length, nat_lt, codes}
use Rattle.std.specs.List.{list_any, list_all}
use Rattle.std.specs.Char.{is_ascii_alphanumeric}

-- a letter, a digit, or one of the marks that a token may have
unfoldable pub is_token_octet : ℕ → Bool
is_token_octet octet = is_ascii_alphanumeric octet || list_any (λ mark. mark == octet) (codes "!#$%&'*+-.^_`|~")

-- one or more of those
abbrev pub is_token : List ℕ → Bool
is_token text = nat_lt 0 (length text) && list_all is_token_octet text
