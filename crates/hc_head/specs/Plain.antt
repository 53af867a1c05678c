-- The parts of heads that are read as they are written, in the classes of the grammar. Public laws cite them.
use Rattle.std.specs.Prelude.{◌≡◌, ℕ, ◌<◌, ◌≤◌, Bool, true, not, ◌&&◌, List, [], ◌∷◌, length, reverse, IsUtf8}
use Rattle.std.specs.List.{list_all, list_any}
use Rattle.std.specs.Char.{is_ascii_uppercase}
use Rattle.httparse.specs.Grammar.{is_token, is_ows, is_uri_byte, is_value_byte}
use Rattle.hc_fields.specs.declared.fields.Field.{Field}
use Rattle.hc_head.specs.declared.head.RequestHead.{RequestHead}
use Rattle.hc_head.specs.declared.head.ResponseHead.{ResponseHead}

-- a token without capitals
abbrev pub is_plain_name : List ℕ → Bool
is_plain_name name = is_token name && not (list_any is_ascii_uppercase name)

-- no space or tab stands first
abbrev pub starts_visible : List ℕ → Bool
starts_visible [] = true
starts_visible (b ∷ text) = not (is_ows b)

-- octets of a value, with no space or tab at either end
abbrev pub is_plain_value : List ℕ → Bool
is_plain_value value = starts_visible value && (starts_visible (reverse value) && list_all is_value_byte value)

abbrev pub is_plain_field : Field → Bool
is_plain_field f = is_plain_name f.name && is_plain_value f.value

-- visible octets that are UTF-8, at least one
pub record IsPlainTarget (target : List ℕ) : Type 0 where
  pub some : 0 < length target
  pub visible : list_all is_uri_byte target ≡ true
  pub text : IsUtf8 target

pub record IsPlainRequest (head : RequestHead) : Type 0 where
  pub method : is_token head.method ≡ true
  pub target : IsPlainTarget head.target
  pub fields : list_all is_plain_field head.fields ≡ true

-- a status of three digits that is 100 at least
pub record IsPlainResponse (head : ResponseHead) : Type 0 where
  pub least : 100 ≤ head.status
  pub greatest : head.status < 1000
  pub fields : list_all is_plain_field head.fields ≡ true
