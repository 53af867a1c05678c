-- What a cache may be asked to be.
use Rattle.std.specs.Prelude.{ℕ, Bool, false, true, ◌≡◌, ◌&&◌, ◌||◌, ◌==◌, nat_le, List, [], ◌∷◌, length}
use Rattle.std.specs.List.{list_all}
use Rattle.std.specs.Char.{is_ascii_alphabetic, is_ascii_alphanumeric}
use Rattle.hc_service.specs.declared.settings.CoreSettings.{CoreSettings}

-- a letter, a digit, a hyphen, an underscore or a dot
abbrev pub is_name_octet : ℕ → Bool
is_name_octet octet = is_ascii_alphanumeric octet || octet == 45 || octet == 95 || octet == 46

-- a letter, and then at most 31 of those, so that the name is a token of Via and of Cache-Status
abbrev pub is_name : List ℕ → Bool
is_name [] = false
is_name (first ∷ rest) = is_ascii_alphabetic first && nat_le (length rest) 31 && list_all is_name_octet rest

-- so many targets may be kept
abbrev pub is_size : ℕ → Bool
is_size keys = nat_le 1 keys && nat_le keys 65536

-- there may be room for so many connections
abbrev pub is_room : ℕ → Bool
is_room room = nat_le 1 room && nat_le room 65536

-- settings with which a cache runs
pub record AreGood (settings : CoreSettings) : Type 0 where
  pub name : is_name settings.name ≡ true
  pub size : is_size settings.keys ≡ true
