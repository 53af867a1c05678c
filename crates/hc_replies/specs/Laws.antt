-- What the laws of replies speak of.
use Rattle.std.specs.Prelude.{ℕ, ◌≤◌, Bool, List, [], ◌∷◌, length, codes}
use Rattle.std.specs.List.{list_any}
use Rattle.std.specs.Str.{bytes_eq}
use Rattle.hc_rules.specs.Conditions.{repeated_names}
use Rattle.hc_status.specs.declared.cache_status.Handling.{Handling}
use Rattle.hc_status.specs.declared.cache_status.Handling.TheVariants as handling
use Rattle.hc_status.specs.Texts.{IsPlain}

-- the names of the lines that the cache puts behind those of a stored response
abbrev pub own_names : List (List ℕ)
own_names = codes "age" ∷ codes "cache-status" ∷ codes "connection" ∷ []

-- whether the name is one of those
abbrev pub is_own_name : List ℕ → Bool
is_own_name name = list_any (λ known. bytes_eq known name) own_names

-- whether a 304 has to repeat the field of that name
abbrev pub is_repeated : List ℕ → Bool
is_repeated name = list_any (λ known. bytes_eq known name) repeated_names

-- the cache's name is a Token, so is the word, and numbers have at most fifteen digits
abbrev pub IsPlainStatus : List ℕ → Handling → Type 0
IsPlainStatus name handling = IsPlain (record { name = name; handling = handling })

-- the word has at most 64 octets
abbrev pub HasShortWord : Handling → Type 0
HasShortWord (handling.Hit ttl) = Unit {0}
HasShortWord (handling.Fwd word status stored collapsed) = length word ≤ 64

-- so is what can be written, and the name has at most 32 octets
pub record IsWritableStatus (name : List ℕ) (handling : Handling) : Type 0 where
  pub plain : IsPlainStatus name handling
  pub short_name : length name ≤ 32
  pub short_word : HasShortWord handling
