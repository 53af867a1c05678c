-- Tables by number: the maps that a cache keeps, and the tables that contracts see.
use Rattle.std.specs.Prelude.{◌≡◌, ℕ, Option, Some, None}
use Rattle.std.specs.BTreeMap.{BTreeMap, btree_map_len, get as kept_at}
use Rattle.std.specs.FinMap.{get, len}
use Rattle.std.specs.Ordering.{nat_cmp}
use Rattle.hc_service.specs.State.{Table}

-- nothing in both, or something that is alike
abbrev pub AreAlikeAt : {X Y : Type 0} → (X → Y → Type 0) → Option X → Option Y → Type 0
AreAlikeAt IsLike None None = Unit {0}
AreAlikeAt IsLike None (Some y) = ⊥
AreAlikeAt IsLike (Some x) None = ⊥
AreAlikeAt IsLike (Some x) (Some y) = IsLike x y

-- a map has what the table has, number by number
pub record AreAlike {X Y : Type 0} (IsLike : X → Y → Type 0) (map : BTreeMap ℕ X) (table : Table Y) : Type 0 where
  pub at : (n : ℕ) → AreAlikeAt IsLike (kept_at nat_cmp map n) (get table n)
  pub many : btree_map_len map ≡ len table

-- equal
abbrev pub IsSame : {X : Type 0} → X → X → Type 0
IsSame x y = x ≡ y
