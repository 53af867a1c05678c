-- A cache to which nothing has happened.
use Rattle.std.proofs.Common.{◌≡◌, ℕ, List, length, Option, None, sym, ap, ◌∙◌, subst}
use Rattle.std.specs.BTreeMap.{BTreeMap, IsEmpty, is_at, get as kept_at}
use Rattle.std.specs.FinMap.{empty, get, get-empty, len-empty}
use Rattle.std.specs.Map.{lookup}
use Rattle.std.specs.Ordering.{nat_cmp}
use Rattle.hc_open.specs.Tables.{AreAlike, AreAlikeAt}

module _ {X Y : Type 0} (IsLike : X → Y → Type 0) where
  none_at : (o : Option X) (p : Option Y) → o ≡ None → p ≡ None → AreAlikeAt IsLike o p
  none_at o p no-x no-y = subst (λ (z : Option X × Option Y). AreAlikeAt IsLike z.0 z.1) (λ i. (sym no-x i, sym no-y i)) tt

  -- a map and a table of nothing
  pub none_alike : (m : BTreeMap ℕ X) → IsEmpty m → AreAlike IsLike m empty
  none_alike m is = record {
    at = λ n. none_at (kept_at nat_cmp m n) (get (empty {X = Y} {R = nat_cmp}) n) (ap (λ (es : List (ℕ × X)). lookup (is_at (nat_cmp n)) es) is) (get-empty nat_cmp n);
    many = ap length is ∙ sym (len-empty nat_cmp Y);
  }
