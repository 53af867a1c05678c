-- Maps by number, and the tables that contracts see.
use Rattle.std.proofs.Common.{◌≡◌, ℕ, ◌+◌, ◌-◌, Bool, true, false, cond, Option, Some, None, refl, sym, ap, ◌∙◌, subst, arith}
use Rattle.std.specs.BTreeMap.{BTreeMap, Updates, btree_map_len, get as kept_at}
use Rattle.std.specs.Cmp.{eq_by_cmp_equiv, nat_cmp_total}
use Rattle.std.specs.FinMap.{get, insert, remove, same_map, get_tied, get-insert, get-remove, len-insert, len-remove}
use Rattle.std.specs.Option.{is_some}
use Rattle.std.specs.Ordering.{nat_cmp, is_eq, eq_by_cmp}
use Rattle.std.specs.declared.cmp.Ordering.{Ordering}
use Rattle.std.specs.declared.cmp.Ordering.TheVariants.{Less, Equal, Greater}
use Rattle.std.proofs.lemmas.Map.Lookups.{exact_unsigned}
use Rattle.hc_service.specs.State.{Table}
use Rattle.hc_open.specs.Tables.{AreAlike, AreAlikeAt}

-- the test of a number is the same from both sides
pub test_turned : (k q : ℕ) → eq_by_cmp nat_cmp k q ≡ eq_by_cmp nat_cmp q k
test_turned k q = (eq_by_cmp_equiv nat_cmp_total).symm k q

module _ {X Y : Type 0} (IsLike : X → Y → Type 0) where
  -- ---- one number

  put_or_kept : (b : Bool) (x : X) (y : Y) (o : Option X) (p : Option Y) → IsLike x y → AreAlikeAt IsLike o p → AreAlikeAt IsLike (cond b (Some x) o) (cond b (Some y) p)
  put_or_kept true x y o p like rest = like
  put_or_kept false x y o p like rest = rest

  gone_or_kept : (b : Bool) (o : Option X) (p : Option Y) → AreAlikeAt IsLike o p → AreAlikeAt IsLike (cond b None o) (cond b None p)
  gone_or_kept true o p rest = tt
  gone_or_kept false o p rest = rest

  alike_by : (o o' : Option X) (p p' : Option Y) → o ≡ o' → p ≡ p' → AreAlikeAt IsLike o p → AreAlikeAt IsLike o' p'
  alike_by o o' p p' e f like = subst (λ (z : Option X × Option Y). AreAlikeAt IsLike z.0 z.1) (λ i. (e i, f i)) like

  -- what is kept in the one is kept in the other
  pub found : (o : Option X) (p : Option Y) (x : X) → AreAlikeAt IsLike o p → o ≡ Some x → (y : Y) × (p ≡ Some y) × IsLike x y
  found None p x like is = absurd (cc)
  found (Some a) None x like is = absurd like
  found (Some a) (Some y) x like is = (y, refl, subst (λ (z : X). IsLike z y) (some_one a x is) like)
    where
      some_one : (a b : X) → Some a ≡ Some b → a ≡ b
      some_one a b e = cc

  pub found_for : (o : Option X) (p : Option Y) (x : X) (y : Y) → AreAlikeAt IsLike o p → o ≡ Some x → p ≡ Some y → IsLike x y
  found_for o p x y like is seen = alike_by o (Some x) p (Some y) is seen like

  pub found_none : (o : Option X) (p : Option Y) → AreAlikeAt IsLike o p → o ≡ None → p ≡ None
  found_none None None like is = refl
  found_none None (Some y) like is = absurd like
  found_none (Some a) p like is = absurd (cc)

  -- something is there in both, or in none
  pub both_there : (o : Option X) (p : Option Y) → AreAlikeAt IsLike o p → is_some o ≡ is_some p
  both_there None None like = refl
  both_there None (Some y) like = absurd like
  both_there (Some x) None like = absurd like
  both_there (Some x) (Some y) like = refl

  -- ---- how many

  one_more_at : (o : Option X) (p : Option Y) (many new : ℕ) → AreAlikeAt IsLike o p → new ≡ many + cond (is_some o) 0 1 → new ≡ cond (is_some p) many (many + 1)
  one_more_at None None many new like is = is
  one_more_at None (Some y) many new like is = absurd like
  one_more_at (Some x) None many new like is = absurd like
  one_more_at (Some x) (Some y) many new like is = omega (arith, is)

  one_less_at : (o : Option X) (p : Option Y) (many new : ℕ) → AreAlikeAt IsLike o p → new + cond (is_some o) 1 0 ≡ many → new ≡ cond (is_some p) (many - 1) many
  one_less_at None None many new like is = omega (arith, is)
  one_less_at None (Some y) many new like is = absurd like
  one_less_at (Some x) None many new like is = absurd like
  one_less_at (Some x) (Some y) many new like is = omega (arith, is)

  -- ---- changes

  pub alike_put : (m n : BTreeMap ℕ X) (t : Table Y) (k : ℕ) (x : X) (y : Y) (old : Option X) → AreAlike IsLike m t → IsLike x y → Updates nat_cmp m n k (Some x)
      → old ≡ kept_at nat_cmp m k → btree_map_len n ≡ btree_map_len m + cond (is_some old) 0 1 → AreAlike IsLike n (insert t k y)
  alike_put m n t k x y old alike like updates old-is many = record {
    at = λ q. alike_by _ _ _ _ (sym (updates.0 q))
        (sym (get-insert nat_cmp_total t k y q ∙ ap (λ (b : Bool). cond b (Some y) (get t q)) (sym (test_turned k q))))
        (put_or_kept (eq_by_cmp nat_cmp k q) x y (kept_at nat_cmp m q) (get t q) like (alike.at q));
    many = one_more_at (kept_at nat_cmp m k) (get t k) (btree_map_len m) (btree_map_len n) (alike.at k)
        (many ∙ ap (λ (o : Option X). btree_map_len m + cond (is_some o) 0 1) old-is)
        ∙ ap (λ (l : ℕ). cond (is_some (get t k)) l (l + 1)) alike.many ∙ sym (len-insert nat_cmp_total t k y);
  }

  pub alike_taken : (m n : BTreeMap ℕ X) (t : Table Y) (k : ℕ) (old : Option X) → AreAlike IsLike m t → Updates nat_cmp m n k None
      → old ≡ kept_at nat_cmp m k → btree_map_len n + cond (is_some old) 1 0 ≡ btree_map_len m → AreAlike IsLike n (remove t k)
  alike_taken m n t k old alike updates old-is many = record {
    at = λ q. alike_by _ _ _ _ (sym (updates.0 q))
        (sym (get-remove nat_cmp_total t k q ∙ ap (λ (b : Bool). cond b None (get t q)) (sym (test_turned k q))))
        (gone_or_kept (eq_by_cmp nat_cmp k q) (kept_at nat_cmp m q) (get t q) (alike.at q));
    many = one_less_at (kept_at nat_cmp m k) (get t k) (btree_map_len m) (btree_map_len n) (alike.at k)
        (ap (λ (o : Option X). btree_map_len n + cond (is_some o) 1 0) (sym old-is) ∙ many)
        ∙ ap (λ (l : ℕ). cond (is_some (get t k)) (l - 1) l) alike.many ∙ sym (len-remove nat_cmp_total t k);
  }

-- ---- a number that is taken out and put back

module _ {Y : Type 0} where
  pub put_back : (t : Table Y) (k : ℕ) (y : Y) → insert (remove t k) k y ≡ insert t k y
  put_back t k y = same_map nat_cmp_total exact_unsigned _ _ (λ q.
      get-insert nat_cmp_total (remove t k) k y q
      ∙ ap (cond (eq_by_cmp nat_cmp q k) (Some y)) (get-remove nat_cmp_total t k q)
      ∙ twice (eq_by_cmp nat_cmp q k) (Some y) None (get t q) ∙ sym (get-insert nat_cmp_total t k y q))
    where
      twice : (b : Bool) (new out kept : Option Y) → cond b new (cond b out kept) ≡ cond b new kept
      twice true new out kept = refl
      twice false new out kept = refl

pub equal_of : (o : Ordering) → is_eq o ≡ true → o ≡ Equal
equal_of Less t = absurd (cc)
equal_of Equal t = refl
equal_of Greater t = absurd (cc)

pub test_same : (k : ℕ) → eq_by_cmp nat_cmp k k ≡ true
test_same k = (eq_by_cmp_equiv nat_cmp_total).refl k

module _ {Y : Type 0} where
  -- what was put is there, and what was taken out isn't
  pub get_put : (t : Table Y) (k : ℕ) (y : Y) → get (insert t k y) k ≡ Some y
  get_put t k y = get-insert nat_cmp_total t k y k ∙ ap (λ (b : Bool). cond b (Some y) (get t k)) (test_same k)

  pub get_gone : (t : Table Y) (k : ℕ) → get (remove t k) k ≡ None
  get_gone t k = get-remove nat_cmp_total t k k ∙ ap (λ (b : Bool). cond b None (get t k)) (test_same k)

  -- to put what is there already changes nothing
  pub put_same : (t : Table Y) (k : ℕ) (y : Y) → get t k ≡ Some y → insert t k y ≡ t
  put_same t k y there = same_map nat_cmp_total exact_unsigned _ _ (λ q. get-insert nat_cmp_total t k y q ∙ kept q (eq_by_cmp nat_cmp q k) refl)
    where
      kept : (q : ℕ) (b : Bool) → eq_by_cmp nat_cmp q k ≡ b → cond b (Some y) (get t q) ≡ get t q
      kept q true same = sym there ∙ get_tied nat_cmp_total t q k (equal_of (nat_cmp q k) same)
      kept q false other = refl

  -- to take out what isn't there changes nothing
  pub gone_same : (t : Table Y) (k : ℕ) → get t k ≡ None → remove t k ≡ t
  gone_same t k none = same_map nat_cmp_total exact_unsigned _ _ (λ q. get-remove nat_cmp_total t k q ∙ kept q (eq_by_cmp nat_cmp q k) refl)
    where
      kept : (q : ℕ) (b : Bool) → eq_by_cmp nat_cmp q k ≡ b → cond b None (get t q) ≡ get t q
      kept q true same = sym none ∙ get_tied nat_cmp_total t q k (equal_of (nat_cmp q k) same)
      kept q false other = refl

  -- to take out what was just put is to take out what was there
  pub remove_put : (t : Table Y) (k : ℕ) (y : Y) → remove (insert t k y) k ≡ remove t k
  remove_put t k y = same_map nat_cmp_total exact_unsigned _ _ (λ q.
      get-remove nat_cmp_total (insert t k y) k q
      ∙ ap (cond (eq_by_cmp nat_cmp q k) None) (get-insert nat_cmp_total t k y q)
      ∙ twice (eq_by_cmp nat_cmp q k) None (Some y) (get t q) ∙ sym (get-remove nat_cmp_total t k q))
    where
      twice : (b : Bool) (out new kept : Option Y) → cond b out (cond b new kept) ≡ cond b out kept
      twice true out new kept = refl
      twice false out new kept = refl
