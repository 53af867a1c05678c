-- How many of a table pass a test.
use Rattle.std.proofs.Common.{◌≡◌, ℕ, ◌+◌, Bool, true, false, ◌||◌, cond, nat_lt, List, [], ◌∷◌, map, length, Some, None, refl, sym, ap, ◌∙◌, arith}
use Rattle.std.proofs.lemmas.Bool.Decides.{nat_tests}
use Rattle.std.specs.FinMap.Entries.{by_order, find, put}
use Rattle.std.specs.Cmp.{nat_cmp_total}
use Rattle.std.specs.FinMap.{empty, entries, get, insert, remove, values, get-entries, entries-insert, len-empty, len-entries}
use Rattle.std.specs.List.{count_by, list_any}
use Rattle.std.specs.Ordering.{nat_cmp, is_eq}
use Rattle.std.specs.declared.cmp.Ordering.{Ordering}
use Rattle.std.specs.declared.cmp.Ordering.TheVariants.{Less, Equal, Greater}
use Rattle.std.proofs.lemmas.List.Sums.{sum_by-cons}
use Rattle.hc_service.specs.State.{Table}
use Rattle.hc_open.proofs.TableLemmas.{get_gone, put_back, put_same}

pub one_more : (n : ℕ) → nat_lt 0 (1 + n) ≡ true
one_more n = grind (arith, nat_tests)

module _ {X : Type 0} (pass : X → Bool) where
  pub count_cons : (x : X) (xs : List X) → count_by pass (x ∷ xs) ≡ cond (pass x) 1 0 + count_by pass xs
  count_cons x xs = sum_by-cons (λ y. cond (pass y) 1 0) x xs

  -- one passes where some do
  pub any_of_count : (xs : List X) → list_any pass xs ≡ nat_lt 0 (count_by pass xs)
  any_of_count [] = refl
  any_of_count (x ∷ xs) = each (pass x) (list_any pass xs) (count_by pass xs) (any_of_count xs) ∙ ap (nat_lt 0) (sym (count_cons x xs))
    where
      no_more : (n : ℕ) → n ≡ 0 + n
      no_more n = omega arith

      each : (b c : Bool) (n : ℕ) → c ≡ nat_lt 0 n → (b || c) ≡ nat_lt 0 (cond b 1 0 + n)
      each true c n same = sym (one_more n)
      each false c n same = same ∙ ap (nat_lt 0) (no_more n)

  -- ---- entries

  abbrev passing : List (ℕ × X) → ℕ
  passing es = count_by pass (map (λ e. e.1) es)

  put_by : (o : Ordering) (e : ℕ × X) (es : List (ℕ × X)) (k : ℕ) (x : X) → cond (is_eq o) (Some e.1) (find nat_cmp k es) ≡ None
      → (find nat_cmp k es ≡ None → passing (put nat_cmp k x es) ≡ cond (pass x) 1 0 + passing es)
      → passing (by_order o ((k, x) ∷ e ∷ es) ((e.0, x) ∷ es) (e ∷ put nat_cmp k x es)) ≡ cond (pass x) 1 0 + passing (e ∷ es)
  put_by Less e es k x none rest = count_cons x (e.1 ∷ map (λ e. e.1) es)
  put_by Equal e es k x none rest = absurd (cc)
  put_by Greater e es k x none rest =
      let head = count_cons e.1 (map (λ e. e.1) (put nat_cmp k x es)) in
      let tail = count_cons e.1 (map (λ e. e.1) es) in
      let behind = rest none in
      omega (arith, head, tail, behind)

  -- one that is put where none was
  put_new : (es : List (ℕ × X)) (k : ℕ) (x : X) → find nat_cmp k es ≡ None → passing (put nat_cmp k x es) ≡ cond (pass x) 1 0 + passing es
  put_new [] k x none = count_cons x []
  put_new (e ∷ es) k x none = put_by (nat_cmp k e.0) e es k x none (put_new es k x)

  -- ---- tables

  pub count_put : (t : Table X) (k : ℕ) (x : X) → get t k ≡ None → count_by pass (values (insert t k x)) ≡ cond (pass x) 1 0 + count_by pass (values t)
  count_put t k x none =
      ap passing (entries-insert nat_cmp_total t k x) ∙ put_new (entries t) k x (sym (get-entries t k) ∙ none)

  -- in place of what was there
  pub count_put_back : (t : Table X) (k : ℕ) (x : X) → count_by pass (values (insert t k x)) ≡ cond (pass x) 1 0 + count_by pass (values (remove t k))
  count_put_back t k x =
      ap (λ (m : Table X). count_by pass (values m)) (sym (put_back t k x)) ∙ count_put (remove t k) k x (get_gone t k)

  pub count_gone : (t : Table X) (k : ℕ) (x : X) → get t k ≡ Some x → count_by pass (values t) ≡ cond (pass x) 1 0 + count_by pass (values (remove t k))
  count_gone t k x there = ap (λ (m : Table X). count_by pass (values m)) (sym (put_same t k x there)) ∙ count_put_back t k x

  -- another in its place that passes where it did
  pub count_same : (t : Table X) (k : ℕ) (x y : X) → get t k ≡ Some x → pass y ≡ pass x → count_by pass (values (insert t k y)) ≡ count_by pass (values t)
  count_same t k x y there same =
      count_put_back t k y ∙ ap (λ (b : Bool). cond b 1 0 + count_by pass (values (remove t k))) same ∙ sym (count_gone t k x there)

  none_of_none : (es : List (ℕ × X)) → length es ≡ 0 → passing es ≡ 0
  none_of_none [] none = refl
  none_of_none (e ∷ es) none = absurd (omega (arith, none))

  pub count_empty : count_by pass (values (empty {X = X} {R = nat_cmp})) ≡ 0
  count_empty = none_of_none (entries empty) (sym (len-entries empty) ∙ len-empty nat_cmp X)
