-- Tables by number.
use Rattle.std.proofs.Common.{◌≡◌, ℕ, ◌+◌, ◌-◌, ◌≤◌, Bool, true, false, cond, Option, Some, None, nat_eq, refl, sym, ap, ◌∙◌, arith, inl, inr, ⊎_elim}
use Rattle.std.specs.Option.{is_some}
use Rattle.std.specs.Prelude.{◌⊎◌}
use Rattle.std.specs.Cmp.{nat_cmp_total}
use Rattle.std.specs.FinMap.{empty, insert, remove, get, len, contains_key, get-empty, get-insert, get-remove, len-insert, len-remove}
use Rattle.std.specs.Ordering.{nat_cmp, is_eq, eq_by_cmp}
use Rattle.std.specs.declared.cmp.Ordering.{Ordering}
use Rattle.std.specs.declared.cmp.Ordering.TheVariants.{Less, Equal, Greater}
use Rattle.std.specs.Cmp.{eq_by_cmp_equiv}
use Rattle.std.proofs.lemmas.Bool.{cases_eq, eq-eqb, ne_eqb, false_from_ne_true}
use Rattle.std.proofs.lemmas.Map.Lookups.{exact_unsigned}
use Rattle.hc_service.specs.State.{Table}

pub equal_of : (o : Ordering) → is_eq o ≡ true → o ≡ Equal
equal_of Less t = absurd (cc)
equal_of Equal t = refl
equal_of Greater t = absurd (cc)

-- the tests of a table and of `==` are one
same_test : (a b : ℕ) → eq_by_cmp nat_cmp a b ≡ nat_eq b a
same_test a b =
    ⊎_elim
    (λ (same : a ≡ b). rw same ((eq_by_cmp_equiv nat_cmp_total).refl b ∙ sym (eq-eqb b b refl)))
    (λ (other : a ≡ b → ⊥). false_from_ne_true (eq_by_cmp nat_cmp a b) (λ t. other (exact_unsigned a b (equal_of (nat_cmp a b) t))) ∙ sym (ne_eqb b a (λ e. other (sym e))))
    (cases_eq a b)

module _ {X : Type 0} where
  pub get_none : (n : ℕ) → get (empty {X = X} {R = nat_cmp}) n ≡ None
  get_none n = get-empty nat_cmp n

  -- what is put is there, and all else stays
  pub get_put : (t : Table X) (n : ℕ) (x : X) (m : ℕ) → get (insert t n x) m ≡ cond (nat_eq n m) (Some x) (get t m)
  get_put t n x m = get-insert nat_cmp_total t n x m ∙ ap (λ b. cond b (Some x) (get t m)) (same_test m n)

  pub get_same : (t : Table X) (n : ℕ) (x : X) → get (insert t n x) n ≡ Some x
  get_same t n x = get_put t n x n ∙ ap (λ b. cond b (Some x) (get t n)) (eq-eqb n n refl)

  pub get_other : (t : Table X) (n : ℕ) (x : X) (m : ℕ) → (n ≡ m → ⊥) → get (insert t n x) m ≡ get t m
  get_other t n x m ne = get_put t n x m ∙ ap (λ b. cond b (Some x) (get t m)) (ne_eqb n m ne)

  -- what is taken away isn't there, and all else stays
  pub get_out : (t : Table X) (n m : ℕ) → get (remove t n) m ≡ cond (nat_eq n m) None (get t m)
  get_out t n m = get-remove nat_cmp_total t n m ∙ ap (λ b. cond b None (get t m)) (same_test m n)

  pub get_gone : (t : Table X) (n : ℕ) → get (remove t n) n ≡ None
  get_gone t n = get_out t n n ∙ ap (λ b. cond b None (get t n)) (eq-eqb n n refl)

  pub get_left : (t : Table X) (n m : ℕ) → (n ≡ m → ⊥) → get (remove t n) m ≡ get t m
  get_left t n m ne = get_out t n m ∙ ap (λ b. cond b None (get t m)) (ne_eqb n m ne)

  -- what is there behind a change was put, or was there before
  pub was_put : (t : Table X) (n : ℕ) (x : X) (m : ℕ) (y : X) → get (insert t n x) m ≡ Some y → ((n ≡ m) × (x ≡ y)) ⊎ ((n ≡ m → ⊥) × (get t m ≡ Some y))
  was_put t n x m y is =
      ⊎_elim
      (λ (same : n ≡ m). inl (same, some_one _ _ (sym (get_same t n x) ∙ ap (get (insert t n x)) same ∙ is)))
      (λ (other : n ≡ m → ⊥). inr (other, sym (get_other t n x m other) ∙ is))
      (cases_eq n m)
    where
      some_one : (a b : X) → Some a ≡ Some b → a ≡ b
      some_one a b e = cc

  pub was_left : (t : Table X) (n m : ℕ) (y : X) → get (remove t n) m ≡ Some y → (n ≡ m → ⊥) × (get t m ≡ Some y)
  was_left t n m y is =
      ⊎_elim
      (λ (same : n ≡ m). absurd (none_some y (sym (get_gone t n) ∙ ap (get (remove t n)) same ∙ is)))
      (λ (other : n ≡ m → ⊥). (other, sym (get_left t n m other) ∙ is))
      (cases_eq n m)
    where
      none_some : (a : X) → None ≡ Some a → ⊥
      none_some a e = cc

  -- how many there are: one more where the number is new, and as many where it isn't
  pub len_new : (t : Table X) (n : ℕ) (x : X) → get t n ≡ None → len (insert t n x) ≡ len t + 1
  len_new t n x none = len-insert nat_cmp_total t n x ∙ ap (λ (o : Option X). cond (is_some o) (len t) (len t + 1)) none

  pub len_old : (t : Table X) (n : ℕ) (x y : X) → get t n ≡ Some y → len (insert t n x) ≡ len t
  len_old t n x y there = len-insert nat_cmp_total t n x ∙ ap (λ (o : Option X). cond (is_some o) (len t) (len t + 1)) there

  pub len_less : (t : Table X) (n : ℕ) → len (remove t n) ≤ len t
  len_less t n = fewer (contains_key t n) (len t) (len (remove t n)) (len-remove nat_cmp_total t n)
    where
      fewer : (b : Bool) (a n : ℕ) → n ≡ cond b (a - 1) a → n ≤ a
      fewer true a n e = omega arith
      fewer false a n e = omega arith
