-- The earliest of several times.
use Rattle.std.proofs.Common.{◌≡◌, ℕ, ◌≤◌, ◌⊎◌, Option, Some, None, min, refl, subst, inl, inr, ⊎_elim, arith, le_of_eq}
use Rattle.std.proofs.lemmas.Bool.{cases_lt}
use Rattle.hc_agenda.specs.Earliest.{IsEarliest, earlier_of}

-- the earlier of the earliest of some and of others is the earliest of all
pub earliest_of_both : (P Q : ℕ → Type 0) (a b : Option ℕ) → IsEarliest P a → IsEarliest Q b → IsEarliest (λ t. P t ⊎ Q t) (earlier_of a b)
earliest_of_both P Q None None p q = λ t is. ⊎_elim (p t) (q t) is
earliest_of_both P Q None (Some b) p q = (inr q.0, λ t is. ⊎_elim (λ x. absurd (p t x)) (q.1 t) is)
earliest_of_both P Q (Some a) None p q = (inl p.0, λ t is. ⊎_elim (p.1 t) (λ x. absurd (q t x)) is)
earliest_of_both P Q (Some a) (Some b) p q = (least, λ t is. ⊎_elim (λ x. below t (p.1 t x)) (λ x. above t (q.1 t x)) is)
  where
    below : (t : ℕ) → a ≤ t → min a b ≤ t
    below t le = omega arith

    above : (t : ℕ) → b ≤ t → min a b ≤ t
    above t le = omega arith

    least : P (min a b) ⊎ Q (min a b)
    least =
        ⊎_elim
        (λ before. let is : a ≡ min a b = omega arith in inl (subst P is p.0))
        (λ behind. let is : b ≡ min a b = omega arith in inr (subst Q is q.0))
        (cases_lt a b)

-- the earliest of the same times
pub earliest_same : (P Q : ℕ → Type 0) (a : Option ℕ) → ((t : ℕ) → P t → Q t) → ((t : ℕ) → Q t → P t) → IsEarliest P a → IsEarliest Q a
earliest_same P Q None to from p = λ t is. p t (from t is)
earliest_same P Q (Some a) to from p = (to a p.0, λ t is. p.1 t (from t is))

some_one : (a b : ℕ) → Some a ≡ Some b → a ≡ b
some_one a b is = cc

-- of one time, if there is one, that is the earliest
pub earliest_of_one : (a : Option ℕ) → IsEarliest (λ t. a ≡ Some t) a
earliest_of_one None = λ t is. absurd (cc)
earliest_of_one (Some a) = (refl, λ t is. le_of_eq (some_one a t is))
