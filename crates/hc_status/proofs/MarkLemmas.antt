-- The last member of a list, and lines that stand alone.
use Rattle.std.proofs.Common.{◌≡◌, ℕ, suc, ◌-◌, List, [], ◌∷◌, ◌++◌, length, Option, Some, None, refl, sym, ap, ◌∙◌, arith}
use Rattle.std.specs.Prelude.{slice_get}
use Rattle.std.specs.List.{last_or}
use Rattle.std.proofs.lemmas.List.{append-nil}
use Rattle.hc_fields.specs.Values.{only, joined_values}

last_from : {A : Type 0} (x : A) (xs : List A) → last_or (Some x) xs ≡ slice_get (x ∷ xs) (length xs)
last_from x [] = refl
last_from x (y ∷ xs) = last_from y xs

less_one : (n : ℕ) → suc n - 1 ≡ n
less_one n = omega arith

pub last_is : {A : Type 0} (xs : List A) → last_or None xs ≡ slice_get xs (length xs - 1)
last_is [] = refl
last_is (x ∷ xs) = last_from x xs ∙ ap (slice_get (x ∷ xs)) (sym (less_one (length xs)))

last_pushed_from : {A : Type 0} (o : Option A) (xs : List A) (x : A) → last_or o (xs ++ x ∷ []) ≡ Some x
last_pushed_from o [] x = refl
last_pushed_from o (y ∷ xs) x = last_pushed_from (Some y) xs x

-- what was put at the end is the last
pub last_pushed : {A : Type 0} (xs : List A) (x : A) → last_or None (xs ++ x ∷ []) ≡ Some x
last_pushed xs x = last_pushed_from None xs x

-- a line that stands alone is all that is joined
pub alone_is_joined : (values : List (List ℕ)) (value : List ℕ) → only values ≡ Some value → joined_values values ≡ Some value
alone_is_joined [] value e = absurd (cc)
alone_is_joined (one ∷ []) value e = ap Some (append-nil one) ∙ e
alone_is_joined (one ∷ other ∷ values) value e = absurd (cc)
