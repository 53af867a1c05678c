-- The first in the order of choice, one variant after the other.
use Rattle.std.proofs.Common.{◌≡◌, ℕ, ◌+◌, ◌<◌, Bool, true, false, cond, List, [], ◌∷◌, ◌++◌, length, take, get_or, Option, Some, refl, sym, ap, ◌∙◌, append-nil}
use Rattle.std.specs.Prelude.{filter}
use Rattle.std.proofs.lemmas.List.{take_more}
use Rattle.std.proofs.lemmas.List.Elements.{filter-append}
use Rattle.std.proofs.lemmas.List.Sums.{fold-append}
use Rattle.hc_update.specs.declared.stored.Stored.{Stored}
use Rattle.hc_store.specs.Choosing.{goes_before, preferred, first_choice}

first_choice_push : (xs : List Stored) (x : Stored) → first_choice (xs ++ x ∷ []) ≡ Some (preferred (first_choice xs) x)
first_choice_push [] x = refl
first_choice_push (y ∷ ys) x = ap Some (fold-append (λ b z. cond (goes_before z b) z b) y ys (x ∷ []))

-- what one more makes of those that pass a test
among : (test : Stored → Bool) (xs : List Stored) (x : Stored) (b : Bool) → test x ≡ b
    → first_choice (filter test (xs ++ x ∷ [])) ≡ cond b (Some (preferred (first_choice (filter test xs)) x)) (first_choice (filter test xs))
among test xs x true is =
    ap first_choice (filter-append test xs (x ∷ []))
    ∙ ap (λ (t : Bool). first_choice (filter test xs ++ cond t (x ∷ []) [])) is
    ∙ first_choice_push (filter test xs) x
among test xs x false is =
    ap first_choice (filter-append test xs (x ∷ []))
    ∙ ap (λ (t : Bool). first_choice (filter test xs ++ cond t (x ∷ []) [])) is
    ∙ ap first_choice (append-nil (filter test xs))

more : (xs : List Stored) (i : ℕ) (x : Stored) → i < length xs → x ≡ get_or xs i x → take (i + 1) xs ≡ take i xs ++ x ∷ []
more xs i x small is = take_more xs i x small ∙ ap (λ (y : Stored). take i xs ++ y ∷ []) (sym is)

-- ---- the step of a loop over the variants that keeps the first so far

pub choice_taken : (test : Stored → Bool) (xs : List Stored) (i : ℕ) (x : Stored) (best : Option Stored) → i < length xs → x ≡ get_or xs i x
    → test x ≡ true → best ≡ first_choice (filter test (take i xs)) → Some (preferred best x) ≡ first_choice (filter test (take (i + 1) xs))
choice_taken test xs i x best small is passes so_far =
    ap (λ (b : Option Stored). Some (preferred b x)) so_far
    ∙ sym (among test (take i xs) x true passes)
    ∙ sym (ap (λ (ys : List Stored). first_choice (filter test ys)) (more xs i x small is))

pub choice_kept : (test : Stored → Bool) (xs : List Stored) (i : ℕ) (x : Stored) (best : Option Stored) → i < length xs → x ≡ get_or xs i x
    → test x ≡ false → best ≡ first_choice (filter test (take i xs)) → best ≡ first_choice (filter test (take (i + 1) xs))
choice_kept test xs i x best small is fails so_far =
    so_far
    ∙ sym (among test (take i xs) x false fails)
    ∙ sym (ap (λ (ys : List Stored). first_choice (filter test ys)) (more xs i x small is))
