-- What one end more makes of those that are listed.
use Rattle.std.proofs.Common.{◌≡◌, ◌∙◌, ◌++◌, ◌∷◌, ℕ, Bool, true, false, List, [], Option, Some, None, IfSome, drop, sym, subst, refl}
use Rattle.std.specs.Prelude.{All, Err, Ok, OnOk, Result, ◌&&◌, if◌then◌else◌}
use Rattle.std.proofs.lemmas.List.Elements.{All-append, All-cons, All-drop, All-nil}

pub on_ok : {A E : Type 0} {P Q : Type 0} (r : Result A E) → OnOk r P → (P → Q) → OnOk r Q
on_ok (Ok x) is goes = goes is
on_ok (Err e) is goes = tt

-- the newest of those that are listed
pub pushed : {X : Type 0} (P : X → Type 0) (n : ℕ) (xs ys : List X) (x : X) → ys ≡ drop n (xs ++ x ∷ []) → All P xs → P x → All P ys
pushed P n xs ys x is all one = subst (All P) (sym is) (All-drop P n (xs ++ x ∷ []) (All-append P xs (x ∷ []) all (All-cons P x [] one (All-nil P))))

-- none
pub of_none : {X : Type 0} (P : X → Type 0) (xs : List X) → xs ≡ [] → All P xs
of_none P xs is = subst (All P) (sym is) (All-nil P)

pub both : (a b : Bool) → a ≡ true → b ≡ true → (a && b) ≡ true
both true true a b = refl
both true false a b = absurd cc
both false b a c = absurd cc

pub all_three : (a b c : Bool) → a ≡ true → b ≡ true → c ≡ true → (a && (b && c)) ≡ true
all_three true true true a b c = refl
all_three true true false a b c = absurd cc
all_three true false c a b d = absurd cc
all_three false b c a d e = absurd cc

-- ---- the latest of a kind

-- the later one is of that kind, if it is there
pub later_is : {X : Type 0} (P : X → Type 0) (is : Bool) (one : X) (before after : Option X) → after ≡ (if is then Some one else before)
    → (is ≡ true → P one) → IfSome before P → IfSome after P
later_is {X} P true one before after later gives was = subst (λ (o : Option X). IfSome o P) (sym later) (gives refl)
later_is {X} P false one before after later gives was = subst (λ (o : Option X). IfSome o P) (sym later) was

some_is_none : {X : Type 0} (x : X) → Some x ≡ None → ⊥
some_is_none {X} x same = cc

-- and where there is none, none of those that are listed is of it
pub later_none : {X : Type 0} (is_it : X → Bool) (n : ℕ) (xs ys : List X) (x : X) (is : Bool) (before after : Option X) → after ≡ (if is then Some x else before)
    → is ≡ is_it x → ys ≡ drop n (xs ++ x ∷ []) → (before ≡ None → All (λ (y : X). is_it y ≡ false) xs) → after ≡ None → All (λ (y : X). is_it y ≡ false) ys
later_none {X} is_it n xs ys x true before after later which new was none = absurd (some_is_none x (sym later ∙ none))
later_none {X} is_it n xs ys x false before after later which new was none = pushed (λ (y : X). is_it y ≡ false) n xs ys x new (was (sym later ∙ none)) (sym which)
