-- Where the first octet of a kind stands.
use Rattle.std.proofs.Common.{◌≡◌, ℕ, zero, suc, ◌+◌, ◌<◌, ◌≤◌, ◌==◌, Bool, false, not, cond, List, [], ◌∷◌, length, take, drop, refl, sym, ap, ◌∙◌, arith}
use Rattle.std.specs.Prelude.{slice_index}
use Rattle.std.specs.List.{list_any, position_or_len}
use Rattle.std.proofs.lemmas.Bool.{or_parts}
use Rattle.hc_history.specs.Ranges.{before_octet, behind_octet}

-- whether it is that octet
abbrev pub is_octet : ℕ → ℕ → Bool
is_octet octet o = o == octet

first_place : (octet : ℕ) (text : List ℕ) (at : ℕ) → list_any (is_octet octet) (take at text) ≡ false → at < length text → slice_index text at ≡ octet → position_or_len (is_octet octet) text ≡ at
first_place octet [] at none lt here = absurd (omega arith)
first_place octet (x ∷ xs) zero none lt here = rw here (grind arith)
first_place octet (x ∷ xs) (suc at) none lt here =
    let parts = or_parts (is_octet octet x) (list_any (is_octet octet) (take at xs)) none in
    ap (λ (b : Bool). cond (not b) (1 + position_or_len (is_octet octet) xs) 0) parts.0
    ∙ omega (arith, first_place octet xs at parts.1 (omega arith) here)

no_place : (octet : ℕ) (text : List ℕ) → list_any (is_octet octet) text ≡ false → position_or_len (is_octet octet) text ≡ length text
no_place octet [] none = refl
no_place octet (x ∷ xs) none =
    let parts = or_parts (is_octet octet x) (list_any (is_octet octet) xs) none in
    ap (λ (b : Bool). cond (not b) (1 + position_or_len (is_octet octet) xs) 0) parts.0
    ∙ omega (arith, no_place octet xs parts.1)

next : (n : ℕ) → suc n ≡ n + 1
next n = omega arith

drop_suc : (xs : List ℕ) (n : ℕ) → drop 1 (drop n xs) ≡ drop (suc n) xs
drop_suc [] zero = refl
drop_suc [] (suc n) = refl
drop_suc (x ∷ xs) zero = refl
drop_suc (x ∷ xs) (suc n) = drop_suc xs n

drop_past : (xs : List ℕ) (n : ℕ) → drop 1 (drop n xs) ≡ drop (n + 1) xs
drop_past xs n = drop_suc xs n ∙ ap (λ (k : ℕ). drop k xs) (next n)

all_taken : (xs : List ℕ) (n : ℕ) → length xs ≤ n → take n xs ≡ xs
all_taken [] zero few = refl
all_taken [] (suc n) few = refl
all_taken (x ∷ xs) zero few = absurd (omega (arith, few))
all_taken (x ∷ xs) (suc n) few = ap (λ (ys : List ℕ). x ∷ ys) (all_taken xs n (omega (arith, few)))

none_suc : (xs : List ℕ) → drop (suc (length xs)) xs ≡ []
none_suc [] = refl
none_suc (x ∷ xs) = none_suc xs

none_of : (xs : List ℕ) → drop (length xs + 1) xs ≡ []
none_of xs = ap (λ (k : ℕ). drop k xs) (sym (next (length xs))) ∙ none_suc xs

pub before_is : (octet : ℕ) (text : List ℕ) (at : ℕ) → list_any (is_octet octet) (take at text) ≡ false → at < length text → slice_index text at ≡ octet
    → take at text ≡ before_octet octet text
before_is octet text at none lt here = ap (λ (n : ℕ). take n text) (sym (first_place octet text at none lt here))

pub behind_is : (octet : ℕ) (text : List ℕ) (at : ℕ) → list_any (is_octet octet) (take at text) ≡ false → at < length text → slice_index text at ≡ octet
    → drop 1 (drop at text) ≡ behind_octet octet text
behind_is octet text at none lt here = drop_past text at ∙ ap (λ (n : ℕ). drop (n + 1) text) (sym (first_place octet text at none lt here))

none_there : (octet : ℕ) (text : List ℕ) (at : ℕ) → list_any (is_octet octet) (take at text) ≡ false → length text ≤ at → list_any (is_octet octet) text ≡ false
none_there octet text at none all = ap (list_any (is_octet octet)) (sym (all_taken text at all)) ∙ none

pub nothing_before : (octet : ℕ) (text : List ℕ) (at : ℕ) → list_any (is_octet octet) (take at text) ≡ false → length text ≤ at → text ≡ before_octet octet text
nothing_before octet text at none all =
    sym (all_taken text (length text) (omega arith)) ∙ ap (λ (n : ℕ). take n text) (sym (no_place octet text (none_there octet text at none all)))

pub nothing_behind : (octet : ℕ) (text : List ℕ) (at : ℕ) → list_any (is_octet octet) (take at text) ≡ false → length text ≤ at → [] ≡ behind_octet octet text
nothing_behind octet text at none all = sym (none_of text) ∙ ap (λ (n : ℕ). drop (n + 1) text) (sym (no_place octet text (none_there octet text at none all)))
