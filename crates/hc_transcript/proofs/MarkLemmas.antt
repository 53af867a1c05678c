-- The first octet of a kind, and what stands before it.
use Rattle.std.proofs.Common.{◌≡◌, ℕ, ◌+◌, ◌<◌, Bool, true, false, ◌||◌, List, [], ◌∷◌, ◌++◌, length, get_or, take, drop, refl, sym, ap, ◌∙◌, arith, length-append, length-take}
use Rattle.std.specs.Prelude.{◌==◌}
use Rattle.std.specs.List.{list_any}
use Rattle.std.proofs.lemmas.List.{take-append-drop, drop_more, get_or-take}
use Rattle.std.proofs.lemmas.List.Folds.{list_any_at}
use Rattle.std.proofs.Math.Seq.{get_or-append_seam}

-- whether an octet is a space
abbrev pub is_space : ℕ → Bool
is_space c = c == 32

-- neither of two tests holds
neither : (a b : Bool) → (a || b) ≡ false → (a ≡ false) × (b ≡ false)
neither true b e = absurd cc
neither false b e = (refl, e)

-- what stands before the first octet that passes a test, and what stands behind it, are read in one way
pub first_mark_unique : (p : ℕ → Bool) (front other rest tail : List ℕ) (c d : ℕ) → p c ≡ true → p d ≡ true → list_any p front ≡ false → list_any p other ≡ false
    → front ++ c ∷ rest ≡ other ++ d ∷ tail → (front ≡ other) × (rest ≡ tail)
first_mark_unique p [] [] rest tail c d pc pd front_lacks other_lacks e = (refl, ap (drop 1) e)
first_mark_unique p [] (y ∷ ys) rest tail c d pc pd front_lacks other_lacks e =
    let same : c ≡ y = ap (λ (t : List ℕ). get_or t 0 0) e in
    let lacks = (neither (p y) (list_any p ys) other_lacks).0 in
    absurd cc
first_mark_unique p (x ∷ xs) [] rest tail c d pc pd front_lacks other_lacks e =
    let same : x ≡ d = ap (λ (t : List ℕ). get_or t 0 0) e in
    let lacks = (neither (p x) (list_any p xs) front_lacks).0 in
    absurd cc
first_mark_unique p (x ∷ xs) (y ∷ ys) rest tail c d pc pd front_lacks other_lacks e =
    let head : x ≡ y = ap (λ (t : List ℕ). get_or t 0 0) e in
    let more = first_mark_unique p xs ys rest tail c d pc pd (neither (p x) (list_any p xs) front_lacks).1 (neither (p y) (list_any p ys) other_lacks).1 (ap (drop 1) e) in
    (cc, more.1)

-- enough octets from the front have the mark that stands behind the text
pub mark_within : (p : ℕ → Bool) (front rest : List ℕ) (c k : ℕ) → p c ≡ true → length front < k → list_any p (take k (front ++ c ∷ rest)) ≡ true
mark_within p front rest c k pc lt =
    let whole = front ++ c ∷ rest in
    let m = length front in
    let at : get_or (take k whole) m 0 ≡ c = get_or-take k whole m 0 lt ∙ get_or-append_seam front c rest 0 in
    list_any_at p (take k whole) m 0 (omega (arith, length-take k whole, length-append front (c ∷ rest))) (ap p at ∙ pc)

-- a list is what stands before an octet, that octet, and what stands behind it
pub split_at_octet : (octets : List ℕ) (at c : ℕ) → at < length octets → get_or octets at 0 ≡ c → octets ≡ take at octets ++ c ∷ drop (at + 1) octets
split_at_octet octets at c lt is =
    sym (take-append-drop at octets) ∙ ap (λ (t : List ℕ). take at octets ++ t) (drop_more octets at 0 lt ∙ ap (λ (b : ℕ). b ∷ drop (at + 1) octets) is)
