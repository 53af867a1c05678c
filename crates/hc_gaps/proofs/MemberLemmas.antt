-- Lists that rise are the same if each member stands equally often in both.
use Rattle.std.proofs.Common.{◌≡◌, ◌==◌, ◌&&◌, ◌⊎◌, inl, inr, ◌+◌, ◌<◌, ◌≤◌, ◌++◌, Bool, true, false, cond, ℕ, suc, List, [], ◌∷◌, Bor, Decides, get_or, map, refl, ap, sym, subst, ◌∙◌, arith}
use Rattle.std.specs.Prelude.{All, IsPermutation, IsSortedBy}
use Rattle.std.specs.Cmp.Lexicographic.{pointwise, slice_cmp}
use Rattle.std.specs.Ordering.{is_eq, is_lt, nat_cmp, ordering_reverse}
use Rattle.std.specs.declared.cmp.Ordering.{Ordering}
use Rattle.std.specs.declared.cmp.Ordering.TheVariants.{Less, Equal, Greater}
use Rattle.std.specs.Str.{bytes_eq}
use Rattle.std.proofs.lemmas.Bool.{cases_lt, eq-eqb, eqb-true}
use Rattle.std.proofs.lemmas.Bool.Decides.{same_from_decides}
use Rattle.std.proofs.lemmas.Cmp.{nat_list_cmp_total, tied_itself}
use Rattle.std.proofs.lemmas.List.Elements.{All-cons, All-head, All-map, All-tail}
use Rattle.std.proofs.lemmas.List.Sums.{AllPass-from_list_all, list_all-from_AllPass, sum_by-append, sum_by-cons}
use Rattle.std.proofs.lemmas.List.Sorted.{IsPermutation-map, ranks_by, sorted_far, sum_by-IsPermutation}
use Rattle.std.proofs.lemmas.Map.Text.{is_eq-slice_cmp}
use Rattle.std.proofs.lemmas.Slice.Eq.{bytes_eq-Decides, slice_eq-Decides}
use Rattle.hc_gaps.specs.Forms.{same_members, times_in}

-- ---- the order of octets

abbrev order : List ℕ → List ℕ → Ordering
order one other = slice_cmp nat_cmp one other

abbrev is_below : List ℕ → List ℕ → Bool
is_below one other = is_lt (order one other)

-- neither is below the other: they are the same
tied : (o p : Ordering) → o ≡ ordering_reverse p → is_lt o ≡ false → is_lt p ≡ false → is_eq o ≡ true
tied Less p back one other = absurd (cc)
tied Equal p back one other = refl
tied Greater Less back one other = absurd (cc)
tied Greater Equal back one other = absurd (cc)
tied Greater Greater back one other = absurd (cc)

same_rank : (one other : List ℕ) → is_below one other ≡ false → is_below other one ≡ false → one ≡ other
same_rank one other this that =
    (bytes_eq-Decides one other).0
    (sym (is_eq-slice_cmp one other) ∙ tied (order one other) (order other one) (nat_list_cmp_total.antisymm one other) this that)

not_below_itself : (one : List ℕ) → is_below one one ≡ false
not_below_itself one = ap is_lt (tied_itself nat_list_cmp_total one)

-- ---- lists that rise: nothing in them is below what stands before it

abbrev Rises : List (List ℕ) → Type 0
Rises [] = Unit {0}
Rises (x ∷ xs) = All (λ y. is_below y x ≡ false) xs × Rises xs

from_sorted : (xs : List (Bor (List ℕ))) → IsSortedBy (λ a b. is_below a.now b.now) xs → Rises (map (λ (m : Bor (List ℕ)). m.now) xs)
from_sorted [] up = tt
from_sorted (x ∷ xs) up = (
  All-map (λ y. is_below y x.now ≡ false) (λ (m : Bor (List ℕ)). m.now) xs
      (λ k d within. sorted_far (λ a b. is_below a.now b.now) (ranks_by nat_list_cmp_total (λ (m : Bor (List ℕ)). m.now)) (x ∷ xs) up 0 (suc k) d (omega arith) (omega arith)),
  from_sorted xs (λ k d low within.
      let same : suc k + 1 ≡ suc (k + 1) = omega arith in
      subst (λ (n : ℕ). is_below (get_or (x ∷ xs) n d).now (get_or xs k d).now ≡ false) same (up (suc k) d (omega arith) (omega arith))),
)

-- ---- how often a member stands there

abbrev is_it : List ℕ → List ℕ → ℕ
is_it member other = cond (bytes_eq member other) 1 0

-- what holds of all holds of what stands there
occurs : (P : List ℕ → Type 0) (member : List ℕ) (xs : List (List ℕ)) → 0 < times_in member xs → All P xs → P member
occurs P member [] some all = absurd (omega arith)
occurs P member (x ∷ xs) some all = go (bytes_eq member x) refl (occurs P member xs)
  where
    go : (b : Bool) → bytes_eq member x ≡ b → (0 < times_in member xs → All P xs → P member) → P member
    go true is behind = subst P (sym ((bytes_eq-Decides member x).0 is)) (All-head P x xs all)
    go false is behind =
        let none : is_it member x ≡ 0 = ap (λ (t : Bool). cond t 1 0) is in
        behind (omega (arith, sum_by-cons (is_it member) x xs, none)) (All-tail P x xs all)

stands_first : (x : List ℕ) (xs : List (List ℕ)) → 0 < times_in x (x ∷ xs)
stands_first x xs =
    let one : is_it x x ≡ 1 = ap (λ (t : Bool). cond t 1 0) ((bytes_eq-Decides x x).1 refl) in
    omega (arith, sum_by-cons (is_it x) x xs, one)

fewer : (m x y : List ℕ) (xs ys : List (List ℕ)) → x ≡ y → times_in m (x ∷ xs) ≡ times_in m (y ∷ ys) → times_in m xs ≡ times_in m ys
fewer m x y xs ys first same =
    let one : is_it m x ≡ is_it m y = ap (is_it m) first in
    omega (arith, sum_by-cons (is_it m) x xs, sum_by-cons (is_it m) y ys, one, same)

first_is_least : (x y : List ℕ) (ys : List (List ℕ)) → Rises (y ∷ ys) → 0 < times_in x (y ∷ ys) → is_below x y ≡ false
first_is_least x y ys up some =
    occurs (λ m. is_below m y ≡ false) x (y ∷ ys) some (All-cons (λ m. is_below m y ≡ false) y ys (not_below_itself y) up.0)

one_list : (xs ys : List (List ℕ)) → Rises xs → Rises ys → ((m : List ℕ) → times_in m xs ≡ times_in m ys) → xs ≡ ys
one_list [] [] up rises same = refl
one_list [] (y ∷ ys) up rises same = absurd (omega (arith, stands_first y ys, same y))
one_list (x ∷ xs) [] up rises same = absurd (omega (arith, stands_first x xs, same x))
one_list (x ∷ xs) (y ∷ ys) up rises same =
    let first : x ≡ y = same_rank x y
    (first_is_least x y ys rises (omega (arith, stands_first x xs, same x)))
    (first_is_least y x xs up (omega (arith, stands_first y ys, same y))) in
    ap (λ (m : List ℕ). m ∷ xs) first ∙ ap (λ (l : List (List ℕ)). y ∷ l) (one_list xs ys up.1 rises.1 (λ m. fewer m x y xs ys first (same m)))

-- ---- each member of one of both stands equally often in both

equally_often : (one other : List (List ℕ)) → same_members one other ≡ true → (m : List ℕ) → times_in m one ≡ times_in m other
equally_often one other all m = go (cases_lt 0 (times_in m (one ++ other)))
  where
    go : (0 < times_in m (one ++ other)) ⊎ (times_in m (one ++ other) ≤ 0) → times_in m one ≡ times_in m other
    go (inl some) =
        eqb-true (times_in m one) (times_in m other)
        (occurs (λ z. (times_in z one == times_in z other) ≡ true) m (one ++ other) some
        (AllPass-from_list_all (λ z. times_in z one == times_in z other) (one ++ other) all))
    go (inr none) = omega (arith, sum_by-append (is_it m) one other, none)

all_equally_often : (one other : List (List ℕ)) → ((m : List ℕ) → times_in m one ≡ times_in m other) → same_members one other ≡ true
all_equally_often one other same =
    list_all-from_AllPass (λ z. times_in z one == times_in z other) (one ++ other)
    (λ k d within. eq-eqb (times_in (get_or (one ++ other) k d) one) (times_in (get_or (one ++ other) k d) other) (same (get_or (one ++ other) k d)))

in_order : (one other xs ys : List (List ℕ)) → IsPermutation one xs → IsPermutation other ys → Rises xs → Rises ys → Decides (same_members one other) (xs ≡ ys)
in_order one other xs ys this that up rises = (
  λ all. one_list xs ys up rises (λ m.
      sum_by-IsPermutation (is_it m) one xs this ∙ equally_often one other all m ∙ sym (sum_by-IsPermutation (is_it m) other ys that)),
  λ same. all_equally_often one other (λ m.
      sym (sum_by-IsPermutation (is_it m) one xs this) ∙ ap (times_in m) same ∙ sum_by-IsPermutation (is_it m) other ys that),
)

-- ---- slices that are sorted

abbrev plain : List (Bor (List ℕ)) → List (List ℕ)
plain members = map (λ (m : Bor (List ℕ)). m.now) members

each_plain : (xs ys : List (Bor (List ℕ))) → pointwise (λ (x y : Bor (List ℕ)). bytes_eq x.now y.now) xs ys ≡ pointwise bytes_eq (plain xs) (plain ys)
each_plain [] [] = refl
each_plain [] (y ∷ ys) = refl
each_plain (x ∷ xs) [] = refl
each_plain (x ∷ xs) (y ∷ ys) = ap (λ (t : Bool). bytes_eq x.now y.now && t) (each_plain xs ys)

pub same_in_order : (one other : List (List ℕ)) (these those xs ys : List (Bor (List ℕ))) (same : Bool) → plain these ≡ one → plain those ≡ other
    → IsPermutation these xs → IsPermutation those ys
    → IsSortedBy (λ a b. is_below a.now b.now) xs → IsSortedBy (λ a b. is_below a.now b.now) ys
    → same ≡ pointwise (λ (x y : Bor (List ℕ)). bytes_eq x.now y.now) xs ys → same ≡ same_members one other
same_in_order one other these those xs ys same one-is other-is this that up rises is =
    same_from_decides same (same_members one other)
    (slice_eq-Decides bytes_eq-Decides (plain xs) (plain ys) same (is ∙ each_plain xs ys))
    (in_order one other (plain xs) (plain ys)
    (subst (λ (l : List (List ℕ)). IsPermutation l (plain xs)) one-is (IsPermutation-map (λ (m : Bor (List ℕ)). m.now) these xs this))
    (subst (λ (l : List (List ℕ)). IsPermutation l (plain ys)) other-is (IsPermutation-map (λ (m : Bor (List ℕ)). m.now) those ys that))
    (from_sorted xs up) (from_sorted ys rises))
