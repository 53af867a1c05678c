-- Things that are named one after another.
use Rattle.std.proofs.Common.{◌≡◌, ◌≤◌, ◌<◌, ◌++◌, ◌+◌, ◌-◌, ◌^◌, ℕ, Bool, min, List, [], ◌∷◌, length, ap, sym, subst, ◌∙◌, arith}
use Rattle.std.specs.Prelude.{filter}
use Rattle.std.proofs.lemmas.List.{append_assoc, take_all, take-append-le, length-append, length-take}
use Rattle.std.proofs.lemmas.List.Elements.{filter-append}
use Rattle.hc_gaps.specs.Firsts.{AreFirst}

-- ---- one more

few : (most n k : ℕ) → n < most → n ≡ min most k → k + 1 ≤ most
few most n k room is = grind (arith)

below : (most k : ℕ) → k + 1 ≤ most → k ≤ most
below most k room = grind (arith)

none_over : (most more top k : ℕ) → k + 1 ≤ most → more ≡ min (k - most) top → more ≡ min (k + 1 - most) top
none_over most more top k room was = grind (arith)

-- as many are named as there are, up to the most
how_many : (most : ℕ) (all named : List (List ℕ)) (more : ℕ) → AreFirst most all named more → length named ≡ min most (length all)
how_many most all named more are = ap length are.first ∙ length-take most all

-- where there is room, there is for all
pub room_left : (most : ℕ) (all named : List (List ℕ)) (more : ℕ) → length named < most → AreFirst most all named more → length all + 1 ≤ most
room_left most all named more room are = few most (length named) (length all) room (how_many most all named more are)

-- one is named, where there is room
pub one_named : (most : ℕ) (all named : List (List ℕ)) (more : ℕ) (x : List ℕ) → length named < most
    → AreFirst most all named more → AreFirst most (all ++ x ∷ []) (named ++ x ∷ []) more
one_named most all named more x room are =
    let rest = room_left most all named more room are in
    record {
      first = ap (λ (before : List (List ℕ)). before ++ x ∷ []) (are.first ∙ take_all most all (below most (length all) rest))
          ∙ sym (take_all most (all ++ x ∷ []) (subst (λ (k : ℕ). k ≤ most) (sym (length-append all (x ∷ []))) rest));
      others = none_over most more (2 ^ 64 - 1) (length all) rest are.others
          ∙ ap (λ k. min (k - most) (2 ^ 64 - 1)) (sym (length-append all (x ∷ [])));
    }

-- one is counted, where there is no room
none_left : (most n k : ℕ) → n ≡ min most k → most ≤ n → most ≤ k
none_left most n k is full = grind (arith)

one_over : (most more top k : ℕ) → most ≤ k → more ≡ min (k - most) top → min (more + 1) top ≡ min (k + 1 - most) top
one_over most more top k full was = grind (arith)

-- where there is none, there is none for more of them
pub no_room_left : (most : ℕ) (all named : List (List ℕ)) (more : ℕ) → most ≤ length named → AreFirst most all named more → most ≤ length all
no_room_left most all named more full are = none_left most (length named) (length all) (how_many most all named more are) full

pub one_counted : (most : ℕ) (all named : List (List ℕ)) (more : ℕ) (x : List ℕ) → most ≤ length named
    → AreFirst most all named more → AreFirst most (all ++ x ∷ []) named (min (more + 1) (2 ^ 64 - 1))
one_counted most all named more x full are =
    let many = no_room_left most all named more full are in
    record {
      first = are.first ∙ sym (take-append-le most all (x ∷ []) many);
      others = one_over most more (2 ^ 64 - 1) (length all) many are.others
          ∙ ap (λ k. min (k - most) (2 ^ 64 - 1)) (sym (length-append all (x ∷ [])));
    }

-- ---- those that pass a test

-- those so far, and those that are left
pub goes_on : (p : List ℕ → Bool) (so_far left rest all : List (List ℕ)) (x : List ℕ) → left ≡ x ∷ rest → so_far ++ filter p left ≡ all
    → (so_far ++ filter p (x ∷ [])) ++ filter p rest ≡ all
goes_on p so_far left rest all x first is =
    append_assoc so_far (filter p (x ∷ [])) (filter p rest)
    ∙ ap (λ (more : List (List ℕ)). so_far ++ more) (sym (filter-append p (x ∷ []) rest) ∙ ap (filter p) (sym first))
    ∙ is
