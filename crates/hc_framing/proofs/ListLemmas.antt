-- Lists that are equal are so piece by piece.
use Rattle.std.proofs.Common.{◌≡◌, ℕ, List, [], ◌∷◌, ◌++◌, length, refl, ap, arith}

-- the first number, and those behind it
abbrev pub first : List ℕ → ℕ
first [] = 0
first (x ∷ xs) = x

abbrev pub behind : List ℕ → List ℕ
behind [] = []
behind (x ∷ xs) = xs

pub tail_is : (a b : ℕ) (x y : List ℕ) → a ∷ x ≡ b ∷ y → (a ≡ b) × (x ≡ y)
tail_is a b x y h = (ap first h, ap behind h)

-- lists of one length at the front of one list are one list
pub fronts : (a b x y : List ℕ) → length a ≡ length b → a ++ x ≡ b ++ y → (a ≡ b) × (x ≡ y)
fronts [] [] x y same h = (refl, h)
fronts [] (d ∷ ds) x y same h = absurd (omega (arith, same))
fronts (c ∷ cs) [] x y same h = absurd (omega (arith, same))
fronts (c ∷ cs) (d ∷ ds) x y same h =
    let cut = tail_is c d (cs ++ x) (ds ++ y) h in
    let on = fronts cs ds x y (omega (arith, same)) cut.1 in
    (λ i. cut.0 i ∷ on.0 i, on.1)
