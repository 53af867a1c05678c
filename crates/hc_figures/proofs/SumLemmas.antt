-- Sums of numbers that may not be there.
use Rattle.std.proofs.Common.{◌≡◌, ◌≤◌, ◌+◌, ◌^◌, ℕ, Option, None, Some, ap, refl, arith, unwrap_or}
use Rattle.hc_figures.specs.Reports.{plus}

pub plus_on : (m n : ℕ) (rest : Option ℕ) → plus (Some m) (plus (Some n) rest) ≡ plus (Some (m + n)) rest
plus_on m n None = refl
plus_on m n (Some k) = ap (λ (i : ℕ). Some i) (omega arith)

pub plus_nothing : (m : ℕ) → plus (Some m) (Some 0) ≡ Some m
plus_nothing m = ap (λ (i : ℕ). Some i) (omega arith)

pub too_great : (m n s : ℕ) (rest : Option ℕ) → 2 ^ 64 ≤ m + n → plus (Some m) (plus (Some n) rest) ≡ Some s → 2 ^ 64 ≤ s
too_great m n s None great is = absurd (grind arith)
too_great m n s (Some k) great is =
    let e : m + (n + k) ≡ s = ap (λ (o : Option ℕ). unwrap_or o 0) is in
    omega (arith, great, e)
