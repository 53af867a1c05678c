-- What readers count.
use Rattle.std.proofs.Common.{◌≡◌, ℕ, ◌+◌, ◌-◌, ◌^◌, ◌≤◌, ◌<◌, List, ◌++◌, length, min, take, arith, ap, sym, ◌∙◌, length-append, length-take}
use Rattle.hc_incoming.specs.Counts.{count_of}

-- a sum that is cut off at a limit is that of a part that was cut off before
cut_sum : (a b most : ℕ) → min (min a most + b) most ≡ min (a + b) most
cut_sum a b most = omega arith

-- octets that come are counted on
pub counted_on : (heard : ℕ) (octets piece : List ℕ) → heard ≡ count_of octets → min (heard + length piece) (2 ^ 64 - 1) ≡ count_of (octets ++ piece)
counted_on heard octets piece counted =
    let most = 2 ^ 64 - 1 in
    ap (λ (n : ℕ). min (n + length piece) most) counted
    ∙ cut_sum (length octets) (length piece) most
    ∙ ap (λ (n : ℕ). min n most) (sym (length-append octets piece))

-- so are those at the front of a piece
pub counted_front : (heard used : ℕ) (octets piece : List ℕ) → heard ≡ count_of octets → used ≤ length piece → min (heard + used) (2 ^ 64 - 1) ≡ count_of (octets ++ take used piece)
counted_front heard used octets piece counted within =
    let taken : length (take used piece) ≡ used = omega (arith, length-take used piece, within) in
    ap (λ (n : ℕ). min (heard + n) (2 ^ 64 - 1)) (sym taken) ∙ counted_on heard octets (take used piece) counted

-- a count that has room for them is their number
pub counted_all : (heard : ℕ) (octets : List ℕ) → heard ≡ length octets → heard < 2 ^ 64 → heard ≡ count_of octets
counted_all heard octets is few = omega (arith, is, few)
