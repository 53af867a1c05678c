-- Seconds as nanoseconds, in signed numbers.
use Rattle.std.proofs.Common.{◌≡◌, ◌*◌, ◌<◌, ◌^◌, ℕ, ℤ, pos, to_z, of_z, ◌*ℤ◌, arith}
use Rattle.std.specs.Int.{w128}
use Rattle.jiff_core.specs.DateTime.{IsCivilNanos}
use Rattle.jiff_core.proofs.SignedLemmas.{signed_arith}
use Rattle.std.proofs.lemmas.Int.{fits_signed_from_abs, to_z-of_z}

pub scaled : (z : ℤ) (n : ℕ) → n < 2 ^ 64 → z ≡ pos n → to_z w128 (of_z w128 (to_z w128 (of_z w128 z) *ℤ pos 1_000_000_000)) ≡ pos (n * 1_000_000_000)
scaled z n few same =
    let one = to_z-of_z w128 (pos n) (fits_signed_from_abs w128 (pos n) (omega arith)) in
    rw (same, one) (to_z-of_z w128 (pos (n * 1_000_000_000)) (fits_signed_from_abs w128 (pos (n * 1_000_000_000)) (omega arith)))

pub early_is_civil : (n : ℕ) → n < 253_402_300_800 → IsCivilNanos (pos (n * 1_000_000_000))
early_is_civil n early = (omega (arith, signed_arith), omega (arith, signed_arith))
