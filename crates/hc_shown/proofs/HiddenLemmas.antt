-- How many octets stand before the last of a kind.
use Rattle.std.proofs.Common.{◌≡◌, ◌-◌, ℕ, List, arith, length, not, ◌==◌}
use Rattle.std.proofs.lemmas.Grind.{common_steps}
use Rattle.std.specs.List.{before_last, suffix_len}

pub length_before_last : (xs : List ℕ) → length (before_last (λ octet. octet == 64) xs) ≡ length xs - suffix_len (λ octet. not (octet == 64)) xs - 1
length_before_last xs = grind (arith, common_steps)
