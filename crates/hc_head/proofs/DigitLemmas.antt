-- A status has three digits.
use Rattle.std.proofs.Common.{◌≡◌, ℕ, ◌<◌, ◌≤◌, true, List, [], ◌∷◌, length, arith}
use Rattle.std.specs.List.{list_all}
use Rattle.std.specs.Char.{is_ascii_digit, digit_value}
use Rattle.std.specs.Str.Parse.{digits_value}
use Rattle.std.proofs.lemmas.Bool.{and_parts}
use Rattle.std.proofs.lemmas.Bool.Decides.{nat_tests}
use Rattle.std.proofs.lemmas.List.Sums.{list_all-from_AllPass}
use Rattle.httparse.specs.Grammar.{ResponseHead, IsResponseHead, status_code}

digit_small : (b : ℕ) → is_ascii_digit b ≡ true → digit_value b ≤ 9
digit_small b digit = grind (arith, nat_tests)

three_small : (ds : List ℕ) → length ds ≡ 3 → list_all is_ascii_digit ds ≡ true → digits_value 10 ds < 1000
three_small [] three all = absurd (omega arith)
three_small (a ∷ []) three all = absurd (omega arith)
three_small (a ∷ b ∷ []) three all = absurd (omega arith)
three_small (a ∷ b ∷ c ∷ []) three all =
    let first = and_parts (is_ascii_digit a) _ all in
    let second = and_parts (is_ascii_digit b) _ first.1 in
    let third = and_parts (is_ascii_digit c) _ second.1 in
    let hundreds = digit_small a first.0 in
    let tens = digit_small b second.0 in
    let ones = digit_small c third.0 in
    omega arith
three_small (a ∷ b ∷ c ∷ d ∷ ds) three all = absurd (omega arith)

-- so it is under 1,000
pub status_small : (h : ResponseHead) → IsResponseHead h → status_code h < 1000
status_small h is = three_small h.digits is.digits.0 (list_all-from_AllPass is_ascii_digit h.digits is.digits.1)
