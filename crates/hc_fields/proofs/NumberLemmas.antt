-- Numbers as they are read, a digit at a time.
use Rattle.std.proofs.Common.{◌≡◌, ℕ, ◌+◌, ◌-◌, ◌*◌, ◌<◌, List, length, take, get_or, true, arith}
use Rattle.std.specs.Prelude.{min}
use Rattle.std.specs.Char.{digit_value, is_ascii_digit}
use Rattle.std.specs.Str.Parse.{digits_value}
use Rattle.std.proofs.lemmas.Bool.Decides.{nat_tests}
use Rattle.std.proofs.lemmas.Int.Digits.{digits_value_more}

pub digit_value_is : (c : ℕ) → is_ascii_digit c ≡ true → digit_value c ≡ c - 48
digit_value_is c digit = grind (arith, nat_tests)

-- the value so far is kept at the limit or below, and a digit more
pub capped_more : (limit : ℕ) (text : List ℕ) (i c value : ℕ) → i < length text → c ≡ get_or text i 0 → is_ascii_digit c ≡ true
    → value ≡ min limit (digits_value 10 (take i text))
    → min (value * 10 + (c - 48)) limit ≡ min limit (digits_value 10 (take (i + 1) text))
capped_more limit text i c value lt at digit value-is =
    let more = digits_value_more 10 text i lt in
    let digit-is : digit_value (get_or text i 0) ≡ c - 48 = rw (← at) (digit_value_is c digit) in
    omega (arith, more, digit-is, value-is)
