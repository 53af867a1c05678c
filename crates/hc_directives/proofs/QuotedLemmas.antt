-- The number that octets write, octet by octet.
use Rattle.std.proofs.Common.{◌≡◌, ℕ, ◌+◌, ◌-◌, ◌*◌, Bool, true, false, cond, ◌&&◌, List, [], ◌∷◌, Option, Some, None, length, refl, ap, ◌∙◌, arith}
use Rattle.std.specs.Prelude.{min, unwrap_or, nat_lt, if◌then◌else◌}
use Rattle.std.specs.List.{list_all}
use Rattle.std.specs.Char.{is_ascii_digit, digit_value}
use Rattle.std.specs.Str.Parse.{digits_value_after}
use Rattle.std.proofs.lemmas.Bool.Decides.{nat_tests}
use Rattle.hc_fields.specs.Numbers.{number_of}
use Rattle.hc_fields.proofs.NumberLemmas.{digit_value_is}

-- the number that the digits write when they follow those of a number, at most 2147483648
abbrev pub number_behind : Option ℕ → List ℕ → Option ℕ
number_behind number [] = number
number_behind number (c ∷ cs) = if is_ascii_digit c then number_behind (Some (min (unwrap_or number 0 * 10 + (c - 48)) 2147483648)) cs else None

one_more : (n c : ℕ) → is_ascii_digit c ≡ true → min (min 2147483648 n * 10 + (c - 48)) 2147483648 ≡ min 2147483648 (n * 10 + digit_value c)
one_more n c digit = let value = digit_value_is c digit in omega (arith, value)

number_from : (n : ℕ) (text : List ℕ) → number_behind (Some (min 2147483648 n)) text ≡ (if list_all is_ascii_digit text then Some (min 2147483648 (digits_value_after 10 n text)) else None)
number_from n [] = refl
number_from n (c ∷ cs) = go (is_ascii_digit c) refl (number_from (n * 10 + digit_value c) cs)
  where
    go : (digit : Bool) → is_ascii_digit c ≡ digit
        → number_behind (Some (min 2147483648 (n * 10 + digit_value c))) cs
        ≡ cond (list_all is_ascii_digit cs) (Some (min 2147483648 (digits_value_after 10 (n * 10 + digit_value c) cs))) None
        → cond digit (number_behind (Some (min (min 2147483648 n * 10 + (c - 48)) 2147483648)) cs) None
        ≡ cond (digit && list_all is_ascii_digit cs) (Some (min 2147483648 (digits_value_after 10 (n * 10 + digit_value c) cs))) None
    go true e rest = ap (λ (m : ℕ). number_behind (Some m) cs) (one_more n c e) ∙ rest
    go false e rest = refl

pub number_is : (text : List ℕ) → number_behind None text ≡ number_of text
number_is [] = refl
number_is (c ∷ cs) = go (nat_lt 0 (length (c ∷ cs))) (is_ascii_digit c) (grind (arith, nat_tests)) refl
  where
    go : (some digit : Bool) → some ≡ true → is_ascii_digit c ≡ digit
        → cond digit (number_behind (Some (min (0 * 10 + (c - 48)) 2147483648)) cs) None
        ≡ cond (some && (digit && list_all is_ascii_digit cs)) (Some (min 2147483648 (digits_value_after 10 (0 * 10 + digit_value c) cs))) None
    go true true s e = ap (λ (m : ℕ). number_behind (Some m) cs) (one_more 0 c e) ∙ number_from (0 * 10 + digit_value c) cs
    go true false s e = refl
    go false digit s e = absurd (cc)
