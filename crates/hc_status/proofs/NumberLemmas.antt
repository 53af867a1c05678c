-- The numbers that few digits write.
use Rattle.std.proofs.Common.{◌≡◌, ℕ, ◌<◌, ◌≤◌, ◌^◌, ℤ, Bool, true, false, ◌==◌, if◌then◌else◌, List, [], ◌∷◌, ◌++◌, length, Some, refl, sym, ap, subst, ◌∙◌, arith, lit<}
use Rattle.std.specs.List.{list_all, take_while}
use Rattle.std.specs.Char.{digit_value, is_ascii_digit}
use Rattle.std.specs.Str.Parse.{AllDigits, digits_value}
use Rattle.std.proofs.Math.Nat.{pow-le-pow_right}
use Rattle.std.proofs.lemmas.Bool.{and_parts, and_from, cond-true, cond-false, lt-ltb, le-leb, eqb-true}
use Rattle.std.proofs.lemmas.Bool.Decides.{nat_tests}
use Rattle.std.proofs.lemmas.Int.Digits.{digits_value-lt}
use Rattle.std.proofs.lemmas.List.{append-nil}
use Rattle.std.proofs.lemmas.List.Elements.{All-head}
use Rattle.std.proofs.lemmas.List.Sums.{AllPass-from_list_all, list_all-from_AllPass}
use Rattle.std.proofs.lemmas.Option.{cond_some}
use Rattle.hc_status.specs.declared.items.Bare.{Bare}
use Rattle.hc_status.specs.declared.items.Bare.TheVariants.{Integer, Decimal}
use Rattle.hc_status.specs.Grammar.{IsDigits, IsInteger, IsDecimal, IsBare, minus, signed}
use Rattle.hc_status.specs.Reading.{behind, is_digits, is_negative, makes_decimal, unsigned, number_of, number_with}
use Rattle.hc_status.proofs.RunLemmas.{Stops, run_is, behind_run, run_spelled}

digit_value_small : (b : ℕ) → is_ascii_digit b ≡ true → digit_value b < 10
digit_value_small b digit = grind (arith, nat_tests)

pub all_digits : (text : List ℕ) → list_all is_ascii_digit text ≡ true → AllDigits 10 text
all_digits [] all = tt
all_digits (b ∷ text) all =
    let parts = and_parts (is_ascii_digit b) _ all in
    (digit_value_small b parts.0, all_digits text parts.1)

-- at most fifteen digits write a number of at most fifteen digits
pub digits_value_small : (text : List ℕ) → is_digits 15 text ≡ true → digits_value 10 text < 10 ^ 15
digits_value_small text digits =
    let some = and_parts _ _ digits in
    let few = and_parts _ _ some.1 in
    let short : length text ≤ 15 = grind (arith, nat_tests) in
    let below = digits_value-lt 10 text (all_digits text few.1) in
    let room : 10 ^ length text ≤ 10 ^ 15 = pow-le-pow_right (lit< tt) short in
    omega (arith, below, room)

-- ---- what the reader of numbers answers is a number, and each number is read

signed_parts : (test : Bool) (b : ℕ) (text : List ℕ) → (b == 45) ≡ test
    → b ∷ text ≡ (if test then 45 ∷ [] else []) ++ (if test then text else b ∷ text)
signed_parts true b text minus = ap (λ (n : ℕ). n ∷ text) (eqb-true b 45 minus)
signed_parts false b text other = refl

text_signed : (text : List ℕ) → text ≡ minus (is_negative text) ++ unsigned text
text_signed [] = refl
text_signed (b ∷ text) = signed_parts (b == 45) b text refl

digits_from : (most : ℕ) (text : List ℕ) → is_digits most text ≡ true → IsDigits most text
digits_from most text test =
    let some = and_parts _ _ test in
    let few = and_parts _ _ some.1 in
    record {
      some = grind (arith, nat_tests);
      few = grind (arith, nat_tests);
      are_digits = AllPass-from_list_all is_ascii_digit text few.1;
    }

digits_pass : (most : ℕ) (text : List ℕ) → IsDigits most text → is_digits most text ≡ true
digits_pass most text digits =
    and_from _ _ (lt-ltb 0 (length text) digits.some) (and_from _ _ (le-leb (length text) most digits.few) (list_all-from_AllPass is_ascii_digit text digits.are_digits))

number_with_sound : (text whole rest : List ℕ) (v : Bare) → unsigned text ≡ whole ++ rest → number_with text whole rest ≡ Some v → IsBare v text
number_with_sound text whole [] v cut found =
    let chosen = cond_some (is_digits 15 whole) _ v found in
    subst (λ (w : Bare). IsBare w text) chosen.1
    (record {
      negative = is_negative text;
      digits = whole;
      is_digits = digits_from 15 whole chosen.0;
      spelled = text_signed text ∙ ap (λ (l : List ℕ). minus (is_negative text) ++ l) (cut ∙ append-nil whole);
      value_is = refl;
    })
number_with_sound text whole (b ∷ fraction) v cut found =
    let chosen = cond_some (makes_decimal whole b fraction) _ v found in
    let point = and_parts (b == 46) _ chosen.0 in
    let parts = and_parts (is_digits 12 whole) _ point.1 in
    subst (λ (w : Bare). IsBare w text) chosen.1 (
      refl,
      record {
        negative = is_negative text;
        whole = whole;
        fraction = fraction;
        is_whole = digits_from 12 whole parts.0;
        is_fraction = digits_from 3 fraction parts.1;
        spelled = text_signed text ∙ ap (λ (l : List ℕ). minus (is_negative text) ++ l) (cut ∙ ap (λ (n : ℕ). whole ++ n ∷ fraction) (eqb-true b 46 point.0));
      },
    )

-- what is read as a number is spelled as that number
pub number_of_sound : (text : List ℕ) (v : Bare) → number_of text ≡ Some v → IsBare v text
unfolding number_of
number_of_sound text v found = number_with_sound text (take_while is_ascii_digit (unsigned text)) (behind is_ascii_digit (unsigned text)) v (run_spelled is_ascii_digit (unsigned text)) found

-- ---- and each number is read

signed_digits : (most : ℕ) (negative : Bool) (digits rest : List ℕ) → IsDigits most digits
    → (unsigned (minus negative ++ (digits ++ rest)) ≡ digits ++ rest) × (is_negative (minus negative ++ (digits ++ rest)) ≡ negative)
signed_digits most true digits rest is = (refl, refl)
signed_digits most false [] rest is = absurd (omega (arith, is.some))
signed_digits most false (d ∷ digits) rest is =
    let digit = All-head (λ b. is_ascii_digit b ≡ true) d digits is.are_digits in
    let other : (d == 45) ≡ false = grind (arith, nat_tests) in
    (cond-false (d == 45) _ _ other, other)

-- the digits behind the sign, and what stands behind them
number_of_parts : (most : ℕ) (negative : Bool) (digits rest : List ℕ) → IsDigits most digits → Stops is_ascii_digit rest
    → number_of (minus negative ++ (digits ++ rest)) ≡ number_with (minus negative ++ (digits ++ rest)) digits rest
unfolding number_of
number_of_parts most negative digits rest is stops =
    let text = minus negative ++ (digits ++ rest) in
    let unsigned-is = (signed_digits most negative digits rest is).0 in
    let whole = ap (take_while is_ascii_digit) unsigned-is ∙ run_is is_ascii_digit digits rest is.are_digits stops in
    let more = ap (behind is_ascii_digit) unsigned-is ∙ behind_run is_ascii_digit digits rest is.are_digits stops in
    λ i. number_with text (whole i) (more i)

pub integer_is_read : (n : ℤ) (text : List ℕ) → IsInteger n text → number_of text ≡ Some (Integer n)
integer_is_read n text is =
    let whole : text ≡ minus is.negative ++ (is.digits ++ []) = is.spelled ∙ ap (λ (l : List ℕ). minus is.negative ++ l) (sym (append-nil is.digits)) in
    let signs = signed_digits 15 is.negative is.digits [] is.is_digits in
    ap number_of whole
    ∙ (number_of_parts 15 is.negative is.digits [] is.is_digits tt
    ∙ (cond-true (is_digits 15 is.digits) _ _ (digits_pass 15 is.digits is.is_digits)
    ∙ (ap (λ (s : Bool). Some (Integer (signed s (digits_value 10 is.digits)))) signs.1 ∙ ap (λ (m : ℤ). Some (Integer m)) (sym is.value_is))))

pub decimal_is_read : (text : List ℕ) → IsDecimal text → number_of text ≡ Some (Decimal text)
decimal_is_read text is =
    let rest = 46 ∷ is.fraction in
    let passes = and_from _ _ (digits_pass 12 is.whole is.is_whole) (digits_pass 3 is.fraction is.is_fraction) in
    ap number_of is.spelled
    ∙ (number_of_parts 12 is.negative is.whole rest is.is_whole refl
    ∙ (cond-true (makes_decimal is.whole 46 is.fraction) _ _ passes ∙ ap (λ (l : List ℕ). Some (Decimal l)) (sym is.spelled)))
