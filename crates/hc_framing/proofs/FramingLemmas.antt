-- What the members of a Content-Length write.
use Rattle.std.proofs.Common.{◌≡◌, ℕ, ◌+◌, ◌^◌, ◌≤◌, ◌<◌, Bool, true, false, cond, ◌&&◌, List, [], ◌∷◌, ◌++◌, Option, Some, None, Err, ltb, not, one-add, length, take, refl, sym, ap, ◌∙◌, arith}
use Rattle.std.specs.Prelude.{nat_le, nat_lt, min, unwrap_or}
use Rattle.std.specs.List.{list_all, flat_map, slice_split, onto_first, before_first, prefix_len, position_or_len}
use Rattle.std.specs.Char.{is_ascii_digit, digit_value}
use Rattle.std.specs.Str.Parse.{digits_value, AllDigits}
use Rattle.std.proofs.Math.Nat.{pow-le-pow_right}
use Rattle.std.proofs.lemmas.Bool.Decides.{nat_tests}
use Rattle.std.proofs.lemmas.Int.Digits.{digits_value-lt}
use Rattle.std.proofs.lemmas.List.Folds.{list_all-append}
use Rattle.std.proofs.lemmas.List.Sums.{prefix_len-le-length}
use Rattle.std.proofs.lemmas.List.Splits.{length-slice_split}
use Rattle.hc_fields.specs.Numbers.{is_number, decimal_of}
use Rattle.hc_framing.specs.declared.fault.FrameFault.TheVariants.{BadLength}
use Rattle.hc_framing.specs.declared.framing.Framing.{Framing}
use Rattle.hc_fields.specs.Lists.{trimmed}
use Rattle.hc_framing.specs.Framing.{is_comma, members_of, member_length, first_length, is_number_of, each_writes, sized_by}

and_right : (a b : Bool) → (a && b) ≡ true → b ≡ true
and_right true b e = e
and_right false b e = absurd (cc)

and_left : (a b : Bool) → (a && b) ≡ true → a ≡ true
and_left true b e = refl
and_left false b e = absurd (cc)

all_digits : (text : List ℕ) → list_all is_ascii_digit text ≡ true → AllDigits 10 text
all_digits [] e = tt
all_digits (c ∷ cs) e =
    let digit : is_ascii_digit c ≡ true = and_left (is_ascii_digit c) (list_all is_ascii_digit cs) e in
    let small : digit_value c < 10 = grind (arith, nat_tests) in
    (small, all_digits cs (and_right (is_ascii_digit c) (list_all is_ascii_digit cs) e))

-- 18 digits are no more than the greatest decimal
digits_below : (text : List ℕ) → length text ≤ 18 → is_number text ≡ true → min 1000000000000000000 (digits_value 10 text) ≡ digits_value 10 text
digits_below text few e =
    let below = digits_value-lt 10 text (all_digits text (and_right (nat_lt 0 (length text)) (list_all is_ascii_digit text) e)) in
    let top : 10 ^ length text ≤ 10 ^ 18 = pow-le-pow_right {n = 10} (omega arith) few in
    omega (arith, below, top)

decimal_exact : (text : List ℕ) → length text ≤ 18 → decimal_of text ≡ cond (is_number text && nat_le (length text) 18) (Some (digits_value 10 text)) None
decimal_exact text few = go (is_number text) refl
  where
    go : (test : Bool) → is_number text ≡ test
        → cond test (Some (min 1000000000000000000 (digits_value 10 text))) None ≡ cond (test && nat_le (length text) 18) (Some (digits_value 10 text)) None
    go true e =
        let fits : nat_le (length text) 18 ≡ true = grind (arith, nat_tests) in
        rw fits (ap (λ (n : ℕ). Some n) (digits_below text few e))
    go false e = refl

pub member_exact : (member digits : List ℕ) (found : Option ℕ) → digits ≡ trimmed member → length digits ≤ 18 → found ≡ decimal_of digits → found ≡ member_length member
member_exact member digits found is few e =
    e ∙ decimal_exact digits few ∙ ap (λ (text : List ℕ). cond (is_number text && nat_le (length text) 18) (Some (digits_value 10 text)) None) is

first_part : List (List ℕ) → List ℕ
first_part [] = []
first_part (part ∷ parts) = part

first_onto : (x : ℕ) (parts : List (List ℕ)) → first_part (onto_first x parts) ≡ x ∷ first_part parts
unfolding first_part
first_onto x [] = refl
first_onto x (part ∷ parts) = refl

first_of_split : (p : ℕ → Bool) (xs : List ℕ) → first_part (slice_split p xs) ≡ before_first p xs
unfolding first_part
first_of_split p [] = refl
first_of_split p (x ∷ xs) = go (p x) (first_of_split p xs)
  where
    go : (test : Bool) → first_part (slice_split p xs) ≡ before_first p xs
        → first_part (cond test ([] ∷ slice_split p xs) (onto_first x (slice_split p xs))) ≡ take (cond (not test) (1 + prefix_len (λ y. not (p y)) xs) 0) (x ∷ xs)
    go true e = refl
    go false e = first_onto x (slice_split p xs) ∙ ap (λ (o : List ℕ). x ∷ o) e ∙ rw one-add refl

-- where the first comma is, or the end
pub comma_is : (value : List ℕ) (place : Option ℕ) (end : ℕ) → (p : ℕ → Bool)
    → place ≡ cond (ltb (position_or_len p value) (length value)) (Some (position_or_len p value)) None → end ≡ unwrap_or place (length value)
    → take end value ≡ before_first p value
comma_is value place end p found e =
    ap (λ (n : ℕ). take n value) (e ∙ ap (λ (o : Option ℕ). unwrap_or o (length value)) found ∙ go (ltb (position_or_len p value) (length value)) refl)
  where
    go : (test : Bool) → ltb (position_or_len p value) (length value) ≡ test
        → unwrap_or (cond test (Some (position_or_len p value)) None) (length value) ≡ position_or_len p value
    go true t = refl
    go false t = grind (arith, nat_tests, prefix_len-le-length (λ x. not (p x)) value)

list_all-flat_map : {X A : Type 0} (p : A → Bool) (f : X → List A) (xs : List X) → list_all p (flat_map f xs) ≡ list_all (λ x. list_all p (f x)) xs
list_all-flat_map p f [] = refl
list_all-flat_map p f (x ∷ xs) = list_all-append p (f x) (flat_map f xs) ∙ ap (λ (b : Bool). list_all p (f x) && b) (list_all-flat_map p f xs)

first_of-append : (xs ys : List (List ℕ)) → 0 < length xs → first_length (xs ++ ys) ≡ first_length xs
first_of-append [] ys some = absurd (omega (arith, some))
first_of-append (x ∷ xs) ys some = refl

first_length_is : (members : List (List ℕ)) → 0 < length members → member_length (first_part members) ≡ first_length members
unfolding first_part
first_length_is [] some = absurd (omega (arith, some))
first_length_is (member ∷ members) some = refl

members_some : (value : List ℕ) → 0 < length (members_of value)
members_some value = omega (arith, length-slice_split is_comma value)

pub first_found : (value member : List ℕ) (found : Option ℕ) → member ≡ before_first is_comma value → found ≡ member_length member → found ≡ first_length (members_of value)
first_found value member found is e =
    e ∙ ap member_length (is ∙ sym (first_of_split is_comma value)) ∙ first_length_is (members_of value) (members_some value)

pub sized_none : (default : Framing) (value : List ℕ) (values rest : List (List ℕ)) → values ≡ value ∷ rest → first_length (members_of value) ≡ None
    → Err BadLength ≡ sized_by default values
sized_none default value values rest e none =
    let first : first_length (members_of value ++ flat_map members_of rest) ≡ None = first_of-append (members_of value) (flat_map members_of rest) (members_some value) ∙ none in
    rw e (rw first refl)

pub each_line : (size : ℕ) (values : List (List ℕ)) → list_all (λ value. each_writes size (members_of value)) values ≡ each_writes size (flat_map members_of values)
each_line size values = sym (list_all-flat_map (λ member. is_number_of size (member_length member)) members_of values)
