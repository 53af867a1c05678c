-- Values and fields that are plain.
use Rattle.std.proofs.Common.{◌≡◌, ℕ, zero, suc, ◌+◌, ◌/◌, ◌%◌, ◌<◌, ◌==◌, Bool, true, false, cond, List, [], ◌∷◌, ◌++◌, length, reverse, refl, sym, ap, subst, ◌∙◌, arith, append_assoc}
use Rattle.std.specs.Prelude.{codes, decimal, filter}
use Rattle.std.specs.List.{list_all}
use Rattle.std.specs.Fmt.{digits, digits_onto, digit_glyph}
use Rattle.std.specs.Char.{is_ascii_digit}
use Rattle.std.proofs.lemmas.Bool.{and_parts, and_from, not_from_false, lt-ltb, cond-true}
use Rattle.std.proofs.lemmas.Bool.Decides.{nat_tests}
use Rattle.std.proofs.lemmas.List.{reverse-append, length-reverse}
use Rattle.std.proofs.lemmas.List.Folds.{list_all-append}
use Rattle.std.proofs.lemmas.List.Elements.{All-head, All-weaker}
use Rattle.std.proofs.lemmas.List.Sums.{AllPass-from_list_all, list_all-from_AllPass}
use Rattle.httparse.specs.Grammar.{AllPass, is_token_byte, is_ows, is_uri_byte, is_value_byte}
use Rattle.httparse.proofs.TrimLemmas.{AllPass-reverse}
use Rattle.hc_fields.specs.declared.fields.Field.{Field}
use Rattle.hc_head.specs.Plain.{is_plain_name, starts_visible, is_plain_value, is_plain_field}
use Rattle.hc_head.proofs.WrittenLemmas.{digit_passes, digits_plain}

-- ---- visible octets

uri_text : (b : ℕ) → is_uri_byte b ≡ true → is_value_byte b ≡ true
uri_text b uri = grind (arith, nat_tests)

uri_visible : (b : ℕ) → is_uri_byte b ≡ true → is_ows b ≡ false
uri_visible b uri = grind (arith, nat_tests)

starts_with_uri : (text : List ℕ) → AllPass is_uri_byte text → starts_visible text ≡ true
starts_with_uri [] all = refl
starts_with_uri (b ∷ text) all = not_from_false _ (uri_visible b (All-head (λ v. is_uri_byte v ≡ true) b text all))

pub visible_plain : (value : List ℕ) → list_all is_uri_byte value ≡ true → is_plain_value value ≡ true
visible_plain value visible =
    let all = AllPass-from_list_all is_uri_byte value visible in
    let text = All-weaker (λ b. is_uri_byte b ≡ true) (λ b. is_value_byte b ≡ true) uri_text value all in
    and_from _ _ (starts_with_uri value all)
    (and_from _ _ (starts_with_uri (reverse value) (AllPass-reverse is_uri_byte value all)) (list_all-from_AllPass is_value_byte value text))

-- ---- values made of others

-- the parts of a plain value
record PlainParts (value : List ℕ) : Type 0 where
  first : starts_visible value ≡ true
  last : starts_visible (reverse value) ≡ true
  text : list_all is_value_byte value ≡ true

plain_parts : (value : List ℕ) → is_plain_value value ≡ true → PlainParts value
plain_parts value plain =
    let front = and_parts (starts_visible value) _ plain in
    let back = and_parts (starts_visible (reverse value)) _ front.1 in
    record { first = front.0; last = back.0; text = back.1 }

plain_from : (value : List ℕ) → PlainParts value → is_plain_value value ≡ true
plain_from value parts = and_from _ _ parts.first (and_from _ _ parts.last parts.text)

starts_joined : (front back : List ℕ) → starts_visible front ≡ true → starts_visible back ≡ true → starts_visible (front ++ back) ≡ true
starts_joined [] back first second = second
starts_joined (b ∷ front) back first second = first

starts_some : (front back : List ℕ) → 0 < length front → starts_visible front ≡ true → starts_visible (front ++ back) ≡ true
starts_some [] back some first = absurd (omega arith)
starts_some (b ∷ front) back some first = first

pub joined_plain : (front back : List ℕ) → is_plain_value front ≡ true → is_plain_value back ≡ true → is_plain_value (front ++ back) ≡ true
joined_plain front back one other =
    let f = plain_parts front one in
    let b = plain_parts back other in
    plain_from (front ++ back) (record {
      first = starts_joined front back f.first b.first;
      last = subst (λ (l : List ℕ). starts_visible l ≡ true) (sym (reverse-append front back)) (starts_joined (reverse back) (reverse front) b.last f.last);
      text = list_all-append is_value_byte front back ∙ and_from _ _ f.text b.text;
    })

pub apart_plain : (front between back : List ℕ) → 0 < length front → 0 < length back → is_plain_value front ≡ true → list_all is_value_byte between ≡ true
    → is_plain_value back ≡ true → is_plain_value (front ++ between ++ back) ≡ true
apart_plain front between back some_front some_back one middle other =
    let f = plain_parts front one in
    let b = plain_parts back other in
    plain_from (front ++ between ++ back) (record {
      first = subst (λ (l : List ℕ). starts_visible l ≡ true) (sym (append_assoc front between back)) (starts_some front (between ++ back) some_front f.first);
      last = subst (λ (l : List ℕ). starts_visible l ≡ true) (sym (reverse-append (front ++ between) back)) (starts_some (reverse back) (reverse (front ++ between)) (omega (arith, length-reverse back, some_back)) b.last);
      text = list_all-append is_value_byte (front ++ between) back
          ∙ and_from _ _ (list_all-append is_value_byte front between ∙ and_from _ _ f.text middle) b.text;
    })

pub spaced_plain : (front back : List ℕ) → 0 < length front → 0 < length back → is_plain_value front ≡ true → is_plain_value back ≡ true
    → is_plain_value (front ++ codes " " ++ back) ≡ true
spaced_plain front back some_front some_back one other = apart_plain front (codes " ") back some_front some_back one refl other

-- ---- numbers

digit_glyph_passes : (n : ℕ) → is_ascii_digit (digit_glyph false (n % 10)) ≡ true
digit_glyph_passes n =
    let small : n % 10 < 10 = omega arith in
    ap is_ascii_digit (cond-true _ (48 + n % 10) (87 + n % 10) (lt-ltb (n % 10) 10 small)) ∙ digit_passes (n % 10) small

digits_onto_pass : (k n : ℕ) (acc : List ℕ) → list_all is_ascii_digit acc ≡ true → list_all is_ascii_digit (digits_onto k 10 false n acc) ≡ true
digits_onto_pass zero n acc all = all
digits_onto_pass (suc k) n acc all =
    let more : list_all is_ascii_digit (digit_glyph false (n % 10) ∷ acc) ≡ true = and_from _ _ (digit_glyph_passes n) all in
    by_test more (digits_onto_pass k (n / 10) (digit_glyph false (n % 10) ∷ acc) more) (n / 10 == 0)
  where
    by_test : list_all is_ascii_digit (digit_glyph false (n % 10) ∷ acc) ≡ true
        → list_all is_ascii_digit (digits_onto k 10 false (n / 10) (digit_glyph false (n % 10) ∷ acc)) ≡ true
        → (t : Bool) → list_all is_ascii_digit (cond t (digit_glyph false (n % 10) ∷ acc) (digits_onto k 10 false (n / 10) (digit_glyph false (n % 10) ∷ acc))) ≡ true
    by_test here later true = here
    by_test here later false = later

pub number_plain : (n : ℕ) → is_plain_value (decimal n) ≡ true
unfolding digits
number_plain n = digits_plain (decimal n) (AllPass-from_list_all is_ascii_digit (decimal n) (digits_onto_pass 64 n [] refl))

-- ---- names

pub age_plain : is_plain_name (codes "age") ≡ true
unfolding is_token_byte
age_plain = refl

pub cache_status_plain : is_plain_name (codes "cache-status") ≡ true
unfolding is_token_byte
cache_status_plain = refl

pub connection_plain : is_plain_name (codes "connection") ≡ true
unfolding is_token_byte
connection_plain = refl

pub date_plain : is_plain_name (codes "date") ≡ true
unfolding is_token_byte
date_plain = refl

pub host_plain : is_plain_name (codes "host") ≡ true
unfolding is_token_byte
host_plain = refl

pub if_modified_since_plain : is_plain_name (codes "if-modified-since") ≡ true
unfolding is_token_byte
if_modified_since_plain = refl

pub if_none_match_plain : is_plain_name (codes "if-none-match") ≡ true
unfolding is_token_byte
if_none_match_plain = refl

pub via_plain : is_plain_name (codes "via") ≡ true
unfolding is_token_byte
via_plain = refl

-- ---- fields

pub all_fewer : {X : Type 0} (p test : X → Bool) (xs : List X) → list_all p xs ≡ true → list_all p (filter test xs) ≡ true
all_fewer p test [] all = refl
all_fewer p test (x ∷ xs) all =
    let parts = and_parts (p x) _ all in
    by_test parts.0 (all_fewer p test xs parts.1) (test x)
  where
    by_test : p x ≡ true → list_all p (filter test xs) ≡ true → (t : Bool) → list_all p (cond t (x ∷ filter test xs) (filter test xs)) ≡ true
    by_test here later true = and_from _ _ here later
    by_test here later false = later

pub plain_fewer : (test : Field → Bool) (fields : List Field) → list_all is_plain_field fields ≡ true → list_all is_plain_field (filter test fields) ≡ true
plain_fewer test fields plain = all_fewer is_plain_field test fields plain

pub plain_both : (front back : List Field) → list_all is_plain_field front ≡ true → list_all is_plain_field back ≡ true
    → list_all is_plain_field (front ++ back) ≡ true
plain_both front back one other = list_all-append is_plain_field front back ∙ and_from _ _ one other
