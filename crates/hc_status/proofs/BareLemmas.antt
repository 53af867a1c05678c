-- What is read as a bare item is spelled as that item, and each bare item is read.
use Rattle.std.proofs.Common.{◌≡◌, ℕ, ℤ, Bool, true, false, ◌==◌, if◌then◌else◌, List, [], ◌∷◌, ◌++◌, flat_map, Option, Some, None, inl, inr, refl, sym, ap, subst, ◌∙◌, arith, append_assoc}
use Rattle.std.specs.List.{AllPass, take_while}
use Rattle.std.specs.Char.{is_ascii_digit}
use Rattle.std.proofs.lemmas.Bool.{cond-true, cond-false, eqb-true}
use Rattle.std.proofs.lemmas.Bool.Decides.{nat_tests}
use Rattle.std.proofs.lemmas.List.{append-nil}
use Rattle.std.proofs.lemmas.List.Elements.{All-head, All-append}
use Rattle.std.proofs.lemmas.Option.{cond_some, same_Some}
use Rattle.hc_status.specs.declared.items.Bare.{Bare}
use Rattle.hc_status.specs.declared.items.Bare.TheVariants.{Integer, Decimal, Str, Token, Bytes, Bool as Boolean}
use Rattle.hc_status.specs.Classes.{is_token_start, is_token_octet, is_number_start, is_number_octet, is_base64_octet, is_printable}
use Rattle.hc_status.specs.Grammar.{IsDigits, IsInteger, IsDecimal, IsToken, IsBare, minus, character_text}
use Rattle.hc_status.specs.Reading.{◌>>=◌, behind, number_of, string_from, closed_bytes, boolean_at, bare_at}
use Rattle.hc_status.proofs.RunLemmas.{Ends, Begins, split_cond, pass_none, pass_more, pass_weaker, run_is, behind_run, run_spelled, run_passes, run_first, stops_at_end, begins_append, is_item_end, apart_from_item_end}
use Rattle.hc_status.proofs.NumberLemmas.{number_of_sound, integer_is_read, decimal_is_read}
use Rattle.hc_status.proofs.StringLemmas.{SpellsString, string_sound, string_is_read}

-- what the first part found, where the whole was
pub then_found : {A B : Type 0} (found : Option A) (f : A → Option B) (y : B) → (found >>= f) ≡ Some y → (x : A) × (found ≡ Some x) × (f x ≡ Some y)
then_found (Some x) f y whole = (x, refl, whole)
then_found None f y whole = absurd (cc)

-- ---- what is read is spelled so

-- the text is that bare item, and then what stands behind it
pub record SpellsBare (text : List ℕ) (read : Bare × List ℕ) : Type 0 where
  pub item : List ℕ
  pub is_bare : IsBare read.0 item
  pub spelled : text ≡ item ++ read.1

string_spelled : (text : List ℕ) (read : List ℕ × List ℕ) → SpellsString [] text read → SpellsBare (34 ∷ text) (Str read.0, read.1)
string_spelled text read spells = record {
  item = 34 ∷ (flat_map character_text read.0 ++ 34 ∷ []);
  is_bare = (refl, subst (λ (l : List ℕ). AllPass is_printable l) (sym spells.value_is) spells.printable);
  spelled =
      ap (λ (l : List ℕ). 34 ∷ l)
      (spells.spelled
      ∙ (ap (λ (l : List ℕ). flat_map character_text l ++ 34 ∷ read.1) (sym spells.value_is)
      ∙ sym (append_assoc (flat_map character_text read.0) (34 ∷ []) read.1)));
}

bytes_spelled : (text inner rest : List ℕ) (read : Bare × List ℕ) → text ≡ inner ++ rest → AllPass is_base64_octet inner
    → closed_bytes inner rest ≡ Some read → SpellsBare (58 ∷ text) read
bytes_spelled text inner [] read cut pass found = absurd (cc)
bytes_spelled text inner (b ∷ rest) read cut pass found =
    let closed = cond_some (b == 58) (Bytes inner, rest) read found in
    subst (λ (r : Bare × List ℕ). SpellsBare (58 ∷ text) r) closed.1
    (record {
      item = 58 ∷ (inner ++ 58 ∷ []);
      is_bare = (refl, pass);
      spelled =
          ap (λ (l : List ℕ). 58 ∷ l)
          (cut ∙ (ap (λ (n : ℕ). inner ++ n ∷ rest) (eqb-true b 58 closed.0) ∙ sym (append_assoc inner (58 ∷ []) rest)));
    })

boolean_spelled : (text : List ℕ) (read : Bare × List ℕ) → boolean_at text ≡ Some read → SpellsBare (63 ∷ text) read
boolean_spelled [] read found = absurd (cc)
boolean_spelled (b ∷ text) read found =
    elim (split_cond (b == 48) _ _ _ found) [
      | inl zero ↦ subst (λ (r : Bare × List ℕ). SpellsBare (63 ∷ b ∷ text) r) (same_Some _ _ zero.1)
          (record { item = 63 ∷ 48 ∷ []; is_bare = refl; spelled = ap (λ (n : ℕ). 63 ∷ n ∷ text) (eqb-true b 48 zero.0) })
      | inr other ↦
          let one = cond_some (b == 49) (Boolean true, text) read other.1 in
          subst (λ (r : Bare × List ℕ). SpellsBare (63 ∷ b ∷ text) r) one.1
          (record { item = 63 ∷ 49 ∷ []; is_bare = refl; spelled = ap (λ (n : ℕ). 63 ∷ n ∷ text) (eqb-true b 49 one.0) })
    ]

token_start_is_octet : (b : ℕ) → is_token_start b ≡ true → is_token_octet b ≡ true
token_start_is_octet b start = grind (arith, nat_tests)

token_spelled : (b : ℕ) (text : List ℕ) → is_token_start b ≡ true
    → SpellsBare (b ∷ text) (Token (take_while is_token_octet (b ∷ text)), behind is_token_octet (b ∷ text))
token_spelled b text start =
    let token = take_while is_token_octet (b ∷ text) in
    let first = run_first is_token_octet b text (token_start_is_octet b start) in
    record {
      item = token;
      is_bare = (refl, subst IsToken (sym first) (start, run_passes is_token_octet text));
      spelled = run_spelled is_token_octet (b ∷ text);
    }

-- the first octet stands for itself
replaced : (b c : ℕ) (text : List ℕ) (read : Bare × List ℕ) → (b == c) ≡ true → SpellsBare (c ∷ text) read → SpellsBare (b ∷ text) read
replaced b c text read same spells = subst (λ (n : ℕ). SpellsBare (n ∷ text) read) (sym (eqb-true b c same)) spells

pub bare_sound : (text : List ℕ) (read : Bare × List ℕ) → bare_at text ≡ Some read → SpellsBare text read
unfolding bare_at
bare_sound [] read found = absurd (cc)
bare_sound (b ∷ text) read found =
    elim (split_cond (b == 34) _ _ _ found) [
      | inl string ↦
          let parts = then_found (string_from [] text) (λ r. Some (Str r.0, r.1)) read string.1 in
          replaced b 34 text read string.0
          (subst (λ (r : Bare × List ℕ). SpellsBare (34 ∷ text) r) (same_Some _ _ parts.2) (string_spelled text parts.0 (string_sound [] text parts.0 parts.1)))
      | inr more ↦ elim (split_cond (b == 58) _ _ _ more.1) [
        | inl bytes ↦
            replaced b 58 text read bytes.0
            (bytes_spelled text _ _ read (run_spelled is_base64_octet text) (run_passes is_base64_octet text) bytes.1)
        | inr more ↦ elim (split_cond (b == 63) _ _ _ more.1) [
          | inl boolean ↦ replaced b 63 text read boolean.0 (boolean_spelled text read boolean.1)
          | inr more ↦ elim (split_cond (is_token_start b) _ _ _ more.1) [
            | inl token ↦ subst (λ (r : Bare × List ℕ). SpellsBare (b ∷ text) r) (same_Some _ _ token.1) (token_spelled b text token.0)
            | inr more ↦ elim (split_cond (is_number_start b) _ _ _ more.1) [
              | inl number ↦
                  let digits = take_while is_number_octet (b ∷ text) in
                  let parts = then_found (number_of digits) (λ n. Some (n, behind is_number_octet (b ∷ text))) read number.1 in
                  subst (λ (r : Bare × List ℕ). SpellsBare (b ∷ text) r) (same_Some _ _ parts.2)
                  (record {
                    item = digits;
                    is_bare = number_of_sound digits parts.0 parts.1;
                    spelled = run_spelled is_number_octet (b ∷ text);
                  })
              | inr none ↦ absurd (let e = none.1 in cc)
            ]
          ]
        ]
      ]
    ]

-- ---- each bare item is read

bare_at_token : (text : List ℕ) → Begins is_token_start text → bare_at text ≡ Some (Token (take_while is_token_octet text), behind is_token_octet text)
unfolding bare_at
bare_at_token [] begins = absurd begins
bare_at_token (b ∷ text) begins =
    let quote : (b == 34) ≡ false = grind (arith, nat_tests) in
    let colon : (b == 58) ≡ false = grind (arith, nat_tests) in
    let question : (b == 63) ≡ false = grind (arith, nat_tests) in
    cond-false (b == 34) _ _ quote
    ∙ (cond-false (b == 58) _ _ colon ∙ (cond-false (b == 63) _ _ question ∙ cond-true (is_token_start b) _ _ begins))

bare_at_number : (text : List ℕ) → Begins is_number_start text
    → bare_at text ≡ (number_of (take_while is_number_octet text) >>= λ n. Some (n, behind is_number_octet text))
unfolding bare_at
bare_at_number [] begins = absurd begins
bare_at_number (b ∷ text) begins =
    let quote : (b == 34) ≡ false = grind (arith, nat_tests) in
    let colon : (b == 58) ≡ false = grind (arith, nat_tests) in
    let question : (b == 63) ≡ false = grind (arith, nat_tests) in
    let token : is_token_start b ≡ false = grind (arith, nat_tests) in
    cond-false (b == 34) _ _ quote
    ∙ (cond-false (b == 58) _ _ colon
    ∙ (cond-false (b == 63) _ _ question ∙ (cond-false (is_token_start b) _ _ token ∙ cond-true (is_number_start b) _ _ begins)))

bare_at_string : (text : List ℕ) → bare_at (34 ∷ text) ≡ (string_from [] text >>= λ read. Some (Str read.0, read.1))
unfolding bare_at
bare_at_string text = refl

bare_at_bytes : (text : List ℕ) → bare_at (58 ∷ text) ≡ closed_bytes (take_while is_base64_octet text) (behind is_base64_octet text)
unfolding bare_at
bare_at_bytes text = refl

bare_at_boolean : (text : List ℕ) → bare_at (63 ∷ text) ≡ boolean_at text
unfolding bare_at
bare_at_boolean text = refl

-- what a number is made of

digit_is_octet : (b : ℕ) → is_ascii_digit b ≡ true → is_number_octet b ≡ true
digit_is_octet b digit = grind (arith, nat_tests)

digits_are_octets : (most : ℕ) (digits : List ℕ) → IsDigits most digits → AllPass is_number_octet digits
digits_are_octets most digits is = pass_weaker is_ascii_digit is_number_octet digit_is_octet digits is.are_digits

minus_is_octets : (negative : Bool) → AllPass is_number_octet (minus negative)
minus_is_octets true = pass_more is_number_octet 45 [] refl (pass_none is_number_octet)
minus_is_octets false = pass_none is_number_octet

joined : (one other : List ℕ) → AllPass is_number_octet one → AllPass is_number_octet other → AllPass is_number_octet (one ++ other)
joined one other p q = All-append (λ b. is_number_octet b ≡ true) one other p q

number_begins : (most : ℕ) (negative : Bool) (digits rest : List ℕ) → IsDigits most digits → Begins is_number_start (minus negative ++ (digits ++ rest))
number_begins most true digits rest is = refl
number_begins most false [] rest is = absurd (omega (arith, is.some))
number_begins most false (d ∷ digits) rest is =
    let digit = All-head (λ b. is_ascii_digit b ≡ true) d digits is.are_digits in
    grind (arith, nat_tests)

-- the octets are a number, of which the first tells so
abbrev IsNumberText : List ℕ → Type 0
IsNumberText text = Begins is_number_start text × AllPass is_number_octet text

integer_text : (n : ℤ) (text : List ℕ) → IsInteger n text → IsNumberText text
integer_text n text is =
    let begins = number_begins 15 is.negative is.digits [] is.is_digits in
    let whole : minus is.negative ++ (is.digits ++ []) ≡ text = ap (λ (l : List ℕ). minus is.negative ++ l) (append-nil is.digits) ∙ sym is.spelled in (
      subst (λ (l : List ℕ). Begins is_number_start l) whole begins,
      subst (λ (l : List ℕ). AllPass is_number_octet l) (sym is.spelled)
          (joined (minus is.negative) is.digits (minus_is_octets is.negative) (digits_are_octets 15 is.digits is.is_digits)),
    )

decimal_text : (text : List ℕ) → IsDecimal text → IsNumberText text
decimal_text text is =
    let point = pass_more is_number_octet 46 is.fraction refl (digits_are_octets 3 is.fraction is.is_fraction) in (
      subst (λ (l : List ℕ). Begins is_number_start l) (sym is.spelled) (number_begins 12 is.negative is.whole (46 ∷ is.fraction) is.is_whole),
      subst (λ (l : List ℕ). AllPass is_number_octet l) (sym is.spelled)
          (joined (minus is.negative) (is.whole ++ 46 ∷ is.fraction) (minus_is_octets is.negative) (joined is.whole (46 ∷ is.fraction) (digits_are_octets 12 is.whole is.is_whole) point)),
    )

number_is_read : (v : Bare) (item rest : List ℕ) → number_of item ≡ Some v → IsNumberText item → Ends is_item_end rest → bare_at (item ++ rest) ≡ Some (v, rest)
number_is_read v item rest found text ends =
    let stops = stops_at_end is_number_octet is_item_end (apart_from_item_end is_number_octet refl refl refl refl) rest ends in
    let run = run_is is_number_octet item rest text.1 stops in
    let more = behind_run is_number_octet item rest text.1 stops in
    bare_at_number (item ++ rest) (begins_append is_number_start item rest text.0)
    ∙ ((λ i. number_of (run i) >>= λ n. Some (n, more i)) ∙ ap (λ (o : Option Bare). o >>= λ n. Some (n, rest)) found)

token_is_read : (token rest : List ℕ) → IsToken token → Ends is_item_end rest → bare_at (token ++ rest) ≡ Some (Token token, rest)
token_is_read [] rest is ends = absurd is
token_is_read (b ∷ token) rest is ends =
    let stops = stops_at_end is_token_octet is_item_end (apart_from_item_end is_token_octet refl refl refl refl) rest ends in
    let pass = pass_more is_token_octet b token (token_start_is_octet b is.0) is.1 in
    let run = run_is is_token_octet (b ∷ token) rest pass stops in
    let more = behind_run is_token_octet (b ∷ token) rest pass stops in
    bare_at_token (b ∷ token ++ rest) is.0 ∙ (λ i. Some (Token (run i), more i))

text_of_string : (value rest : List ℕ) → AllPass is_printable value
    → bare_at (34 ∷ (flat_map character_text value ++ 34 ∷ []) ++ rest) ≡ Some (Str value, rest)
text_of_string value rest printable =
    let whole = append_assoc (flat_map character_text value) (34 ∷ []) rest in
    let read = ap (string_from []) whole ∙ string_is_read [] value rest printable in
    bare_at_string ((flat_map character_text value ++ 34 ∷ []) ++ rest)
    ∙ ap (λ (o : Option (List ℕ × List ℕ)). o >>= λ r. Some (Str r.0, r.1)) read

text_of_bytes : (inner rest : List ℕ) → AllPass is_base64_octet inner → bare_at (58 ∷ (inner ++ 58 ∷ []) ++ rest) ≡ Some (Bytes inner, rest)
text_of_bytes inner rest pass =
    let whole = append_assoc inner (58 ∷ []) rest in
    let run = ap (take_while is_base64_octet) whole ∙ run_is is_base64_octet inner (58 ∷ rest) pass refl in
    let more = ap (behind is_base64_octet) whole ∙ behind_run is_base64_octet inner (58 ∷ rest) pass refl in
    bare_at_bytes ((inner ++ 58 ∷ []) ++ rest) ∙ (λ i. closed_bytes (run i) (more i))

text_of_boolean : (b : Bool) (rest : List ℕ) → bare_at (63 ∷ (if b then 49 else 48) ∷ rest) ≡ Some (Boolean b, rest)
text_of_boolean true rest = bare_at_boolean (49 ∷ rest)
text_of_boolean false rest = bare_at_boolean (48 ∷ rest)

pub bare_is_read : (v : Bare) (item rest : List ℕ) → IsBare v item → Ends is_item_end rest → bare_at (item ++ rest) ≡ Some (v, rest)
bare_is_read (Integer n) item rest is ends = number_is_read (Integer n) item rest (integer_is_read n item is) (integer_text n item is) ends
bare_is_read (Decimal text) item rest is ends =
    subst (λ (l : List ℕ). bare_at (l ++ rest) ≡ Some (Decimal text, rest)) (sym is.0)
    (number_is_read (Decimal text) text rest (decimal_is_read text is.1) (decimal_text text is.1) ends)
bare_is_read (Str value) item rest is ends = ap (λ (l : List ℕ). bare_at (l ++ rest)) is.0 ∙ text_of_string value rest is.1
bare_is_read (Token token) item rest is ends = ap (λ (l : List ℕ). bare_at (l ++ rest)) is.0 ∙ token_is_read token rest is.1 ends
bare_is_read (Bytes inner) item rest is ends = ap (λ (l : List ℕ). bare_at (l ++ rest)) is.0 ∙ text_of_bytes inner rest is.1
bare_is_read (Boolean b) item rest is ends = ap (λ (l : List ℕ). bare_at (l ++ rest)) is ∙ text_of_boolean b rest
