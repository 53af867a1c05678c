-- Decimals without a leading zero.
use Rattle.std.proofs.Common.{◌≡◌, ℕ, ◌^◌, ◌<◌, Bool, true, false, cond, ◌&&◌, List, [], ◌∷◌, length, get_or, take, Some, None, refl, sym, subst, ◌∙◌, arith}
use Rattle.std.specs.Prelude.{min, nat_lt}
use Rattle.std.specs.List.{list_all, list_any}
use Rattle.std.specs.Char.{is_ascii_digit}
use Rattle.std.specs.Str.Parse.{digits_value}
use Rattle.std.proofs.lemmas.Bool.Decides.{nat_tests}
use Rattle.hc_fields.specs.Numbers.{is_number, decimal_of}
use Rattle.hc_transcript.specs.Lines.{Writes, is_feed}
use Rattle.hc_transcript.specs.Numerals.{SplitsAtSpace}
use Rattle.hc_transcript.proofs.MarkLemmas.{is_space, first_mark_unique, split_at_octet}

-- two tests that both hold
both : (a b : Bool) → (a && b) ≡ true → (a ≡ true) × (b ≡ true)
both true b e = (refl, e)
both false b e = absurd cc

-- one or more digits, of which the number is the value, or 10 ^ 18 where that is less
pub record IsDecimal (text : List ℕ) (n : ℕ) : Type 0 where
  pub some : 0 < length text
  pub digits : list_all is_ascii_digit text ≡ true
  pub value : n ≡ min (10 ^ 18) (digits_value 10 text)

some_is : (m n : ℕ) → Some m ≡ Some n → n ≡ m
some_is m n e = cc

none_is_some : (n : ℕ) → None ≡ Some n → ⊥
none_is_some n e = cc

-- what is read as a number is such digits
pub decimal_read : (text : List ℕ) (n : ℕ) → decimal_of text ≡ Some n → IsDecimal text n
decimal_read text n e = go (is_number text) refl e
  where
    go : (b : Bool) → is_number text ≡ b → cond b (Some (min (10 ^ 18) (digits_value 10 text))) None ≡ Some n → IsDecimal text n
    go false test e = absurd (none_is_some n e)
    go true test e =
        let parts = both (nat_lt 0 (length text)) (list_all is_ascii_digit text) test in
        record { some = grind (arith, nat_tests); digits = parts.1; value = some_is _ n e }

-- what writes a number is digits
written_digits : (text : List ℕ) (n : ℕ) → Writes text n → list_all is_ascii_digit text ≡ true
written_digits text n w = (decimal_read text n w.number).digits

-- where no digit passes a test, no octet of a text of digits passes it
digits_lack : (p : ℕ → Bool) → ((c : ℕ) → is_ascii_digit c ≡ true → p c ≡ false) → (text : List ℕ) → list_all is_ascii_digit text ≡ true → list_any p text ≡ false
digits_lack p none [] e = refl
digits_lack p none (c ∷ cs) e =
    let parts = both (is_ascii_digit c) (list_all is_ascii_digit cs) e in
    rw (none c parts.0) (digits_lack p none cs parts.1)

digit_no_space : (c : ℕ) → is_ascii_digit c ≡ true → is_space c ≡ false
digit_no_space c digit = grind (arith, nat_tests)

digit_no_feed : (c : ℕ) → is_ascii_digit c ≡ true → is_feed c ≡ false
digit_no_feed c digit = grind (arith, nat_tests)

-- no space stands in a text that writes a number
pub written_lacks_space : (text : List ℕ) (n : ℕ) → Writes text n → list_any is_space text ≡ false
written_lacks_space text n w = digits_lack is_space digit_no_space text (written_digits text n w)

-- nor a line feed
pub written_lacks_feed : (text : List ℕ) (n : ℕ) → Writes text n → list_any is_feed text ≡ false
written_lacks_feed text n w = digits_lack is_feed digit_no_feed text (written_digits text n w)

-- a number and the space behind it are read in one way
pub SplitsAtSpace_unique : (text : List ℕ) (m n : ℕ) (rest tail : List ℕ) → SplitsAtSpace text m rest → SplitsAtSpace text n tail → (m ≡ n) × (rest ≡ tail)
SplitsAtSpace_unique text m n rest tail s t =
    let same = first_mark_unique is_space s.numeral t.numeral rest tail 32 32 refl refl (written_lacks_space s.numeral m s.writes) (written_lacks_space t.numeral n t.writes) (sym s.text_is ∙ t.text_is) in
    (cc, same.1)

-- where no number stands before the first space, the text is none with a space behind it
pub none_before_space : (text : List ℕ) (at : ℕ) → at < length text → get_or text at 0 ≡ 32 → list_any is_space (take at text) ≡ false → ((n : ℕ) → ¬ (Writes (take at text) n))
    → (n : ℕ) (rest : List ℕ) → ¬ (SplitsAtSpace text n rest)
none_before_space text at lt space before none n rest s =
    let same = first_mark_unique is_space s.numeral (take at text) rest _ 32 32 refl refl (written_lacks_space s.numeral n s.writes) before (sym s.text_is ∙ split_at_octet text at 32 lt space) in
    none n (subst (λ (d : List ℕ). Writes d n) same.0 s.writes)
