-- A string is read octet by octet.
use Rattle.std.proofs.Common.{◌≡◌, ◌≢◌, ℕ, true, false, ◌==◌, List, [], ◌∷◌, ◌++◌, flat_map, Some, inl, inr, refl, sym, ap, ◌∙◌, arith, append_assoc}
use Rattle.std.specs.List.{AllPass}
use Rattle.std.proofs.lemmas.Bool.{cond-true, cond-false, ne_eqb, eqb-true}
use Rattle.std.proofs.lemmas.Bool.Decides.{nat_tests}
use Rattle.std.proofs.lemmas.List.{append-nil}
use Rattle.std.proofs.lemmas.List.Elements.{All-head, All-tail}
use Rattle.std.proofs.lemmas.Option.{cond_some, same_Some}
use Rattle.hc_status.specs.Classes.{is_escaped, is_printable}
use Rattle.hc_status.specs.Grammar.{character_text}
use Rattle.hc_status.specs.Reading.{string_from}
use Rattle.hc_status.proofs.RunLemmas.{true_or_false, split_cond, pass_none, pass_more}

-- an octet that stands for itself
pub string_from_plain : (value text : List ℕ) (b : ℕ) → b ≢ 34 → b ≢ 92 → is_printable b ≡ true
    → string_from value (b ∷ text) ≡ string_from (value ++ b ∷ []) text
unfolding string_from
string_from_plain value [] b quote slash printable = cond-false (b == 34) _ _ (ne_eqb b 34 quote)
string_from_plain value (c ∷ text) b quote slash printable =
    cond-false (b == 34) _ _ (ne_eqb b 34 quote) ∙ (cond-false (b == 92) _ _ (ne_eqb b 92 slash) ∙ cond-true (is_printable b) _ _ printable)

-- an octet behind a backslash
pub string_from_escaped : (value text : List ℕ) (c : ℕ) → is_escaped c ≡ true → string_from value (92 ∷ c ∷ text) ≡ string_from (value ++ c ∷ []) text
unfolding string_from
string_from_escaped value text c escaped = cond-true (is_escaped c) _ _ escaped

-- the quote that closes it
string_from_closed : (value rest : List ℕ) → string_from value (34 ∷ rest) ≡ Some (value, rest)
unfolding string_from
string_from_closed value [] = refl
string_from_closed value (b ∷ rest) = refl

-- ---- what is read as a string is spelled as that string

-- the text is the rest of that string behind what was read of it, its closing quote, and what stands behind that
pub record SpellsString (value text : List ℕ) (read : List ℕ × List ℕ) : Type 0 where
  pub more : List ℕ
  pub printable : AllPass is_printable more
  pub value_is : read.0 ≡ value ++ more
  pub spelled : text ≡ flat_map character_text more ++ 34 ∷ read.1

closed : (value text : List ℕ) (b : ℕ) (read : List ℕ × List ℕ) → (b == 34) ≡ true → (value, text) ≡ read → SpellsString value (b ∷ text) read
closed value text b read quote same = record {
  more = [];
  printable = pass_none is_printable;
  value_is = ap (λ (r : List ℕ × List ℕ). r.0) (sym same) ∙ sym (append-nil value);
  spelled = (λ i. eqb-true b 34 quote i ∷ (same i).1);
}

escaped_printable : (c : ℕ) → is_escaped c ≡ true → is_printable c ≡ true
escaped_printable c escaped = grind (arith, nat_tests)

not_escaped : (b : ℕ) → (b == 34) ≡ false → (b == 92) ≡ false → is_escaped b ≡ false
not_escaped b quote slash = grind (arith, nat_tests)

-- one octet more in front
one_more : (value text front : List ℕ) (c : ℕ) (read : List ℕ × List ℕ) → character_text c ≡ front → is_printable c ≡ true
    → SpellsString (value ++ c ∷ []) text read → SpellsString value (front ++ text) read
one_more value text front c read spelling printable later = record {
  more = c ∷ later.more;
  printable = pass_more is_printable c later.more printable later.printable;
  value_is = later.value_is ∙ append_assoc value (c ∷ []) later.more;
  spelled = (λ i. sym spelling i ++ later.spelled i) ∙ sym (append_assoc (character_text c) (flat_map character_text later.more) (34 ∷ read.1));
}

pub string_sound : (value text : List ℕ) (read : List ℕ × List ℕ) → string_from value text ≡ Some read → SpellsString value text read
unfolding string_from
string_sound value [] read found = absurd (cc)
string_sound value (b ∷ []) read found =
    let chosen = cond_some (b == 34) (value, []) read found in
    closed value [] b read chosen.0 chosen.1
string_sound value (b ∷ c ∷ text) read found =
    elim (split_cond (b == 34) _ _ _ found) [
      | inl quote ↦ closed value (c ∷ text) b read quote.0 (same_Some _ _ quote.1)
      | inr plain ↦ elim (split_cond (b == 92) _ _ _ plain.1) [
        | inl slash ↦ elim (split_cond (is_escaped c) _ _ _ slash.1) [
          | inl escaped ↦
              let spelling : character_text c ≡ b ∷ c ∷ [] =
              cond-true (is_escaped c) (92 ∷ c ∷ []) (c ∷ []) escaped.0 ∙ ap (λ (n : ℕ). n ∷ c ∷ []) (sym (eqb-true b 92 slash.0)) in
              one_more value text (b ∷ c ∷ []) c read spelling (escaped_printable c escaped.0) (string_sound (value ++ c ∷ []) text read escaped.1)
          | inr other ↦ absurd (let e = other.1 in cc)
        ]
        | inr other ↦ elim (split_cond (is_printable b) _ _ _ other.1) [
          | inl printable ↦
              let spelling : character_text b ≡ b ∷ [] = cond-false (is_escaped b) (92 ∷ b ∷ []) (b ∷ []) (not_escaped b plain.0 other.0) in
              one_more value (c ∷ text) (b ∷ []) b read spelling printable.0 (string_sound (value ++ b ∷ []) (c ∷ text) read printable.1)
          | inr none ↦ absurd (let e = none.1 in cc)
        ]
      ]
    ]

-- ---- and each string is read

pub string_is_read : (value more rest : List ℕ) → AllPass is_printable more
    → string_from value (flat_map character_text more ++ 34 ∷ rest) ≡ Some (value ++ more, rest)
string_is_read value [] rest printable = string_from_closed value rest ∙ ap (λ (l : List ℕ). Some (l, rest)) (sym (append-nil value))
string_is_read value (b ∷ more) rest printable =
    let text = flat_map character_text more ++ 34 ∷ rest in
    let first = All-head (λ c. is_printable c ≡ true) b more printable in
    let later = string_is_read (value ++ b ∷ []) more rest (All-tail (λ c. is_printable c ≡ true) b more printable) in
    let regroup = append_assoc (character_text b) (flat_map character_text more) (34 ∷ rest) in
    let whole = ap (λ (l : List ℕ). Some (l, rest)) (append_assoc value (b ∷ []) more) in
    let step : string_from value (character_text b ++ text) ≡ string_from (value ++ b ∷ []) text =
    elim (true_or_false (is_escaped b)) [
      | inl escaped ↦
          ap (λ (l : List ℕ). string_from value (l ++ text)) (cond-true (is_escaped b) (92 ∷ b ∷ []) (b ∷ []) escaped) ∙ string_from_escaped value text b escaped
      | inr plain ↦
          ap (λ (l : List ℕ). string_from value (l ++ text)) (cond-false (is_escaped b) (92 ∷ b ∷ []) (b ∷ []) plain)
          ∙ string_from_plain value text b (grind (arith, nat_tests)) (grind (arith, nat_tests)) first
    ] in
    ap (string_from value) regroup ∙ (step ∙ (later ∙ whole))
