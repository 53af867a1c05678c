-- What is read as a member is spelled as that member, and each member is read.
use Rattle.std.proofs.Common.{◌≡◌, ℕ, Bool, true, false, not, ◌==◌, ◌||◌, List, [], ◌∷◌, ◌++◌, length, Option, Some, refl, sym, ap, subst, ◌∙◌, arith, append_assoc, length-append}
use Rattle.std.specs.Char.{is_ascii_digit}
use Rattle.std.proofs.lemmas.Bool.Decides.{nat_tests}
use Rattle.std.proofs.lemmas.List.{append-nil}
use Rattle.std.proofs.lemmas.List.Elements.{All-head}
use Rattle.std.proofs.lemmas.Option.{same_Some}
use Rattle.hc_status.specs.declared.items.Bare.{Bare}
use Rattle.hc_status.specs.declared.items.Bare.TheVariants.{Integer, Decimal, Str, Token, Bytes, Bool as Boolean}
use Rattle.hc_status.specs.declared.items.Parameter.{Parameter}
use Rattle.hc_status.specs.declared.items.Member.{Member}
use Rattle.hc_status.specs.Grammar.{IsDigits, IsToken, IsBare, IsMember, minus}
use Rattle.hc_status.specs.Reading.{◌>>=◌, bare_at, parameters_at, item_at}
use Rattle.hc_status.proofs.RunLemmas.{Ends, Begins, begins_append, is_member_end}
use Rattle.hc_status.proofs.BareLemmas.{then_found, bare_sound, bare_is_read}
use Rattle.hc_status.proofs.WrittenLemmas.{parameters_sound, parameters_are_read, behind_parameter}

-- the text is that member, and then what stands behind it
pub record SpellsMember (text : List ℕ) (read : Member × List ℕ) : Type 0 where
  pub one : List ℕ
  pub is_member : IsMember read.0 one
  pub spelled : text ≡ one ++ read.1

member_spelled : (text : List ℕ) (item : Bare × List ℕ) (params : List Parameter × List ℕ) → bare_at text ≡ Some item → parameters_at item.1 ≡ Some params
    → SpellsMember text (record { item = item.0; params = params.0 }, params.1)
member_spelled text item params item-found params-found =
    let spells-item = bare_sound text item item-found in
    let spells-params = parameters_sound (length item.1) [] item.1 params params-found in
    record {
      one = spells-item.item ++ spells-params.params_text;
      is_member = record {
        item_text = spells-item.item;
        params_text = spells-params.params_text;
        written = spells-params.written;
        is_item = spells-item.is_bare;
        are_parameters = spells-params.are_parameters;
        params_are = spells-params.params_are;
        spelled = refl;
      };
      spelled =
          spells-item.spelled
          ∙ (ap (λ (l : List ℕ). spells-item.item ++ l) spells-params.spelled ∙ sym (append_assoc spells-item.item spells-params.params_text params.1));
    }

pub member_sound : (text : List ℕ) (read : Member × List ℕ) → item_at text ≡ Some read → SpellsMember text read
unfolding item_at
member_sound text read found =
    let item = then_found (bare_at text) _ read found in
    let params = then_found (parameters_at item.0.1) _ read item.2 in
    subst (λ (r : Member × List ℕ). SpellsMember text r) (same_Some _ _ params.2) (member_spelled text item.0 params.0 item.1 params.1)

-- ---- each member is read

pub member_is_read : (m : Member) (text rest : List ℕ) → IsMember m text → Ends is_member_end rest → item_at (text ++ rest) ≡ Some (m, rest)
unfolding item_at
member_is_read m text rest is ends =
    let more = is.params_text ++ rest in
    let whole : text ++ rest ≡ is.item_text ++ more = ap (λ (l : List ℕ). l ++ rest) is.spelled ∙ append_assoc is.item_text is.params_text rest in
    let item = ap bare_at whole ∙ bare_is_read m.item is.item_text more is.is_item (behind_parameter is.written is.params_text rest is.are_parameters ends) in
    let params = parameters_are_read (length more) [] is.written is.params_text rest is.are_parameters ends (omega (arith, length-append is.params_text rest)) in
    ap (λ (o : Option (Bare × List ℕ)). o >>= λ i. parameters_at i.1 >>= λ p. Some (record { item = i.0; params = p.0 }, p.1)) item
    ∙ (ap (λ (o : Option (List Parameter × List ℕ)). o >>= λ p. Some (record { item = m.item; params = p.0 }, p.1)) params
    ∙ (λ i. Some (record { item = m.item; params = sym is.params_are i }, rest)))

-- ---- with what a member begins

-- neither white space nor what begins an inner list
abbrev pub is_member_start : ℕ → Bool
is_member_start b = not (b == 40 || (b == 32 || b == 9))

digits_begin : (most : ℕ) (negative : Bool) (digits rest : List ℕ) → IsDigits most digits → Begins is_member_start (minus negative ++ (digits ++ rest))
digits_begin most true digits rest is = refl
digits_begin most false [] rest is = absurd (omega (arith, is.some))
digits_begin most false (d ∷ digits) rest is =
    let digit = All-head (λ b. is_ascii_digit b ≡ true) d digits is.are_digits in
    grind (arith, nat_tests)

token_begins : (token : List ℕ) → IsToken token → Begins is_member_start token
token_begins [] is = absurd is
token_begins (b ∷ token) is =
    let start = is.0 in
    grind (arith, nat_tests)

begins_as : (one other : List ℕ) → one ≡ other → Begins is_member_start other → Begins is_member_start one
begins_as one other same begins = subst (λ (l : List ℕ). Begins is_member_start l) (sym same) begins

bare_begins : (v : Bare) (text : List ℕ) → IsBare v text → Begins is_member_start text
bare_begins (Integer n) text is =
    begins_as text (minus is.negative ++ (is.digits ++ [])) (is.spelled ∙ ap (λ (l : List ℕ). minus is.negative ++ l) (sym (append-nil is.digits)))
    (digits_begin 15 is.negative is.digits [] is.is_digits)
bare_begins (Decimal decimal) text is =
    begins_as text (minus is.1.negative ++ (is.1.whole ++ 46 ∷ is.1.fraction)) (is.0 ∙ is.1.spelled)
    (digits_begin 12 is.1.negative is.1.whole (46 ∷ is.1.fraction) is.1.is_whole)
bare_begins (Str value) text is = begins_as text _ is.0 refl
bare_begins (Token token) text is = begins_as text token is.0 (token_begins token is.1)
bare_begins (Bytes inner) text is = begins_as text _ is.0 refl
bare_begins (Boolean b) text is = begins_as text _ is refl

pub member_begins : (m : Member) (text rest : List ℕ) → IsMember m text → Begins is_member_start (text ++ rest)
member_begins m text rest is =
    begins_append is_member_start text rest
    (begins_as text _ is.spelled (begins_append is_member_start is.item_text is.params_text (bare_begins m.item is.item_text is.is_item)))
