-- What is read as parameters is spelled as those, and parameters are read.
use Rattle.std.proofs.Common.{◌≡◌, ℕ, zero, suc, ◌≤◌, true, false, ◌==◌, List, [], ◌∷◌, ◌++◌, length, fold, Option, Some, inl, inr, refl, sym, ap, subst, ◌∙◌, arith, append_assoc, length-append}
use Rattle.std.specs.List.{take_while}
use Rattle.std.proofs.lemmas.Bool.{cond-true, cond-false, eqb-true}
use Rattle.std.proofs.lemmas.Bool.Decides.{nat_tests}
use Rattle.std.proofs.lemmas.Option.{cond_some, same_Some}
use Rattle.hc_status.specs.declared.items.Bare.{Bare}
use Rattle.hc_status.specs.declared.items.Bare.TheVariants.{Bool as Boolean}
use Rattle.hc_status.specs.declared.items.Parameter.{Parameter}
use Rattle.hc_status.specs.Classes.{is_space, is_key_start, is_key_octet}
use Rattle.hc_status.specs.Grammar.{IsKey, IsValue, IsParameter, AreParameters, with_parameter}
use Rattle.hc_status.specs.Reading.{◌>>=◌, behind, key_at, value_at, parameter_at, parameters_from}
use Rattle.hc_status.proofs.RunLemmas.{Stops, Ends, split_cond, pass_more, run_is, behind_run, run_spelled, run_passes, run_first, stops_at_end, is_item_end, is_member_end, apart_from_item_end, apart_from_member_end, item_ends}
use Rattle.hc_status.proofs.BareLemmas.{then_found, bare_sound, bare_is_read}

-- ---- keys and values

key_start_is_octet : (b : ℕ) → is_key_start b ≡ true → is_key_octet b ≡ true
key_start_is_octet b start = grind (arith, nat_tests)

key_sound : (text : List ℕ) (read : List ℕ × List ℕ) → key_at text ≡ Some read → (text ≡ read.0 ++ read.1) × IsKey read.0
key_sound [] read found = absurd (cc)
key_sound (b ∷ text) read found =
    let chosen = cond_some (is_key_start b) (take_while is_key_octet (b ∷ text), behind is_key_octet (b ∷ text)) read found in
    let first = run_first is_key_octet b text (key_start_is_octet b chosen.0) in
    subst (λ (r : List ℕ × List ℕ). (b ∷ text ≡ r.0 ++ r.1) × IsKey r.0) chosen.1
    (run_spelled is_key_octet (b ∷ text), subst IsKey (sym first) (chosen.0, run_passes is_key_octet text))

key_is_read : (key rest : List ℕ) → IsKey key → Stops is_key_octet rest → key_at (key ++ rest) ≡ Some (key, rest)
key_is_read [] rest is stops = absurd is
key_is_read (b ∷ key) rest is stops =
    let pass = pass_more is_key_octet b key (key_start_is_octet b is.0) is.1 in
    let run = run_is is_key_octet (b ∷ key) rest pass stops in
    let more = behind_run is_key_octet (b ∷ key) rest pass stops in
    cond-true (is_key_start b) _ _ is.0 ∙ (λ i. Some (run i, more i))

-- the text is that value as it stands behind a key, and then what stands behind it
record SpellsValue (text : List ℕ) (read : Bare × List ℕ) : Type 0 where
  value_text : List ℕ
  is_value : IsValue read.0 value_text
  spelled : text ≡ value_text ++ read.1

value_sound : (text : List ℕ) (read : Bare × List ℕ) → value_at text ≡ Some read → SpellsValue text read
value_sound [] read found =
    subst (λ (r : Bare × List ℕ). SpellsValue [] r) (same_Some _ _ found) (record { value_text = []; is_value = inl (refl, refl); spelled = refl })
value_sound (b ∷ text) read found =
    elim (split_cond (b == 61) _ _ _ found) [
      | inl equals ↦
          let item = bare_sound text read equals.1 in
          record {
            value_text = 61 ∷ item.item;
            is_value = inr (item.item, refl, item.is_bare);
            spelled = (λ i. eqb-true b 61 equals.0 i ∷ item.spelled i);
          }
      | inr alone ↦
          subst (λ (r : Bare × List ℕ). SpellsValue (b ∷ text) r) (same_Some _ _ alone.1)
          (record { value_text = []; is_value = inl (refl, refl); spelled = refl })
    ]

no_equals : (b : ℕ) → is_item_end b ≡ true → (b == 61) ≡ false
no_equals b end = apart_from_item_end (λ c. c == 61) refl refl refl refl b end

value_alone : (rest : List ℕ) → Ends is_item_end rest → value_at rest ≡ Some (Boolean true, rest)
value_alone [] ends = refl
value_alone (b ∷ rest) ends = cond-false (b == 61) _ _ (no_equals b ends)

value_is_read : (value : Bare) (text rest : List ℕ) → IsValue value text → Ends is_item_end rest → value_at (text ++ rest) ≡ Some (value, rest)
value_is_read value text rest (inl alone) ends =
    ap (λ (l : List ℕ). value_at (l ++ rest)) alone.1 ∙ (value_alone rest ends ∙ ap (λ (v : Bare). Some (v, rest)) (sym alone.0))
value_is_read value text rest (inr given) ends =
    ap (λ (l : List ℕ). value_at (l ++ rest)) given.1 ∙ bare_is_read value given.0 rest given.2 ends

-- ---- one parameter

-- the text behind a semicolon is that parameter, and then what stands behind it
pub record SpellsParameter (text : List ℕ) (read : Parameter × List ℕ) : Type 0 where
  pub one : List ℕ
  pub is_parameter : IsParameter read.0 one
  pub spelled : 59 ∷ text ≡ one ++ read.1

parameter_spelled : (text : List ℕ) (key : List ℕ × List ℕ) (value : Bare × List ℕ) → key_at (behind is_space text) ≡ Some key → value_at key.1 ≡ Some value
    → SpellsParameter text (record { key = key.0; value = value.0 }, value.1)
parameter_spelled text key value key-found value-found =
    let spells-key = key_sound (behind is_space text) key key-found in
    let spells-value = value_sound key.1 value value-found in
    let spaces = take_while is_space text in
    let v = spells-value.value_text in
    let tail : behind is_space text ≡ (key.0 ++ v) ++ value.1 =
    spells-key.0 ∙ (ap (λ (l : List ℕ). key.0 ++ l) spells-value.spelled ∙ sym (append_assoc key.0 v value.1)) in
    record {
      one = 59 ∷ (spaces ++ (key.0 ++ v));
      is_parameter = record {
        spaces = spaces;
        value_text = v;
        are_spaces = run_passes is_space text;
        is_key = spells-key.1;
        is_value = spells-value.is_value;
        spelled = refl;
      };
      spelled =
          ap (λ (l : List ℕ). 59 ∷ l)
          (run_spelled is_space text ∙ (ap (λ (l : List ℕ). spaces ++ l) tail ∙ sym (append_assoc spaces (key.0 ++ v) value.1)));
    }

pub parameter_sound : (text : List ℕ) (read : Parameter × List ℕ) → parameter_at text ≡ Some read → SpellsParameter text read
unfolding parameter_at
parameter_sound text read found =
    let key = then_found (key_at (behind is_space text)) _ read found in
    let value = then_found (value_at key.0.1) _ read key.2 in
    subst (λ (r : Parameter × List ℕ). SpellsParameter text r) (same_Some _ _ value.2) (parameter_spelled text key.0 value.0 key.1 value.1)

key_is_no_space : (key rest : List ℕ) → IsKey key → Stops is_space (key ++ rest)
key_is_no_space [] rest is = absurd is
key_is_no_space (b ∷ key) rest is =
    let start = is.0 in
    grind (arith, nat_tests)

-- what stands behind a key is no octet of it
behind_key : (value : Bare) (text rest : List ℕ) → IsValue value text → Ends is_item_end rest → Stops is_key_octet (text ++ rest)
behind_key value text rest (inl alone) ends =
    subst (λ (l : List ℕ). Stops is_key_octet (l ++ rest)) (sym alone.1)
    (stops_at_end is_key_octet is_item_end (apart_from_item_end is_key_octet refl refl refl refl) rest ends)
behind_key value text rest (inr given) ends = subst (λ (l : List ℕ). Stops is_key_octet (l ++ rest)) (sym given.1) refl

-- the text of a parameter behind its semicolon
abbrev pub parameter_text : (p : Parameter) (one : List ℕ) → IsParameter p one → List ℕ
parameter_text p one is = is.spaces ++ (p.key ++ is.value_text)

pub parameter_is_read : (p : Parameter) (one rest : List ℕ) (is : IsParameter p one) → Ends is_item_end rest
    → parameter_at (parameter_text p one is ++ rest) ≡ Some (p, rest)
unfolding parameter_at
parameter_is_read p one rest is ends =
    let v = is.value_text in
    let whole : parameter_text p one is ++ rest ≡ is.spaces ++ (p.key ++ (v ++ rest)) =
    append_assoc is.spaces (p.key ++ v) rest ∙ ap (λ (l : List ℕ). is.spaces ++ l) (append_assoc p.key v rest) in
    let spaces = ap (behind is_space) whole ∙ behind_run is_space is.spaces (p.key ++ (v ++ rest)) is.are_spaces (key_is_no_space p.key (v ++ rest) is.is_key) in
    let key = ap key_at spaces ∙ key_is_read p.key (v ++ rest) is.is_key (behind_key p.value v rest is.is_value ends) in
    let value = value_is_read p.value v rest is.is_value ends in
    ap (λ (o : Option (List ℕ × List ℕ)). o >>= λ k. value_at k.1 >>= λ w. Some (record { key = k.0; value = w.0 }, w.1)) key
    ∙ ap (λ (o : Option (Bare × List ℕ)). o >>= λ w. Some (record { key = p.key; value = w.0 }, w.1)) value

-- ---- parameters one behind another

-- the text is parameters that add up to those, and then what stands behind them
pub record SpellsParameters (params : List Parameter) (text : List ℕ) (read : List Parameter × List ℕ) : Type 0 where
  pub written : List Parameter
  pub params_text : List ℕ
  pub are_parameters : AreParameters written params_text
  pub params_are : read.0 ≡ fold with_parameter params written
  pub spelled : text ≡ params_text ++ read.1

no_more : (params : List Parameter) (text : List ℕ) (read : List Parameter × List ℕ) → (params, text) ≡ read → SpellsParameters params text read
no_more params text read same =
    subst (λ (r : List Parameter × List ℕ). SpellsParameters params text r) same
    (record { written = []; params_text = []; are_parameters = refl; params_are = refl; spelled = refl })

pub parameters_sound : (n : ℕ) (params : List Parameter) (text : List ℕ) (read : List Parameter × List ℕ) → parameters_from n params text ≡ Some read
    → SpellsParameters params text read
unfolding parameters_from
parameters_sound zero params text read found = no_more params text read (same_Some _ _ found)
parameters_sound (suc n) params [] read found = no_more params [] read (same_Some _ _ found)
parameters_sound (suc n) params (b ∷ text) read found =
    elim (split_cond (b == 59) _ _ _ found) [
      | inl semicolon ↦
          let one = then_found (parameter_at text) _ read semicolon.1 in
          let spells = parameter_sound text one.0 one.1 in
          let later = parameters_sound n (with_parameter params one.0.0) one.0.1 read one.2 in
          record {
            written = one.0.0 ∷ later.written;
            params_text = spells.one ++ later.params_text;
            are_parameters = (spells.one, later.params_text, refl, spells.is_parameter, later.are_parameters);
            params_are = later.params_are;
            spelled =
                ap (λ (c : ℕ). c ∷ text) (eqb-true b 59 semicolon.0)
                ∙ (spells.spelled ∙ (ap (λ (l : List ℕ). spells.one ++ l) later.spelled ∙ sym (append_assoc spells.one later.params_text read.1)));
          }
      | inr other ↦ no_more params (b ∷ text) read (same_Some _ _ other.1)
    ]

-- behind a parameter stand more of them, or what ends the member
pub behind_parameter : (written : List Parameter) (text rest : List ℕ) → AreParameters written text → Ends is_member_end rest → Ends is_item_end (text ++ rest)
behind_parameter [] text rest are ends = subst (λ (l : List ℕ). Ends is_item_end (l ++ rest)) (sym are) (item_ends rest ends)
behind_parameter (p ∷ written) text rest are ends =
    let one = are.3 in
    subst (λ (l : List ℕ). Ends is_item_end (l ++ rest)) (sym (are.2 ∙ ap (λ (l : List ℕ). l ++ are.1) one.spelled)) refl

none_read : (n : ℕ) (params : List Parameter) (rest : List ℕ) → Ends is_member_end rest → parameters_from n params rest ≡ Some (params, rest)
unfolding parameters_from
none_read zero params rest ends = refl
none_read (suc n) params [] ends = refl
none_read (suc n) params (b ∷ rest) ends = cond-false (b == 59) _ _ (apart_from_member_end (λ c. c == 59) refl refl refl b ends)

one_read : (n : ℕ) (params : List Parameter) (text : List ℕ) (p : Parameter) (rest : List ℕ) → parameter_at text ≡ Some (p, rest)
    → parameters_from (suc n) params (59 ∷ text) ≡ parameters_from n (with_parameter params p) rest
unfolding parameters_from
one_read n params text p rest found = ap (λ (o : Option (Parameter × List ℕ)). o >>= λ q. parameters_from n (with_parameter params q.0) q.1) found

pub parameters_are_read : (n : ℕ) (params written : List Parameter) (text rest : List ℕ) → AreParameters written text → Ends is_member_end rest → length text ≤ n
    → parameters_from n params (text ++ rest) ≡ Some (fold with_parameter params written, rest)
parameters_are_read n params [] text rest are ends room = ap (λ (l : List ℕ). parameters_from n params (l ++ rest)) are ∙ none_read n params rest ends
parameters_are_read zero params (p ∷ written) text rest are ends room =
    absurd (omega (arith, room, ap length are.2, ap length are.3.spelled, length-append are.0 are.1))
parameters_are_read (suc n) params (p ∷ written) text rest are ends room =
    let one = are.3 in
    let more = are.1 in
    let behind-one = parameter_text p are.0 one in
    let whole : text ++ rest ≡ 59 ∷ (behind-one ++ (more ++ rest)) =
    ap (λ (l : List ℕ). l ++ rest) (are.2 ∙ ap (λ (l : List ℕ). l ++ more) one.spelled)
    ∙ ap (λ (l : List ℕ). 59 ∷ l) (append_assoc behind-one more rest) in
    let first = parameter_is_read p are.0 (more ++ rest) one (behind_parameter written more rest are.4 ends) in
    let shorter : length more ≤ n = omega (arith, room, ap length are.2, ap length one.spelled, length-append are.0 more) in
    ap (parameters_from (suc n) params) whole
    ∙ (one_read n params (behind-one ++ (more ++ rest)) p (more ++ rest) first
    ∙ parameters_are_read n (with_parameter params p) written more rest are.4 ends shorter)
