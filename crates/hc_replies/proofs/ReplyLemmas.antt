-- What is read of replies: their marks, their values and their age.
use Rattle.std.proofs.Common.{◌≡◌, ℕ, ◌≤◌, ◌<◌, ◌^◌, Bool, true, false, cond, not, ◌||◌, List, [], ◌∷◌, ◌++◌, Option, Some, None, Ok, Err, inl, inr, refl, sym, ap, ◌∙◌, arith, rules, append-nil}
use Rattle.std.specs.Prelude.{◌⊎◌, codes, decimal, min, Result, option_and_then}
use Rattle.std.specs.Char.{is_ascii_digit}
use Rattle.std.specs.List.{list_all, list_any}
use Rattle.std.specs.Str.{bytes_eq}
use Rattle.std.specs.Str.Parse.{digits_value}
use Rattle.std.proofs.lemmas.Bool.{and_from, and_parts, cond-false, lt-ltb, not-true}
use Rattle.std.proofs.lemmas.Fmt.{decimal_nonempty, digits_decimal, digits_value-decimal}
use Rattle.std.proofs.lemmas.Slice.Eq.{bytes_eq-Decides}
use Rattle.std.proofs.lemmas.Str.Parse.{IsNumeralModel, numerals_by_value}
use Rattle.hc_fields.specs.declared.fields.Field.{Field}
use Rattle.hc_fields.specs.Values.{values_of, has_name, joined_values, only, only_value, without}
use Rattle.hc_fields.specs.Numbers.{is_number, largest_number, number_of}
use Rattle.hc_fields.proofs.UpdateLemmas.{values_append, values_without, values_absent}
use Rattle.hc_head.specs.declared.head.ResponseHead.{ResponseHead}
use Rattle.hc_framing.specs.declared.message.Message.{Message}
use Rattle.hc_fresh.specs.declared.ages.Times.{Times}
use Rattle.hc_fresh.specs.Ages.{current_age}
use Rattle.hc_fresh.specs.DateLines.{date_stated, date_line, dated_by, dated}
use Rattle.hc_rules.specs.Conditions.{repeated_names}
use Rattle.hc_status.specs.declared.cache_status.Handling.{Handling}
use Rattle.hc_status.specs.declared.fault.SfFault.{SfFault}
use Rattle.hc_status.specs.declared.items.Member.{Member}
use Rattle.hc_status.specs.declared.marks.Mark.TheVariants.{Unmarked}
use Rattle.hc_status.specs.Marks.{cache_status, list_of_text, mark_of, mark_of_list}
use Rattle.hc_status.specs.Texts.{written_mark}
use Rattle.hc_status.proofs.BackLemmas.{alone_read_back, last_read_back}
use Rattle.hc_update.specs.declared.stored.Stored.{Stored}
use Rattle.hc_replies.specs.Lines.{passed_back, has_member, kept_statuses, repeated, age_line, own_line, closing, lines_behind}
use Rattle.hc_replies.specs.Replies.{forwarded_reply, stored_reply, not_modified_reply, generated_reply}
use Rattle.hc_replies.specs.Laws.{is_own_name, is_repeated, IsPlainStatus}
use Rattle.hc_fields.proofs.ValueLemmas.{values_kept, values_dropped, differs, either_fails, other_behind}

-- ---- marks

-- lines behind which the cache can put its own: none of Cache-Status, or a list with a member
pub CanPrecede : List Field → Type 0
CanPrecede fields =
    (values_of (codes "cache-status") fields ≡ []) ⊎ ((first : Member) × (more : List Member) × (cache_status fields ≡ Ok (first ∷ more)))

list_there : (read : Result (List Member) SfFault) (fields : List Field) → cache_status fields ≡ read
    → CanPrecede (cond (has_member read) fields (without (codes "cache-status") fields))
unfolding CanPrecede
list_there (Ok []) fields e = inl (values_without (codes "cache-status") fields)
list_there (Ok (first ∷ more)) fields e = inr (first, more, e)
list_there (Err fault) fields e = inl (values_without (codes "cache-status") fields)

kept_precede : (fields : List Field) → CanPrecede (kept_statuses fields)
kept_precede fields = list_there (cache_status fields) fields refl

-- no lines
none_precede : CanPrecede []
unfolding CanPrecede
none_precede = inl refl

-- the values of Cache-Status are those of such lines, and the member that the cache writes
pub marked : (front fields : List Field) (name : List ℕ) (handling : Handling) → IsPlainStatus name handling → CanPrecede front
    → values_of (codes "cache-status") fields ≡ values_of (codes "cache-status") front ++ (own_line name handling).value ∷ []
    → mark_of fields ≡ written_mark handling
unfolding CanPrecede
marked front fields name handling plain (inl none) values =
    alone_read_back fields (record { name = name; handling = handling }) plain
    (values ∙ ap (λ (vs : List (List ℕ)). vs ++ (own_line name handling).value ∷ []) none)
marked front fields name handling plain (inr list) values =
    let line = own_line name handling in
    let same : values_of (codes "cache-status") fields ≡ values_of (codes "cache-status") (front ++ line ∷ []) =
    values ∙ sym (values_append (codes "cache-status") front (line ∷ [])) in
    ap (λ (vs : List (List ℕ)). mark_of_list (list_of_text (joined_values vs))) same
    ∙ last_read_back front line list.0 list.1 (record { name = name; handling = handling }) plain list.2 refl refl

-- what the cache puts last has its member alone
behind_values : (name : List ℕ) (handling : Handling) (closes : Bool) → values_of (codes "cache-status") (lines_behind name handling closes) ≡ (own_line name handling).value ∷ []
behind_values name handling true = refl
behind_values name handling false = refl

-- a Date changes no value of another name
dated_by_values : (stated : Option ℕ) (name : List ℕ) (moment : ℕ) (fields : List Field) → bytes_eq (codes "date") name ≡ false
    → values_of name (dated_by stated moment fields) ≡ values_of name fields
dated_by_values (Some date) name moment fields other = refl
dated_by_values None name moment fields other =
    other_behind name (without (codes "date") fields) (date_line moment) other
    ∙ values_kept (λ n. not (bytes_eq n (codes "date"))) name fields (ap not (differs (codes "date") name other))

pub dated_values : (name : List ℕ) (moment : ℕ) (fields : List Field) → bytes_eq (codes "date") name ≡ false → values_of name (dated moment fields) ≡ values_of name fields
dated_values name moment fields other = dated_by_values (date_stated fields) name moment fields other

pub forwarded_marked : (name : List ℕ) (handling : Handling) (closes : Bool) (moment : ℕ) (response : Message ResponseHead) → IsPlainStatus name handling
    → mark_of (forwarded_reply name handling closes moment response).head.fields ≡ written_mark handling
forwarded_marked name handling closes moment response plain =
    let base = kept_statuses (passed_back response.head.fields) in
    marked base (dated moment base ++ lines_behind name handling closes) name handling plain (kept_precede (passed_back response.head.fields))
    (values_append (codes "cache-status") (dated moment base) (lines_behind name handling closes)
    ∙ (λ i. dated_values (codes "cache-status") moment base refl i ++ behind_values name handling closes i))

pub stored_marked : (name : List ℕ) (handling : Handling) (closes : Bool) (moment : ℕ) (to_head : Bool) (state : Stored) → IsPlainStatus name handling
    → mark_of (stored_reply name handling closes moment to_head state).head.fields ≡ written_mark handling
stored_marked name handling closes moment to_head state plain =
    let kept = kept_statuses state.fields in
    let fields = kept ++ age_line (current_age state.times moment) ∷ lines_behind name handling closes in
    marked kept fields name handling plain (kept_precede state.fields)
    (values_append (codes "cache-status") kept (age_line (current_age state.times moment) ∷ lines_behind name handling closes)
    ∙ ap (λ (vs : List (List ℕ)). values_of (codes "cache-status") kept ++ vs) (behind_values name handling closes))

pub not_modified_marked : (name : List ℕ) (handling : Handling) (closes : Bool) (moment : ℕ) (state : Stored) → IsPlainStatus name handling
    → mark_of (not_modified_reply name handling closes moment state).head.fields ≡ written_mark handling
not_modified_marked name handling closes moment state plain =
    let kept = repeated state.fields in
    let fields = kept ++ age_line (current_age state.times moment) ∷ lines_behind name handling closes in
    marked [] fields name handling plain none_precede
    (values_append (codes "cache-status") kept (age_line (current_age state.times moment) ∷ lines_behind name handling closes)
    ∙ (λ i. values_dropped is_repeated (codes "cache-status") state.fields refl i ++ behind_values name handling closes i))

pub generated_unmarked : (status moment : ℕ) (closes : Bool) → mark_of (generated_reply status moment closes).head.fields ≡ Unmarked
generated_unmarked status moment true = refl
generated_unmarked status moment false = refl

-- ---- values

closing_values : (name : List ℕ) (closes : Bool) → bytes_eq (codes "connection") name ≡ false → values_of name (closing closes) ≡ []
closing_values name true other = cond-false (bytes_eq (codes "connection") name) _ _ other
closing_values name false other = refl

-- the lines of the cache's own say nothing of another name
own_values : (name own : List ℕ) (handling : Handling) (age : ℕ) (closes : Bool) → is_own_name name ≡ false
    → values_of name (age_line age ∷ lines_behind own handling closes) ≡ []
own_values name own handling age closes other =
    let first = either_fails (bytes_eq (codes "age") name) _ other in
    let second = either_fails (bytes_eq (codes "cache-status") name) _ first.1 in
    let third = either_fails (bytes_eq (codes "connection") name) _ second.1 in
    cond-false (bytes_eq (codes "age") name) _ _ first.0
    ∙ (cond-false (bytes_eq (codes "cache-status") name) _ _ second.0 ∙ closing_values name closes third.0)

kept_values : (name : List ℕ) (fields : List Field) → bytes_eq (codes "cache-status") name ≡ false → values_of name (kept_statuses fields) ≡ values_of name fields
kept_values name fields other = go (has_member (cache_status fields))
  where
    go : (has : Bool) → values_of name (cond has fields (without (codes "cache-status") fields)) ≡ values_of name fields
    go true = refl
    go false = values_kept (λ n. not (bytes_eq n (codes "cache-status"))) name fields (ap not (differs (codes "cache-status") name other))

pub stored_values : (name own : List ℕ) (handling : Handling) (closes : Bool) (moment : ℕ) (to_head : Bool) (state : Stored) → is_own_name name ≡ false
    → values_of name (stored_reply own handling closes moment to_head state).head.fields ≡ values_of name state.fields
stored_values name own handling closes moment to_head state other =
    let first = either_fails (bytes_eq (codes "age") name) _ other in
    let second = either_fails (bytes_eq (codes "cache-status") name) _ first.1 in
    let age = current_age state.times moment in
    values_append name (kept_statuses state.fields) (age_line age ∷ lines_behind own handling closes)
    ∙ (λ i. kept_values name state.fields second.0 i ++ own_values name own handling age closes other i)
    ∙ append-nil (values_of name state.fields)

-- what a 304 has to repeat is none of the cache's own
none_own : (known : List (List ℕ)) (name : List ℕ) → list_all (λ n. not (is_own_name n)) known ≡ true → list_any (λ n. bytes_eq n name) known ≡ true
    → is_own_name name ≡ false
none_own [] name none there = absurd (cc)
none_own (n ∷ known) name none there = go (none_own known name parts.1) (bytes_eq n name) refl there
  where
    parts : (not (is_own_name n) ≡ true) × (list_all (λ k. not (is_own_name k)) known ≡ true)
    parts = and_parts (not (is_own_name n)) _ none

    go : (list_any (λ k. bytes_eq k name) known ≡ true → is_own_name name ≡ false) → (same : Bool) → bytes_eq n name ≡ same
        → (same || list_any (λ k. bytes_eq k name) known) ≡ true → is_own_name name ≡ false
    go later true s e = ap is_own_name (sym ((bytes_eq-Decides n name).0 s)) ∙ not-true (is_own_name n) parts.0
    go later false s e = later e

repeated_is_not_own : (name : List ℕ) → is_repeated name ≡ true → is_own_name name ≡ false
repeated_is_not_own name repeats = none_own repeated_names name refl repeats

pub repeated_values : (name own : List ℕ) (handling : Handling) (closes : Bool) (moment : ℕ) (state : Stored) → is_repeated name ≡ true
    → values_of name (not_modified_reply own handling closes moment state).head.fields ≡ values_of name state.fields
repeated_values name own handling closes moment state repeats =
    let age = current_age state.times moment in
    values_append name (repeated state.fields) (age_line age ∷ lines_behind own handling closes)
    ∙ (λ i. values_kept is_repeated name state.fields repeats i ++ own_values name own handling age closes (repeated_is_not_own name repeats) i)
    ∙ append-nil (values_of name state.fields)

pub no_other_values : (name own : List ℕ) (handling : Handling) (closes : Bool) (moment : ℕ) (state : Stored) → is_repeated name ≡ false → is_own_name name ≡ false
    → values_of name (not_modified_reply own handling closes moment state).head.fields ≡ []
no_other_values name own handling closes moment state apart other =
    let age = current_age state.times moment in
    values_append name (repeated state.fields) (age_line age ∷ lines_behind own handling closes)
    ∙ (λ i. values_dropped is_repeated name state.fields apart i ++ own_values name own handling age closes other i)

-- ---- ages

closing_age : (name : List ℕ) (handling : Handling) (closes : Bool) → values_of (codes "age") (lines_behind name handling closes) ≡ []
closing_age name handling true = refl
closing_age name handling false = refl

age_alone : (front : List Field) (age : ℕ) (name : List ℕ) (handling : Handling) (closes : Bool) → values_of (codes "age") front ≡ []
    → only_value (codes "age") (front ++ age_line age ∷ lines_behind name handling closes) ≡ Some (decimal age)
age_alone front age name handling closes none =
    ap only (values_append (codes "age") front (age_line age ∷ lines_behind name handling closes)
    ∙ (λ i. none i ++ decimal age ∷ closing_age name handling closes i))

pub stored_age : (name : List ℕ) (handling : Handling) (closes : Bool) (moment : ℕ) (to_head : Bool) (state : Stored) → has_name (codes "age") state.fields ≡ false
    → only_value (codes "age") (stored_reply name handling closes moment to_head state).head.fields ≡ Some (decimal (current_age state.times moment))
stored_age name handling closes moment to_head state none =
    age_alone (kept_statuses state.fields) (current_age state.times moment) name handling closes
    (kept_values (codes "age") state.fields refl ∙ values_absent (codes "age") state.fields none)

pub not_modified_age : (name : List ℕ) (handling : Handling) (closes : Bool) (moment : ℕ) (state : Stored)
    → only_value (codes "age") (not_modified_reply name handling closes moment state).head.fields ≡ Some (decimal (current_age state.times moment))
not_modified_age name handling closes moment state =
    age_alone (repeated state.fields) (current_age state.times moment) name handling closes (values_dropped is_repeated (codes "age") state.fields refl)

own : IsNumeralModel (λ ds. list_all is_ascii_digit ds ≡ true) (digits_value 10)
own = numerals_by_value _ (search rules)

pub number_read_back : (n : ℕ) → n ≤ largest_number → number_of (decimal n) ≡ Some n
number_read_back n limit =
    let small : n < 2 ^ 64 = omega (arith, limit) in
    let number : is_number (decimal n) ≡ true = and_from _ _ (lt-ltb _ _ (decimal_nonempty n small)) (digits_decimal own n small) in
    ap (λ (test : Bool). cond test (Some (min largest_number (digits_value 10 (decimal n)))) None) number
    ∙ ap (λ (m : ℕ). Some (min largest_number m)) (digits_value-decimal own n small)
    ∙ ap (λ (m : ℕ). Some m) (omega (arith, limit))

-- the age that a reply tells
pub told_age : (fields : List Field) (times : Times) (moment : ℕ) → only_value (codes "age") fields ≡ Some (decimal (current_age times moment))
    → option_and_then number_of (only_value (codes "age") fields) ≡ Some (current_age times moment)
told_age fields times moment told =
    ap (option_and_then number_of) told ∙ number_read_back (current_age times moment) (omega arith)

pub stored_age_told : (name : List ℕ) (handling : Handling) (closes : Bool) (moment : ℕ) (to_head : Bool) (state : Stored) → has_name (codes "age") state.fields ≡ false
    → option_and_then number_of (only_value (codes "age") (stored_reply name handling closes moment to_head state).head.fields)
    ≡ Some (current_age state.times moment)
stored_age_told name handling closes moment to_head state none =
    told_age (stored_reply name handling closes moment to_head state).head.fields state.times moment (stored_age name handling closes moment to_head state none)

pub not_modified_age_told : (name : List ℕ) (handling : Handling) (closes : Bool) (moment : ℕ) (state : Stored)
    → option_and_then number_of (only_value (codes "age") (not_modified_reply name handling closes moment state).head.fields)
    ≡ Some (current_age state.times moment)
not_modified_age_told name handling closes moment state =
    told_age (not_modified_reply name handling closes moment state).head.fields state.times moment (not_modified_age name handling closes moment state)
