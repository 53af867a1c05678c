-- What a stored response's fields say of its date, and that one without a validator is never identified.
use Rattle.std.proofs.Common.{◌≡◌, ℕ, ◌<◌, Bool, true, false, cond, ◌||◌, ◌&&◌, List, Option, Some, None, refl, ap, ◌∙◌}
use Rattle.std.specs.Prelude.{option_and_then, codes}
use Rattle.std.specs.Option.{is_some}
use Rattle.hc_fields.specs.declared.fields.Field.{Field}
use Rattle.hc_fields.specs.Numbers.{end_of_moments}
use Rattle.hc_fields.specs.Values.{has_name, only, only_value}
use Rattle.hc_fields.proofs.UpdateLemmas.{values_absent, values_updated}
use Rattle.hc_head.specs.declared.head.RequestHead.{RequestHead}
use Rattle.hc_head.specs.declared.head.ResponseHead.{ResponseHead}
use Rattle.hc_fresh.specs.Dates.{date_of}
use Rattle.hc_fresh.specs.DateLines.{date_stated}
use Rattle.hc_fresh.proofs.DateLineLemmas.{dated_states}
use Rattle.hc_rules.specs.Storing.{asks_for_storable}
use Rattle.hc_rules.specs.Selecting.{selects}
use Rattle.hc_rules.specs.Validators.{tag_of, last_modified_of, has_validator}
use Rattle.hc_update.specs.declared.stored.Stored.{Stored}
use Rattle.hc_update.specs.States.{kept_lines, stored_fields, times_of, freshened}
use Rattle.hc_update.specs.Identifying.{are_same, only_member_asked, validators_agree, may_freshen, identifies}

-- ---- dates

pub stored_states : (received : List Field) (request_time response_time : ℕ) → response_time < end_of_moments
    → date_stated (stored_fields received response_time) ≡ Some (times_of received request_time response_time).date
stored_states received request_time response_time small = dated_states (kept_lines received) response_time small

-- fields that state a date have a Date line
has_date : (fields : List Field) (date : ℕ) → date_stated fields ≡ Some date → has_name (codes "date") fields ≡ true
has_date fields date states = go (has_name (codes "date") fields) refl
  where
    go : (there : Bool) → has_name (codes "date") fields ≡ there → there ≡ true
    go true e = refl
    go false e = absurd (let none = ap (λ (vs : List (List ℕ)). option_and_then date_of (only vs)) (values_absent (codes "date") fields e) in cc)

pub freshened_states : (state : Stored) (received : List Field) (request_time response_time position : ℕ) → response_time < end_of_moments
    → date_stated (freshened state received request_time response_time position).fields
    ≡ Some (freshened state received request_time response_time position).times.date
freshened_states state received request_time response_time position small =
    let states = stored_states received request_time response_time small in
    ap (λ (vs : List (List ℕ)). option_and_then date_of (only vs))
    (values_updated (codes "date") state.fields (stored_fields received response_time) (has_date (stored_fields received response_time) _ states))
    ∙ states

-- ---- validators

same_none : (one : Option (List ℕ)) → are_same one None ≡ false
same_none None = refl
same_none (Some one) = refl

no_tag : (tag date : Option (List ℕ)) → (is_some tag || is_some date) ≡ false → tag ≡ None
no_tag None date e = refl
no_tag (Some tag) date e = absurd (cc)

no_date : (tag date : Option (List ℕ)) → (is_some tag || is_some date) ≡ false → date ≡ None
no_date tag None e = refl
no_date None (Some date) e = absurd (cc)
no_date (Some tag) (Some date) e = absurd (cc)

-- of three choices each of which is false, none is true
none_of : (a b c : Bool) (v w x y : Bool) → v ≡ false → w ≡ false → x ≡ false → y ≡ false → cond a v (cond b w (cond c x y)) ≡ false
none_of true b c v w x y p q r s = p
none_of false true c v w x y p q r s = q
none_of false false true v w x y p q r s = r
none_of false false false v w x y p q r s = s

same_as_none : (one other : Option (List ℕ)) → other ≡ None → are_same one other ≡ false
same_as_none one other none = ap (λ (o : Option (List ℕ)). are_same one o) none ∙ same_none one

never_agree : (stored forwarded received : List Field) → has_validator stored ≡ false → validators_agree stored forwarded received ≡ false
never_agree stored forwarded received none =
    let tag = no_tag (tag_of stored) (last_modified_of stored) none in
    let date = no_date (tag_of stored) (last_modified_of stored) none in
    none_of (is_some (tag_of received)) (is_some (last_modified_of received)) (has_name (codes "if-none-match") forwarded) _ _ _ _
    (same_as_none (tag_of received) (tag_of stored) tag)
    (same_as_none (last_modified_of received) (last_modified_of stored) date)
    (same_as_none (only_member_asked forwarded) (tag_of stored) tag)
    (same_as_none (only_value (codes "if-modified-since") forwarded) (last_modified_of stored) date)

all_but : (a b c d : Bool) → d ≡ false → (a && b && c && d) ≡ false
all_but true true true d e = e
all_but true true false d e = refl
all_but true false c d e = refl
all_but false b c d e = refl

pub never_identified : (state : Stored) (forward : RequestHead) (response : ResponseHead) → has_validator state.fields ≡ false
    → identifies state forward response ≡ false
never_identified state forward response none =
    all_but (may_freshen response) (asks_for_storable forward) (selects state.fields state.request.fields forward.fields) _
    (never_agree state.fields forward.fields response.fields none)

-- what Vary selects decides where all else speaks for it
pub asked_last : (may asks selected agree : Bool) → (may && asks && agree) ≡ true → selected ≡ (may && asks && selected && agree)
asked_last true true true true all = refl
asked_last true true false true all = refl
asked_last true true selected false all = absurd (cc)
asked_last true false selected agree all = absurd (cc)
asked_last false asks selected agree all = absurd (cc)
