-- What nothing freshens any more may be forgotten.
use Rattle.std.proofs.Common.{◌≡◌, ℕ, Bool, true, false, not, ◌&&◌, ◌||◌, cond, List, [], ◌∷◌, None, refl, ap, sym, ◌∙◌}
use Rattle.std.specs.Prelude.{filter, codes}
use Rattle.std.specs.Option.{is_some}
use Rattle.std.specs.Str.{bytes_eq}
use Rattle.std.proofs.lemmas.Slice.Eq.{bytes_eq-Decides}
use Rattle.hc_fields.specs.declared.fields.Field.{Field}
use Rattle.hc_fields.specs.Values.{values_of, only}
use Rattle.hc_head.specs.declared.head.ResponseHead.{ResponseHead}
use Rattle.hc_framing.specs.declared.message.Message.{Message}
use Rattle.hc_rules.specs.Validators.{is_entity_tag, has_permitted_length, passing, has_validator}
use Rattle.hc_update.specs.declared.stored.Stored.{Stored}
use Rattle.hc_update.specs.States.{invalidated, invalidates}
use Rattle.hc_update.specs.Identifying.{identifies}
use Rattle.hc_update.proofs.UpdateLemmas.{never_identified}
use Rattle.hc_transcript.specs.Items.{Forward}
use Rattle.hc_history.specs.States.{state_answered}
use Rattle.hc_update.specs.Remnants.{is_lost, vary_lines, remnant}
use Rattle.hc_history.specs.Seen.{remaining}

-- lines that were kept by their name have no values of another
other_values : (name kept : List ℕ) (fields : List Field) → bytes_eq kept name ≡ false → values_of name (filter (λ f. bytes_eq f.name kept) fields) ≡ []
other_values name kept [] apart = refl
other_values name kept (x ∷ xs) apart = go (bytes_eq x.name kept) refl (other_values name kept xs apart)
  where
    go : (same : Bool) → bytes_eq x.name kept ≡ same → values_of name (filter (λ f. bytes_eq f.name kept) xs) ≡ []
        → values_of name (cond same (x ∷ filter (λ f. bytes_eq f.name kept) xs) (filter (λ f. bytes_eq f.name kept) xs)) ≡ []
    go true e none =
        let other : bytes_eq x.name name ≡ false = ap (λ (n : List ℕ). bytes_eq n name) ((bytes_eq-Decides x.name kept).0 e) ∙ apart in
        rw other none
    go false e none = none

vary_validates_nothing : (fields : List Field) → has_validator (vary_lines fields) ≡ false
vary_validates_nothing fields =
    ap (λ (vs : List (List ℕ)). is_some (passing is_entity_tag (only vs)) || is_some (passing has_permitted_length (only (values_of (codes "last-modified") (vary_lines fields)))))
    (other_values (codes "etag") (codes "vary") fields refl)
    ∙ ap (λ (vs : List (List ℕ)). is_some (passing has_permitted_length (only vs))) (other_values (codes "last-modified") (codes "vary") fields refl)

kept_twice : (p : Field → Bool) (fields : List Field) → filter p (filter p fields) ≡ filter p fields
kept_twice p [] = refl
kept_twice p (x ∷ xs) = go (p x) refl (kept_twice p xs)
  where
    go : (b : Bool) → p x ≡ b → filter p (filter p xs) ≡ filter p xs → filter p (cond b (x ∷ filter p xs) (filter p xs)) ≡ cond b (x ∷ filter p xs) (filter p xs)
    go true e twice = rw e (ap (λ (fs : List Field). x ∷ fs) twice)
    go false e twice = twice

remnant_of : Stored → List Field → Stored
remnant_of state fields = record {
  request = state.request;
  status = state.status;
  fields = fields;
  body = [];
  times = record { date = 0; age_value = 0; request_time = 0; response_time = 0 };
  invalid = true;
  validated_at = None;
}

remnant_twice : (state : Stored) → remnant (remnant state) ≡ remnant state
unfolding remnant_of
remnant_twice state = ap (remnant_of state) (kept_twice (λ f. bytes_eq f.name (codes "vary")) state.fields)

pub lost_remnant : (state : Stored) → is_lost (remnant state) ≡ true
lost_remnant state = ap not (vary_validates_nothing state.fields)

pub remaining_lost : (state : Stored) → is_lost state ≡ true → remaining state ≡ remnant state
unfolding remaining
remaining_lost state lost = rw lost refl

pub remaining_kept : (state : Stored) → is_lost state ≡ false → remaining state ≡ state
unfolding remaining
remaining_kept state kept = rw kept refl

parts : (b v : Bool) → (b && not v) ≡ true → (b ≡ true) × (v ≡ false)
parts true false lost = (refl, refl)
parts true true lost = cc
parts false v lost = cc

-- no response makes a lost state valid
answered_lost : (forward : Forward) (position moment : ℕ) (response : Message ResponseHead) (state : Stored) → is_lost state ≡ true
    → remaining (state_answered forward position moment response state) ≡ remnant state
answered_lost forward position moment response state lost =
    let apart = parts state.invalid (has_validator state.fields) lost in
    let never : identifies state forward.request response.head ≡ false = never_identified state forward.request response.head apart.1 in
    rw never (elim (invalidates forward.request.method response.head.status) as (λ b. remaining (cond b (invalidated state) state) ≡ remnant state) [
      | true ↦ remaining_lost (invalidated state) (ap not apart.1)
      | false ↦ remaining_lost state lost
    ])

commute_by : (forward : Forward) (position moment : ℕ) (response : Message ResponseHead) (state : Stored) (b : Bool) → is_lost state ≡ b
    → remaining (state_answered forward position moment response (remaining state)) ≡ remaining (state_answered forward position moment response state)
commute_by forward position moment response state true lost =
    ap (λ (s : Stored). remaining (state_answered forward position moment response s)) (remaining_lost state lost)
    ∙ answered_lost forward position moment response (remnant state) (lost_remnant state)
    ∙ remnant_twice state
    ∙ sym (answered_lost forward position moment response state lost)
commute_by forward position moment response state false kept =
    ap (λ (s : Stored). remaining (state_answered forward position moment response s)) (remaining_kept state kept)

-- to forget what nothing freshens changes nothing that comes after
pub remaining_answered : (forward : Forward) (position moment : ℕ) (response : Message ResponseHead) (state : Stored)
    → remaining (state_answered forward position moment response (remaining state)) ≡ remaining (state_answered forward position moment response state)
remaining_answered forward position moment response state = commute_by forward position moment response state (is_lost state) refl
