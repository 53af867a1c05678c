-- What a cache serves may be used for the reply, in the strictest audit.
use Rattle.std.proofs.Common.{◌≡◌, ℕ, ◌<◌, Bool, true, false, ◌&&◌, ◌||◌, List, Option, Some, None, refl, sym, subst, inl, inr, ⊎_elim, nat_eq, ap}
use Rattle.std.specs.Prelude.{◌⊎◌, not, codes}
use Rattle.std.specs.Option.{option_eq}
use Rattle.std.proofs.lemmas.Bool.{and_from, and_parts, or_left, or_right, lt-ltb, eqb-true}
use Rattle.hc_fresh.specs.Lifetimes.{says, seconds_said, stale_forbidden}
use Rattle.hc_head.specs.declared.head.ResponseHead.{ResponseHead}
use Rattle.hc_framing.specs.declared.message.Message.{Message}
use Rattle.hc_update.specs.declared.stored.Stored.{Stored}
use Rattle.hc_transcript.specs.Items.{Item, Exchange}
use Rattle.hc_history.specs.Claims.{Claim, claim_of}
use Rattle.hc_history.specs.Usable.{age_at, is_usable, permits_by_request, permits_on_error, permits_stale, validated_since}
use Rattle.hc_service.specs.Sending.{recorded_format}
use Rattle.hc_service.specs.Asking.{allows_age, asks_for_fresh}
use Rattle.hc_service.specs.Joining.{may_be_shared}
use Rattle.hc_service.specs.Runs.{strict}
use Rattle.hc_service.specs.Serving.{is_fresh, while_revalidating, may_be_used, is_fresh_enough, is_permitted_stale, may_be_served, may_replace}

-- ---- one of several

pub one_of_two : (a b : Bool) → (a || b) ≡ true → (a ≡ true) ⊎ (b ≡ true)
one_of_two true b is = inl refl
one_of_two false b is = inr is

first_of_four : (a b c d : Bool) → a ≡ true → (a || b || c || d) ≡ true
first_of_four true b c d is = refl
first_of_four false b c d is = absurd (cc)

second_of_four : (a b c d : Bool) → b ≡ true → (a || b || c || d) ≡ true
second_of_four true b c d is = refl
second_of_four false true c d is = refl
second_of_four false false c d is = absurd (cc)

third_of_four : (a b c d : Bool) → c ≡ true → (a || b || c || d) ≡ true
third_of_four true b c d is = refl
third_of_four false true c d is = refl
third_of_four false false true d is = refl
third_of_four false false false d is = absurd (cc)

pub three_parts : (a b c : Bool) → (a && b && c) ≡ true → (a ≡ true) × (b ≡ true) × (c ≡ true)
three_parts true true true e = (refl, refl, refl)
three_parts true true false e = absurd (cc)
three_parts true false c e = absurd (cc)
three_parts false b c e = absurd (cc)

four_parts : (a b c d : Bool) → (a && b && c && d) ≡ true → (a ≡ true) × (b ≡ true) × (c ≡ true) × (d ≡ true)
four_parts true true true true e = (refl, refl, refl, refl)
four_parts true true true false e = absurd (cc)
four_parts true true false d e = absurd (cc)
four_parts true false c d e = absurd (cc)
four_parts false b c d e = absurd (cc)

-- the position of a validation
pub validated_is : (o : Option ℕ) (position : ℕ) → option_eq nat_eq o (Some position) ≡ true → o ≡ Some position
validated_is None position is = absurd (cc)
validated_is (Some n) position is = ap Some (eqb-true n position is)

module _ (items : List Item) (x : Exchange) (moment : ℕ) (reply : Message ResponseHead) (stored : Stored) where
  abbrev the_claim : Claim
  the_claim = claim_of recorded_format strict x moment reply items

  -- it may be used without validation, and is fresh or may be served stale
  usable_by : not (says (codes "no-cache") stored.fields) ≡ true → (is_fresh stored moment ≡ true) ⊎ (permits_stale the_claim stored ≡ true) → is_usable the_claim stored ≡ true
  usable_by used (inl fresh) = or_right _ _ (and_from _ _ used (or_left _ _ fresh))
  usable_by used (inr stale) = or_right _ _ (and_from _ _ used (or_right _ _ stale))

  -- by the request, by the response while it is validated, or where an error or a failure stands in the window
  abbrev asked_for : Bool
  asked_for = permits_by_request 0 x.request.fields stored moment

  abbrev meanwhile : Bool
  meanwhile = while_revalidating stored moment

  abbrev in_place : Bool
  in_place = (the_claim.has_error || the_claim.has_failure) && permits_on_error 0 x.request.fields stored moment

  permitted_by : not (stale_forbidden stored.fields) ≡ true → (asked_for || meanwhile || in_place || the_claim.has_failure) ≡ true → permits_stale the_claim stored ≡ true
  permitted_by allowed one = and_from (not (stale_forbidden stored.fields)) (asked_for || meanwhile || in_place || the_claim.has_failure) allowed one

  -- what may be served to the request
  pub served_usable : may_be_served x.request.fields stored moment ≡ true → is_usable the_claim stored ≡ true
  served_usable served =
      let parts = three_parts (may_be_used x.request.fields stored) (allows_age (age_at stored moment) (seconds_said (codes "max-age") x.request.fields))
      (is_fresh_enough x.request.fields stored moment || is_permitted_stale x.request.fields stored moment) served in
      let used = and_parts (not (says (codes "no-cache") stored.fields)) (not (says (codes "no-cache") x.request.fields)) parts.0 in
      usable_by used.0
      (⊎_elim
      (λ (enough : is_fresh_enough x.request.fields stored moment ≡ true). inl (and_parts (is_fresh stored moment) _ enough).0)
      (λ (stale : is_permitted_stale x.request.fields stored moment ≡ true). inr (permitted stale))
      (one_of_two (is_fresh_enough x.request.fields stored moment) (is_permitted_stale x.request.fields stored moment) parts.2))
    where
      permitted : is_permitted_stale x.request.fields stored moment ≡ true → permits_stale the_claim stored ≡ true
      permitted stale =
          let parts = four_parts (not (is_fresh stored moment)) (not (stale_forbidden stored.fields)) (not (asks_for_fresh (seconds_said (codes "min-fresh") x.request.fields)))
          (asked_for || meanwhile) stale in
          permitted_by parts.1
          (⊎_elim
          (λ (asked : asked_for ≡ true). first_of_four asked_for meanwhile in_place the_claim.has_failure asked)
          (λ (validated : meanwhile ≡ true). second_of_four asked_for meanwhile in_place the_claim.has_failure validated)
          (one_of_two asked_for meanwhile parts.3))

  -- what may take the place of an error or a failure, where one stands in the window
  pub replacing_usable : may_replace x.request.fields stored moment ≡ true → (the_claim.has_error || the_claim.has_failure) ≡ true → is_usable the_claim stored ≡ true
  replacing_usable may stands =
      let parts = and_parts (may_be_used x.request.fields stored) (is_fresh stored moment || (not (stale_forbidden stored.fields) && permits_on_error 0 x.request.fields stored moment)) may in
      let used = and_parts (not (says (codes "no-cache") stored.fields)) (not (says (codes "no-cache") x.request.fields)) parts.0 in
      usable_by used.0
      (⊎_elim
      (λ (fresh : is_fresh stored moment ≡ true). inl fresh)
      (λ (stale : (not (stale_forbidden stored.fields) && permits_on_error 0 x.request.fields stored moment) ≡ true). inr (permitted stale))
      (one_of_two (is_fresh stored moment) (not (stale_forbidden stored.fields) && permits_on_error 0 x.request.fields stored moment) parts.1))
    where
      permitted : (not (stale_forbidden stored.fields) && permits_on_error 0 x.request.fields stored moment) ≡ true → permits_stale the_claim stored ≡ true
      permitted stale =
          let parts = and_parts (not (stale_forbidden stored.fields)) (permits_on_error 0 x.request.fields stored moment) stale in
          permitted_by parts.0
          (third_of_four asked_for meanwhile in_place the_claim.has_failure
          (and_from (the_claim.has_error || the_claim.has_failure) (permits_on_error 0 x.request.fields stored moment) stands parts.1))

  -- what may be served to one that waited for the forward of another request
  pub shared_usable : may_be_shared stored moment ≡ true → is_usable the_claim stored ≡ true
  shared_usable may = let parts = and_parts (is_fresh stored moment) (not (says (codes "no-cache") stored.fields)) may in usable_by parts.1 (inl parts.0)

  -- what was validated in the window
  pub validated_usable : (position : ℕ) → stored.validated_at ≡ Some position → x.position < position → is_usable the_claim stored ≡ true
  validated_usable position is later = or_left _ _ (subst (λ (o : Option ℕ). validated_since x.position o ≡ true) (sym is) (lt-ltb x.position position later))
