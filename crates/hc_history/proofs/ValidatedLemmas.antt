-- A stored response was validated later than it came.
use Rattle.std.proofs.Common.{◌≡◌, ℕ, ◌≤◌, ◌<◌, Bool, true, false, cond, List, [], ◌∷◌, length, Option, Some, None, refl, sym, ap, ◌∙◌, arith, ◌⊎◌, inl, inr}
use Rattle.std.specs.Option.{option_map}
use Rattle.std.proofs.lemmas.Bool.{cases_eq, ne_eqb, eq-eqb}
use Rattle.hc_head.specs.declared.head.ResponseHead.{ResponseHead}
use Rattle.hc_head.specs.Targets.{same_target}
use Rattle.hc_framing.specs.declared.message.Message.{Message}
use Rattle.hc_rules.specs.Storing.{may_store}
use Rattle.hc_update.specs.declared.stored.Stored.{Stored}
use Rattle.hc_update.specs.States.{initial_state, freshened, invalidated, invalidates}
use Rattle.hc_update.specs.Identifying.{identifies}
use Rattle.hc_transcript.specs.Items.{Item, OriginResponse, Forward}
use Rattle.hc_transcript.specs.History.{next_position, forward_of}
use Rattle.hc_history.specs.declared.kept.Kept.{Kept}
use Rattle.hc_history.specs.States.{begun_to, state_begun, state_answered, kept_answered_to, state_after, state_at}
use Rattle.hc_history.proofs.StateLemmas.{map_is_some, place_of}

-- nothing has validated what has just come
begun_by_never : (forward : Forward) (moment : ℕ) (response : Message ResponseHead) (kept : Kept) (stores : Bool)
    → cond stores (Some (record { target = forward.target; state = initial_state forward.request forward.moment response moment })) None ≡ Some kept
    → None ≡ kept.state.validated_at
begun_by_never forward moment response kept true is = ap validated_in is
  where
    validated_in : Option Kept → Option ℕ
    validated_in None = None
    validated_in (Some k) = k.state.validated_at
begun_by_never forward moment response kept false is = cc

begun_to_never : (o : Option Forward) (moment : ℕ) (response : Message ResponseHead) (kept : Kept) → begun_to o moment response ≡ Some kept → None ≡ kept.state.validated_at
begun_to_never None moment response kept is = cc
begun_to_never (Some forward) moment response kept is = begun_by_never forward moment response kept (may_store forward.request response.head) is

begun_never : (h : List Item) (item : Item) (kept : Kept) → state_begun h item ≡ Some kept → None ≡ kept.state.validated_at
begun_never h (OriginResponse number moment response) kept is = begun_to_never (forward_of number h) moment response kept is
begun_never h item kept is = cc

-- validated as before, or at that position
abbrev Validates : ℕ → Kept → Kept → Type 0
Validates position before after = (after.state.validated_at ≡ before.state.validated_at) ⊎ (after.state.validated_at ≡ Some position)

state_validated : (forward : Forward) (position moment : ℕ) (response : Message ResponseHead) (state : Stored) (freshens invalid : Bool)
    → ((cond freshens (freshened state response.head.fields forward.moment moment position) (cond invalid (invalidated state) state)).validated_at ≡ state.validated_at)
    ⊎ ((cond freshens (freshened state response.head.fields forward.moment moment position) (cond invalid (invalidated state) state)).validated_at ≡ Some position)
state_validated forward position moment response state true invalid = inr refl
state_validated forward position moment response state false true = inl refl
state_validated forward position moment response state false false = inl refl

kept_validated : (forward : Forward) (position moment : ℕ) (response : Message ResponseHead) (kept : Kept) (same : Bool)
    → Validates position kept (cond same (record { target = kept.target; state = state_answered forward position moment response kept.state }) kept)
kept_validated forward position moment response kept true =
    state_validated forward position moment response kept.state (identifies kept.state forward.request response.head)
    (invalidates forward.request.method response.head.status)
kept_validated forward position moment response kept false = inl refl

answered_validated : (o : Option Forward) (position moment : ℕ) (response : Message ResponseHead) (kept : Kept) → Validates position kept (kept_answered_to o position moment response kept)
answered_validated None position moment response kept = inl refl
answered_validated (Some forward) position moment response kept = kept_validated forward position moment response kept (same_target forward.target kept.target)

after_validated : (h : List Item) (item : Item) (kept : Kept) → Validates (next_position h) kept (state_after h item kept)
unfolding state_after
after_validated h (OriginResponse number moment response) kept = answered_validated (forward_of number h) (next_position h) moment response kept
after_validated h item kept = inl refl

unwrapped : {A : Type 0} (one other : A) → Some one ≡ Some other → one ≡ other
unwrapped one other e = cc

walked_is : {A B : Type 0} (f : A → B) (o : Option A) (x : A) (y : B) → o ≡ Some x → option_map f o ≡ Some y → y ≡ f x
walked_is f o x y is maps = unwrapped y (f x) (sym maps ∙ ap (option_map f) is)

pub validated_between : (position at : ℕ) (h : List Item) (kept : Kept) → state_at position h ≡ Some kept → kept.state.validated_at ≡ Some at
    → (position < at) × (at ≤ length h)
validated_between position at [] kept is validated = cc
validated_between position at (item ∷ h) kept is validated =
    elim (cases_eq position (next_position h)) [
      | inl e ↦ absurd (
          let begun = begun_never h item kept (rw (eq-eqb position (next_position h) e) at is) in
          let never : None ≡ Some at = begun ∙ validated in cc)
      | inr ne ↦
          let walks = rw (ne_eqb position (next_position h) ne) at is in
          let was = map_is_some (state_after h item) (state_at position h) kept walks in
          let k_is = walked_is (state_after h item) (state_at position h) was.0 kept was.1 walks in
          let place = place_of position h was.0 was.1 in
          elim (after_validated h item was.0) [
            | inl as_before ↦
                let then_at : was.0.state.validated_at ≡ Some at = sym as_before ∙ sym (ap (λ (k : Kept). k.state.validated_at) k_is) ∙ validated in
                let before = validated_between position at h was.0 was.1 then_at in
                (before.0, omega (arith, before.1))
            | inr here ↦
                let is_here : Some (next_position h) ≡ Some at = sym here ∙ sym (ap (λ (k : Kept). k.state.validated_at) k_is) ∙ validated in
                let at_it : next_position h ≡ at = unwrapped (next_position h) at is_here in
                (omega (arith, place.1, at_it), omega (arith, at_it))
          ]
    ]
