-- The state of the response at a position.
use Rattle.std.proofs.Common.{◌≡◌, ℕ, ◌+◌, ◌≤◌, true, false, List, [], ◌∷◌, length, Option, Some, None, refl, ap, ◌∙◌, arith, inl, inr}
use Rattle.std.specs.Option.{option_map}
use Rattle.std.proofs.lemmas.Bool.{cases_eq, ne_eqb}
use Rattle.hc_head.specs.declared.head.ResponseHead.{ResponseHead}
use Rattle.hc_head.specs.Targets.{same_target}
use Rattle.hc_framing.specs.declared.message.Message.{Message}
use Rattle.hc_fields.specs.declared.fields.Field.{Field}
use Rattle.hc_update.specs.declared.stored.Stored.{Stored}
use Rattle.hc_update.specs.States.{freshened}
use Rattle.hc_update.specs.Identifying.{identifies}
use Rattle.hc_transcript.specs.Items.{Item, OriginResponse, Forward}
use Rattle.hc_transcript.specs.History.{next_position, forward_of}
use Rattle.hc_history.specs.declared.kept.Kept.{Kept}
use Rattle.hc_history.specs.States.{kept_answered_to, state_after, state_at}

pub map_is_some : {A B : Type 0} (f : A → B) (o : Option A) (y : B) → option_map f o ≡ Some y → (x : A) × (o ≡ Some x)
map_is_some f None y is = cc
map_is_some f (Some x) y is = (x, refl)

-- a state stands at one of the positions of the history
pub place_of : (position : ℕ) (h : List Item) (kept : Kept) → state_at position h ≡ Some kept → (1 ≤ position) × (position ≤ length h)
place_of position [] kept is = cc
place_of position (item ∷ h) kept is =
    elim (cases_eq position (next_position h)) [
      | inl e ↦ (omega arith, omega arith)
      | inr ne ↦
          let was = map_is_some (state_after h item) (state_at position h) kept (rw (ne_eqb position (next_position h) ne) at is) in
          let place = place_of position h was.0 was.1 in (place.0, omega arith)
    ]

-- behind the item that began it, each item makes of it what it makes of a state
pub earlier_at : (h : List Item) (item : Item) (position : ℕ) → position ≤ length h → state_at position (item ∷ h) ≡ option_map (state_after h item) (state_at position h)
earlier_at h item position le = rw (ne_eqb position (length h + 1) (λ e. absurd (omega arith))) refl

pub freshened_valid : (state : Stored) (received : List Field) (request_time response_time position : ℕ)
    → (freshened state received request_time response_time position).invalid ≡ false
freshened_valid state received request_time response_time position = refl

answered_to : (o : Option Forward) (forward : Forward) (position moment : ℕ) (response : Message ResponseHead) (kept : Kept) → o ≡ Some forward
    → same_target forward.target kept.target ≡ true → identifies kept.state forward.request response.head ≡ true
    → kept_answered_to o position moment response kept
    ≡ record { target = kept.target; state = freshened kept.state response.head.fields forward.moment moment position }
answered_to o forward position moment response kept is same found = rw is (rw (same, found) refl)

after_update : (h : List Item) (number moment : ℕ) (response : Message ResponseHead) (forward : Forward) (kept : Kept) → forward_of number h ≡ Some forward
    → same_target forward.target kept.target ≡ true → identifies kept.state forward.request response.head ≡ true
    → state_after h (OriginResponse number moment response) kept
    ≡ record { target = kept.target; state = freshened kept.state response.head.fields forward.moment moment (next_position h) }
unfolding state_after
after_update h number moment response forward kept is same found = answered_to (forward_of number h) forward (next_position h) moment response kept is same found

pub update_freshens : (h : List Item) (number moment position : ℕ) (response : Message ResponseHead) (forward : Forward) (kept : Kept)
    → state_at position h ≡ Some kept → forward_of number h ≡ Some forward
    → same_target forward.target kept.target ≡ true → identifies kept.state forward.request response.head ≡ true
    → state_at position (OriginResponse number moment response ∷ h)
    ≡ Some (record { target = kept.target; state = freshened kept.state response.head.fields forward.moment moment (next_position h) })
update_freshens h number moment position response forward kept is open_forward same found =
    let place = place_of position h kept is in
    earlier_at h (OriginResponse number moment response) position place.1
    ∙ ap (option_map (state_after h (OriginResponse number moment response))) is
    ∙ ap Some (after_update h number moment response forward kept open_forward same found)
