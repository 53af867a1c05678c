-- The response that is named was validated last by a record that stands among the ends of forwards for its path.
use Rattle.std.proofs.Common.{◌≡◌, ℕ, zero, suc, ◌≤◌, ◌<◌, ◌≢◌, Bool, true, false, List, [], ◌∷◌, ◌++◌, length, Option, Some, None, IfSome, refl, sym, ap, ◌∙◌, subst, arith, ◌⊎◌, inl, inr}
use Rattle.std.specs.Prelude.{◌&&◌, ◌||◌, ◌==◌, bytes_eq, find, if◌then◌else◌}
use Rattle.std.specs.List.{list_any}
use Rattle.std.specs.Option.{option_map, option_or}
use Rattle.std.proofs.lemmas.Bool.{cases_eq, cases_lt, ne_eqb, eq-eqb}
use Rattle.std.proofs.lemmas.List.Folds.{find-append}
use Rattle.hc_head.specs.declared.head.ResponseHead.{ResponseHead}
use Rattle.hc_head.specs.declared.head.Target.{Target}
use Rattle.hc_head.specs.Targets.{same_target}
use Rattle.hc_head.proofs.SameTargetLemmas.{same_target_itself, same_target_one}
use Rattle.hc_framing.specs.declared.message.Message.{Message}
use Rattle.hc_rules.specs.Storing.{may_store}
use Rattle.hc_update.specs.declared.stored.Stored.{Stored}
use Rattle.hc_update.specs.States.{freshened, initial_state, invalidated, invalidates}
use Rattle.hc_update.specs.Identifying.{identifies}
use Rattle.hc_update.specs.Remnants.{is_lost, remnant}
use Rattle.hc_shown.specs.declared.teller.RecordName.{RecordName}
use Rattle.hc_transcript.specs.Items.{ClientReply, ClientRequest, Forward, Item, OriginFailure, OriginRequest, OriginResponse}
use Rattle.hc_transcript.specs.History.{cause_of, forward_of, next_position}
use Rattle.hc_history.specs.declared.kept.Kept.{Kept}
use Rattle.hc_history.specs.Claims.{Claim}
use Rattle.hc_history.specs.Seen.{Live, live_at, live_of, live_up_to, remaining}
use Rattle.hc_history.specs.States.{begun_to, kept_answered_to, state_after, state_answered, state_at, state_begun}
use Rattle.hc_history.proofs.StateLemmas.{map_is_some, place_of}
use Rattle.hc_index.specs.Lists.{state_in}
use Rattle.hc_past.specs.declared.shortfalls.Nearest.{Nearest}
use Rattle.hc_why.specs.Due.{is_end_at, place_among}
use Rattle.hc_past.specs.Naming.{IsNamed}
use Rattle.hc_past.specs.Remembered.{EndSeen, end_by, ends_of, ends_with, name_behind}

-- ---- an end stands there

abbrev Stands : Target → ℕ → List EndSeen → Type 0
Stands target place ends = list_any (is_end_at target place) ends ≡ true

either : (a b : Bool) → b ≡ true → (a || b) ≡ true
either true b is = refl
either false b is = is

first_or : (b rest more : Bool) → (rest ≡ true → more ≡ true) → (b || rest) ≡ true → (b || more) ≡ true
first_or true rest more goes is = refl
first_or false rest more goes is = goes is

-- more leave it
stands_first : (target : Target) (place : ℕ) (ends more : List EndSeen) → Stands target place ends → Stands target place (ends ++ more)
stands_first target place [] more is = absurd cc
stands_first target place (end ∷ ends) more is =
    first_or (is_end_at target place end) (list_any (is_end_at target place) ends) (list_any (is_end_at target place) (ends ++ more))
    (stands_first target place ends more) is

-- or is it
stands_last : (target : Target) (place : ℕ) (ends : List EndSeen) (end : EndSeen) → is_end_at target place end ≡ true → Stands target place (ends ++ end ∷ [])
stands_last target place [] end is = ap (λ (b : Bool). b || false) is
stands_last target place (other ∷ ends) end is = either (is_end_at target place other) (list_any (is_end_at target place) (ends ++ end ∷ [])) (stands_last target place ends end is)

-- ---- so it does where an item validated the response last

-- an item leaves those that stand
stays_with : (path : List ℕ) (target : Target) (place : ℕ) (name : RecordName) (cause : Option ℕ) (answer : Option (Message ResponseHead)) (o : Option Forward) (ends : List EndSeen)
    → Stands target place ends → Stands target place (ends_with path name cause answer o ends)
stays_with path target place name cause answer None ends is = is
stays_with path target place name cause answer (Some forward) ends is = in_either (bytes_eq forward.target.path path)
  where
    in_either : (b : Bool) → Stands target place (if b then ends ++ end_by name cause answer forward ∷ [] else ends)
    in_either true = stands_first target place ends (end_by name cause answer forward ∷ []) is
    in_either false = is

stays : (path : List ℕ) (target : Target) (place : ℕ) (h : List Item) (item : Item) → Stands target place (ends_of path h) → Stands target place (ends_of path (item ∷ h))
stays path target place h (ClientRequest number moment request asked) is = is
stays path target place h (OriginRequest number moment request asked cause) is = is
stays path target place h (OriginResponse number moment response) is =
    stays_with path target place (name_behind h (OriginResponse number moment response)) (cause_of number h) (Some response) (forward_of number h) (ends_of path h) is
stays path target place h (OriginFailure number moment) is =
    stays_with path target place (name_behind h (OriginFailure number moment)) (cause_of number h) None (forward_of number h) (ends_of path h) is
stays path target place h (ClientReply number moment reply) is = is

-- nothing has validated what has just come
begun_by_never : (forward : Forward) (moment : ℕ) (response : Message ResponseHead) (kept : Kept) (stores : Bool)
    → (if stores then Some (record { target = forward.target; state = initial_state forward.request forward.moment response moment }) else None) ≡ Some kept
    → None ≡ kept.state.validated_at
begun_by_never forward moment response kept true is = ap validated_in_kept is
  where
    validated_in_kept : Option Kept → Option ℕ
    validated_in_kept None = None
    validated_in_kept (Some k) = k.state.validated_at
begun_by_never forward moment response kept false is = cc

begun_to_never : (o : Option Forward) (moment : ℕ) (response : Message ResponseHead) (kept : Kept) → begun_to o moment response ≡ Some kept → None ≡ kept.state.validated_at
begun_to_never None moment response kept is = cc
begun_to_never (Some forward) moment response kept is = begun_by_never forward moment response kept (may_store forward.request response.head) is

begun_never : (h : List Item) (item : Item) (kept : Kept) → state_begun h item ≡ Some kept → None ≡ kept.state.validated_at
begun_never h (OriginResponse number moment response) kept is = begun_to_never (forward_of number h) moment response kept is
begun_never h item kept is = cc

-- what makes one response of another: of the same target, and validated as before, or there, where an end of that target stands
abbrev ValidatesAt : Target → ℕ → List EndSeen → Kept → Kept → Type 0
ValidatesAt target position ends before after =
    (after.target ≡ before.target) × ((after.state.validated_at ≡ before.state.validated_at) ⊎ ((after.state.validated_at ≡ Some position) × Stands target position ends))

both : (a b : Bool) → a ≡ true → b ≡ true → (a && b) ≡ true
both true b one other = other
both false b one other = absurd cc

second_of_both : (a b : Bool) → (a && b) ≡ true → b ≡ true
second_of_both true b is = is
second_of_both false b is = absurd cc

taken : {X : Type 0} (b : Bool) (one other : X) → b ≡ true → (if b then one else other) ≡ one
taken true one other is = refl
taken false one other is = absurd cc

-- the end of a forward for the target stands there
ends_there : (path : List ℕ) (target : Target) (name : RecordName) (cause : Option ℕ) (response : Message ResponseHead) (forward : Forward) (ends : List EndSeen)
    → forward.target ≡ target → target.path ≡ path → Stands target name.position (ends_with path name cause (Some response) (Some forward) ends)
ends_there path target name cause response forward ends same of_path =
    let path_is : forward.target.path ≡ path = ap (λ (t : Target). t.path) same ∙ of_path in
    let itself : bytes_eq forward.target.path forward.target.path ≡ true =
    second_of_both (bytes_eq forward.target.host forward.target.host) (bytes_eq forward.target.path forward.target.path) (same_target_itself forward.target) in
    let added : bytes_eq forward.target.path path ≡ true = subst (λ (p : List ℕ). bytes_eq forward.target.path p ≡ true) path_is itself in
    let of_target : same_target forward.target target ≡ true = subst (λ (t : Target). same_target forward.target t ≡ true) same (same_target_itself forward.target) in
    let there = stands_last target name.position ends (end_by name cause (Some response) forward)
    (both (name.position == name.position) (same_target forward.target target) (eq-eqb name.position name.position refl) of_target) in
    subst (Stands target name.position) (sym (taken (bytes_eq forward.target.path path) (ends ++ end_by name cause (Some response) forward ∷ []) ends added)) there

state_validates : (target : Target) (ends : List EndSeen) (forward : Forward) (position moment : ℕ) (response : Message ResponseHead) (kept : Kept) (freshens invalid : Bool)
    → Stands target position ends
    → ValidatesAt target position ends kept (record {
      target = kept.target;
      state = if freshens then freshened kept.state response.head.fields forward.moment moment position else if invalid then invalidated kept.state else kept.state;
    })
state_validates target ends forward position moment response kept true invalid is = (refl, inr (refl, is))
state_validates target ends forward position moment response kept false true is = (refl, inl refl)
state_validates target ends forward position moment response kept false false is = (refl, inl refl)

kept_validates : (path : List ℕ) (target : Target) (name : RecordName) (moment : ℕ) (cause : Option ℕ) (response : Message ResponseHead) (forward : Forward) (kept : Kept)
    (ends : List EndSeen) (same : Bool) → same_target forward.target kept.target ≡ same → same_target kept.target target ≡ true → target.path ≡ path
    → ValidatesAt target name.position (ends_with path name cause (Some response) (Some forward) ends) kept
    (if same then record { target = kept.target; state = state_answered forward name.position moment response kept.state } else kept)
kept_validates path target name moment cause response forward kept ends true same of_target of_path =
    let is : forward.target ≡ target = same_target_one forward.target kept.target same ∙ same_target_one kept.target target of_target in
    state_validates target (ends_with path name cause (Some response) (Some forward) ends) forward name.position moment response kept
    (identifies kept.state forward.request response.head) (invalidates forward.request.method response.head.status)
    (ends_there path target name cause response forward ends is of_path)
kept_validates path target name moment cause response forward kept ends false same of_target of_path = (refl, inl refl)

answered_validates : (path : List ℕ) (target : Target) (name : RecordName) (moment : ℕ) (cause : Option ℕ) (response : Message ResponseHead) (o : Option Forward) (kept : Kept)
    (ends : List EndSeen) → same_target kept.target target ≡ true → target.path ≡ path
    → ValidatesAt target name.position (ends_with path name cause (Some response) o ends) kept (kept_answered_to o name.position moment response kept)
answered_validates path target name moment cause response None kept ends of_target of_path = (refl, inl refl)
answered_validates path target name moment cause response (Some forward) kept ends of_target of_path =
    kept_validates path target name moment cause response forward kept ends (same_target forward.target kept.target) refl of_target of_path

after_validates : (path : List ℕ) (target : Target) (h : List Item) (item : Item) (kept : Kept) → same_target kept.target target ≡ true → target.path ≡ path
    → ValidatesAt target (next_position h) (ends_of path (item ∷ h)) kept (state_after h item kept)
unfolding state_after
after_validates path target h (OriginResponse number moment response) kept of_target of_path =
    answered_validates path target (name_behind h (OriginResponse number moment response)) moment (cause_of number h) response (forward_of number h) kept (ends_of path h) of_target of_path
after_validates path target h (ClientRequest number moment request asked) kept of_target of_path = (refl, inl refl)
after_validates path target h (OriginRequest number moment request asked cause) kept of_target of_path = (refl, inl refl)
after_validates path target h (OriginFailure number moment) kept of_target of_path = (refl, inl refl)
after_validates path target h (ClientReply number moment reply) kept of_target of_path = (refl, inl refl)

-- what an item makes of the response has the response's target
after_target : (h : List Item) (item : Item) (kept : Kept) → (state_after h item kept).target ≡ kept.target
unfolding state_after
after_target h (OriginResponse number moment response) kept = answered_target (forward_of number h)
  where
    by_target : (forward : Forward) (b : Bool)
        → (let after : Kept = if b then record { target = kept.target; state = state_answered forward (next_position h) moment response kept.state } else kept in after.target) ≡ kept.target
    by_target forward true = refl
    by_target forward false = refl

    answered_target : (o : Option Forward) → (kept_answered_to o (next_position h) moment response kept).target ≡ kept.target
    answered_target None = refl
    answered_target (Some forward) = by_target forward (same_target forward.target kept.target)
after_target h item kept = refl

unwrapped : {A : Type 0} (one other : A) → Some one ≡ Some other → one ≡ other
unwrapped one other e = cc

walked_is : {A B : Type 0} (f : A → B) (o : Option A) (x : A) (y : B) → o ≡ Some x → option_map f o ≡ Some y → y ≡ f x
walked_is f o x y is maps = unwrapped y (f x) (sym maps ∙ ap (option_map f) is)

pub validated_stands : (path : List ℕ) (target : Target) (position place : ℕ) (h : List Item) (kept : Kept) → target.path ≡ path
    → state_at position h ≡ Some kept → same_target kept.target target ≡ true → kept.state.validated_at ≡ Some place → Stands target place (ends_of path h)
validated_stands path target position place [] kept of_path is of_target validated = absurd (no_kept kept is)
  where
    no_kept : (k : Kept) → None ≡ Some k → ⊥
    no_kept k e = cc
validated_stands path target position place (item ∷ h) kept of_path is of_target validated =
    elim (cases_eq position (next_position h)) [
      | inl e ↦ absurd (
          let begun = begun_never h item kept (rw (eq-eqb position (next_position h) e) at is) in
          let never : None ≡ Some place = begun ∙ validated in cc)
      | inr ne ↦
          let walks = rw (ne_eqb position (next_position h) ne) at is in
          let was = map_is_some (state_after h item) (state_at position h) kept walks in
          let k_is = walked_is (state_after h item) (state_at position h) was.0 kept was.1 walks in
          let target_is : kept.target ≡ was.0.target = ap (λ (k : Kept). k.target) k_is ∙ after_target h item was.0 in
          let before_of : same_target was.0.target target ≡ true = subst (λ (t : Target). same_target t target ≡ true) target_is of_target in
          let step = after_validates path target h item was.0 before_of of_path in
          elim step.1 [
            | inl as_before ↦
                let then_at : was.0.state.validated_at ≡ Some place = sym as_before ∙ sym (ap (λ (k : Kept). k.state.validated_at) k_is) ∙ validated in
                stays path target place h item (validated_stands path target position place h was.0 of_path was.1 before_of then_at)
            | inr here ↦
                let is_here : Some (next_position h) ≡ Some place = sym here.0 ∙ sym (ap (λ (k : Kept). k.state.validated_at) k_is) ∙ validated in
                subst (λ (n : ℕ). Stands target n (ends_of path (item ∷ h))) (unwrapped (next_position h) place is_here) here.1
          ]
    ]

-- ---- what is left of a candidate

abbrev at_place : ℕ → Live → Bool
at_place position live = live.position == position

or_none : {X : Type 0} (one : Option X) → option_or one None ≡ one
or_none None = refl
or_none (Some x) = refl

none_here : (target : Target) (place n : ℕ) (o : Option Kept) → n ≢ place → find (at_place place) (live_at target n o) ≡ None
none_here target place n None other = refl
none_here target place n (Some kept) other = in_either (same_target kept.target target)
  where
    in_either : (b : Bool) → find (at_place place) (if b then record { position = n; state = remaining kept.state } ∷ [] else []) ≡ None
    in_either true = rw (ne_eqb n place other) refl
    in_either false = refl

none_before : (target : Target) (place n : ℕ) (h : List Item) → n < place → find (at_place place) (live_up_to target n h) ≡ None
none_before target place zero h lt = refl
none_before target place (suc n) h lt =
    find-append (at_place place) (live_up_to target n h) (live_at target (suc n) (state_at (suc n) h))
    ∙ ap (λ (o : Option Live). option_or o (find (at_place place) (live_at target (suc n) (state_at (suc n) h)))) (none_before target place n h (omega arith))
    ∙ none_here target place (suc n) (state_at (suc n) h) (λ e. absurd (omega (arith, e)))

one_here : (target : Target) (place : ℕ) (o : Option Kept) (kept : Kept) → o ≡ Some kept → same_target kept.target target ≡ true
    → find (at_place place) (live_at target place o) ≡ Some (record { position = place; state = remaining kept.state })
one_here target place o kept is same =
    subst (λ (k : Option Kept). find (at_place place) (live_at target place k) ≡ Some (record { position = place; state = remaining kept.state })) (sym is)
    (rw same (rw (eq-eqb place place refl) refl))

left_up_to : (target : Target) (place n : ℕ) (h : List Item) (kept : Kept) → state_at place h ≡ Some kept → same_target kept.target target ≡ true
    → 1 ≤ place → place ≤ n → find (at_place place) (live_up_to target n h) ≡ Some (record { position = place; state = remaining kept.state })
left_up_to target place zero h kept is same some le = absurd (omega arith)
left_up_to target place (suc n) h kept is same some le =
    let front = live_up_to target n h in
    let last = live_at target (suc n) (state_at (suc n) h) in
    find-append (at_place place) front last
    ∙ elim (cases_lt n place) [
      | inl here ↦
          let e : place ≡ suc n = omega arith in
          ap (λ (o : Option Live). option_or o (find (at_place place) last)) (none_before target place n h here)
          ∙ subst (λ (k : ℕ). find (at_place place) (live_at target k (state_at k h)) ≡ Some (record { position = place; state = remaining kept.state })) e
          (one_here target place (state_at place h) kept is same)
      | inr before ↦
          ap (λ (o : Option Live). option_or o (find (at_place place) last)) (left_up_to target place n h kept is same some before)
    ]

-- it was validated where the candidate was, or never
remaining_validated : (state : Stored) → ((remaining state).validated_at ≡ None) ⊎ ((remaining state).validated_at ≡ state.validated_at)
unfolding remaining
remaining_validated state = by_lost (is_lost state)
  where
    by_lost : (b : Bool) → ((if b then remnant state else state).validated_at ≡ None) ⊎ ((if b then remnant state else state).validated_at ≡ state.validated_at)
    by_lost true = inl refl
    by_lost false = inr refl

-- so it is among the ends
among : (target : Target) (ends : List EndSeen) (validated : Option ℕ) → ((place : ℕ) → validated ≡ Some place → Stands target place ends)
    → place_among target validated ends ≡ validated
among target ends None stands = refl
among target ends (Some place) stands = taken (list_any (is_end_at target place) ends) (Some place) None (stands place refl)

pub validator_is : (claim : Claim) (path : List ℕ) (h : List Item) (since : ℕ) (nearest : Nearest) → claim.target.path ≡ path → IsNamed claim h since nearest
    → place_among claim.target nearest.state.now.validated_at (ends_of path h) ≡ nearest.state.now.validated_at
validator_is claim path h since nearest of_path named =
    let c = named.candidate in
    let kept = named.is_furthest.is_candidate.kept in
    let place = place_of c.position h kept named.is_furthest.is_candidate.is_its_state in
    let found = left_up_to claim.target c.position (length h) h kept named.is_furthest.is_candidate.is_its_state named.is_furthest.is_candidate.is_of_target place.0 place.1 in
    let left : state_in c.position (live_of claim.target h) ≡ Some (remaining kept.state) = ap (option_map (λ (live : Live). live.state)) found in
    let state_is : remaining kept.state ≡ nearest.state.now = unwrapped (remaining kept.state) nearest.state.now (sym left ∙ named.is_that.state) in
    among claim.target (ends_of path h) nearest.state.now.validated_at
    (λ p is. elim (remaining_validated kept.state) [
      | inl never ↦ absurd (
          let none : None ≡ Some p = sym never ∙ ap (λ (s : Stored). s.validated_at) state_is ∙ is in cc)
      | inr same ↦ validated_stands path claim.target c.position p h kept of_path named.is_furthest.is_candidate.is_its_state named.is_furthest.is_candidate.is_of_target
          (sym same ∙ ap (λ (s : Stored). s.validated_at) state_is ∙ is)
    ])

pub validator_told : (claim : Claim) (path : List ℕ) (h : List Item) (since : ℕ) (nearest : Option Nearest) (ends : List EndSeen) (told : Option ℕ) → claim.target.path ≡ path
    → ends ≡ ends_of path h → IfSome nearest (IsNamed claim h since) → IfSome nearest (λ n. told ≡ place_among claim.target n.state.now.validated_at ends)
    → IfSome nearest (λ n. told ≡ n.state.now.validated_at)
validator_told claim path h since None ends told of_path all named is = tt
validator_told claim path h since (Some nearest) ends told of_path all named is =
    is ∙ ap (place_among claim.target nearest.state.now.validated_at) all ∙ validator_is claim path h since nearest of_path named
