-- What a stored response is in a part: the same as in the whole, but for the position at which it was validated.
use Rattle.std.proofs.Common.{◌≡◌, ℕ, Bool, true, false, cond, List, [], ◌∷◌, Option, Some, None, refl, sym, ap, subst, ◌∙◌, inl, inr}
use Rattle.std.specs.Prelude.{nat_lt}
use Rattle.std.specs.Option.{option_map}
use Rattle.std.proofs.lemmas.Bool.{cases_Bool, cases_eq, eq-eqb, eqb-true, ne_eqb}
use Rattle.hc_head.specs.declared.head.ResponseHead.{ResponseHead}
use Rattle.hc_head.specs.declared.head.Target.{Target}
use Rattle.hc_head.specs.Targets.{same_target}
use Rattle.hc_framing.specs.declared.message.Message.{Message}
use Rattle.hc_rules.specs.Storing.{may_store}
use Rattle.hc_update.specs.declared.stored.Stored.{Stored}
use Rattle.hc_update.specs.States.{initial_state, invalidates}
use Rattle.hc_update.specs.Identifying.{identifies}
use Rattle.hc_transcript.specs.Items.{Item, OriginResponse, Forward}
use Rattle.hc_transcript.specs.History.{next_position, forward_of}
use Rattle.hc_history.specs.declared.kept.Kept.{Kept}
use Rattle.hc_history.specs.States.{begun_to, kept_answered_to, state_after, state_answered, state_at, state_begun}
use Rattle.hc_history.specs.Usable.{validated_since}
use Rattle.hc_history.proofs.StateLemmas.{earlier_at, map_is_some, place_of}
use Rattle.hc_parts.specs.Parts.{goes_into, is_of_part, items_in}
use Rattle.hc_parts.specs.Orderly.{AreInTurn}
use Rattle.hc_parts.proofs.OpenLemmas.{Agrees, KeepsTargets, forward_answered}

-- ---- the same but for when it was validated

pub record IsAlike (since other : ℕ) (one two : Stored) : Type 0 where
  pub state : two ≡ record one { validated_at = two.validated_at }
  pub validated : validated_since other two.validated_at ≡ validated_since since one.validated_at

pub record AreAlike (since other : ℕ) (one two : Kept) : Type 0 where
  pub target : two.target ≡ one.target
  pub state : IsAlike since other one.state two.state

module _ (since other p q : ℕ) (later : nat_lt since p ≡ nat_lt other q) where
  answered_with : (f : Forward) (moment : ℕ) (response : Message ResponseHead) (s : Stored) (v : Option ℕ) → validated_since other v ≡ validated_since since s.validated_at
      → IsAlike since other (state_answered f p moment response s) (state_answered f q moment response (record s { validated_at = v }))
  answered_with f moment response s v validated = elim (cases_Bool (identifies s f.request response.head)) [
    | inl is ↦ rw is (record { state = refl; validated = sym later })
    | inr apart ↦ rw apart (elim (cases_Bool (invalidates f.request.method response.head.status)) [
      | inl bad ↦ rw bad (record { state = refl; validated = validated })
      | inr fine ↦ rw fine (record { state = refl; validated = validated })
    ])
  ]

  answered_alike : (f : Forward) (moment : ℕ) (response : Message ResponseHead) (one two : Stored) → IsAlike since other one two
      → IsAlike since other (state_answered f p moment response one) (state_answered f q moment response two)
  answered_alike f moment response one two alike =
      subst (λ (s : Stored). IsAlike since other (state_answered f p moment response one) (state_answered f q moment response s)) (sym alike.state)
      (answered_with f moment response one two.validated_at alike.validated)

  kept_alike : (o : Option Forward) (moment : ℕ) (response : Message ResponseHead) (one two : Kept) → AreAlike since other one two
      → AreAlike since other (kept_answered_to o p moment response one) (kept_answered_to o q moment response two)
  kept_alike None moment response one two alike = alike
  kept_alike (Some f) moment response one two alike = elim (cases_Bool (same_target f.target one.target)) [
    | inl same ↦
        let same_too : same_target f.target two.target ≡ true = ap (same_target f.target) alike.target ∙ same in
        rw (same, same_too) (record { target = alike.target; state = answered_alike f moment response one.state two.state alike.state })
    | inr apart ↦
        let apart_too : same_target f.target two.target ≡ false = ap (same_target f.target) alike.target ∙ apart in
        rw (apart, apart_too) alike
  ]

-- ---- targets stay

answered_target : (o : Option Forward) (position moment : ℕ) (response : Message ResponseHead) (kept : Kept) → (kept_answered_to o position moment response kept).target ≡ kept.target
answered_target None position moment response kept = refl
answered_target (Some f) position moment response kept = elim (cases_Bool (same_target f.target kept.target)) [ inl same ↦ rw same refl | inr apart ↦ rw apart refl ]

after_target : (h : List Item) (item : Item) (kept : Kept) → (state_after h item kept).target ≡ kept.target
unfolding state_after
after_target h (OriginResponse number moment response) kept = answered_target (forward_of number h) (next_position h) moment response kept
after_target h item kept = refl

abbrev kept_or : Kept → Option Kept → Kept
kept_or other None = other
kept_or other (Some kept) = kept

mapped_is : (f : Kept → Kept) (o : Option Kept) (one kept : Kept) → o ≡ Some one → option_map f o ≡ Some kept → f one ≡ kept
mapped_is f o one kept is mapped = ap (kept_or kept) (sym (ap (option_map f) is) ∙ mapped)

-- ---- how it begins

begun_open : (o : Option Forward) (moment : ℕ) (response : Message ResponseHead) (kept : Kept) → begun_to o moment response ≡ Some kept
    → (f : Forward) × (o ≡ Some f) × (kept.target ≡ f.target) × (kept.state.validated_at ≡ None)
begun_open None moment response kept is = cc
begun_open (Some f) moment response kept is = elim (cases_Bool (may_store f.request response.head)) [
  | inl stored ↦
      let begun : Some (record { target = f.target; state = initial_state f.request f.moment response moment }) ≡ Some kept = rw stored at is in
      let it = ap (kept_or kept) begun in
      (f, refl, sym (ap (λ (s : Kept). s.target) it), sym (ap (λ (s : Kept). s.state.validated_at) it))
  | inr unstored ↦ let never : None ≡ Some kept = rw unstored at is in cc
]

module _ (part : Target → ℕ) (k : ℕ) (keeps : KeepsTargets part) where
  of_part : (o : Option Forward) (f : Forward) → o ≡ Some f → part f.target ≡ k → is_of_part part k (option_map (λ (g : Forward). g.target) o) ≡ true
  of_part o f is its = rw is (eq-eqb (part f.target) k its)

  its_part : (o : Option Forward) (f : Forward) → o ≡ Some f → is_of_part part k (option_map (λ (g : Forward). g.target) o) ≡ true → part f.target ≡ k
  its_part o f is goes = eqb-true (part f.target) k (sym (ap (λ (x : Option Forward). is_of_part part k (option_map (λ (g : Forward). g.target) x)) is) ∙ goes)

  -- of the part if its target is, and then the same there
  begun_goes : (h : List Item) (item : Item) (kept : Kept) → state_begun h item ≡ Some kept → part kept.target ≡ k → goes_into part k h item ≡ true
  begun_goes h (OriginResponse number moment response) kept is its =
      let begun = begun_open (forward_of number h) moment response kept is in
      of_part (forward_of number h) begun.0 begun.1 (sym (ap part begun.2) ∙ its)
  begun_goes h item kept is its = cc

  begun_its : (h : List Item) (item : Item) (kept : Kept) → state_begun h item ≡ Some kept → goes_into part k h item ≡ true → part kept.target ≡ k
  begun_its h (OriginResponse number moment response) kept is goes =
      let begun = begun_open (forward_of number h) moment response kept is in
      ap part begun.2 ∙ its_part (forward_of number h) begun.0 begun.1 goes
  begun_its h item kept is goes = cc

  begun_there : (h : List Item) (item : Item) → AreInTurn h → goes_into part k h item ≡ true → state_begun (items_in part k h) item ≡ state_begun h item
  begun_there h (OriginResponse number moment response) turn goes = ap (λ (o : Option Forward). begun_to o moment response) (forward_answered part k number h turn goes)
  begun_there h item turn goes = refl

  begun_unvalidated : (h : List Item) (item : Item) (kept : Kept) → state_begun h item ≡ Some kept → kept.state.validated_at ≡ None
  begun_unvalidated h (OriginResponse number moment response) kept is = (begun_open (forward_of number h) moment response kept is).3
  begun_unvalidated h item kept is = cc

  begun_alike : (since other : ℕ) (kept : Kept) → kept.state.validated_at ≡ None → AreAlike since other kept kept
  begun_alike since other kept none = record {
    target = refl;
    state = record { state = refl; validated = ap (validated_since other) none ∙ sym (ap (validated_since since) none) };
  }

  -- ---- how it goes on

  after_alike : (since other : ℕ) (h : List Item) (item : Item) (one two : Kept) → AreInTurn h → goes_into part k h item ≡ true
      → nat_lt since (next_position h) ≡ nat_lt other (next_position (items_in part k h)) → AreAlike since other one two
      → AreAlike since other (state_after h item one) (state_after (items_in part k h) item two)
  unfolding state_after
  after_alike since other h (OriginResponse number moment response) one two turn goes later alike =
      subst (λ (o : Option Forward). AreAlike since other (kept_answered_to (forward_of number h) (next_position h) moment response one) (kept_answered_to o (next_position (items_in part k h)) moment response two))
      (sym (forward_answered part k number h turn goes))
      (kept_alike since other (next_position h) (next_position (items_in part k h)) later (forward_of number h) moment response one two alike)
  after_alike since other h item one two turn goes later alike = alike

  -- what goes elsewhere leaves it
  left_by : (o : Option Forward) (position moment : ℕ) (response : Message ResponseHead) (kept : Kept) → part kept.target ≡ k
      → is_of_part part k (option_map (λ (g : Forward). g.target) o) ≡ false → kept_answered_to o position moment response kept ≡ kept
  left_by None position moment response kept its apart = refl
  left_by (Some f) position moment response kept its apart = elim (cases_Bool (same_target f.target kept.target)) [
    | inl same ↦
        let never : false ≡ true = sym apart ∙ eq-eqb (part f.target) k (keeps f.target kept.target same ∙ its) in cc
    | inr other ↦ rw other refl
  ]

  after_other : (h : List Item) (item : Item) (kept : Kept) → part kept.target ≡ k → goes_into part k h item ≡ false → state_after h item kept ≡ kept
  unfolding state_after
  after_other h (OriginResponse number moment response) kept its apart = left_by (forward_of number h) (next_position h) moment response kept its apart
  after_other h item kept its apart = refl

  -- ---- from the whole to the part, and back

  pub record StandsThere (since other position : ℕ) (kept : Kept) (g : List Item) : Type 0 where
    pub place : ℕ
    pub there : Kept
    pub is : state_at place g ≡ Some there
    pub alike : AreAlike since other kept there
    pub later : nat_lt other place ≡ nat_lt since position

  pub record StandsHere (since other place : ℕ) (there : Kept) (h : List Item) : Type 0 where
    pub position : ℕ
    pub kept : Kept
    pub is : state_at position h ≡ Some kept
    pub its : part kept.target ≡ k
    pub alike : AreAlike since other kept there
    pub later : nat_lt other place ≡ nat_lt since position

  begun_at : (h : List Item) (item : Item) → state_at (next_position h) (item ∷ h) ≡ state_begun h item
  begun_at h item = rw (eq-eqb (next_position h) (next_position h) refl) refl

  stands_later : (since other position : ℕ) (h : List Item) (item : Item) (one kept : Kept) → AreInTurn h
      → (goes_into part k h item ≡ true → nat_lt since (next_position h) ≡ nat_lt other (next_position (items_in part k h)))
      → state_after h item one ≡ kept → part one.target ≡ k → StandsThere since other position one (items_in part k h)
      → StandsThere since other position kept (items_in part k (item ∷ h))
  stands_later since other position h item one kept turn agrees is its was =
      let g = items_in part k h in
      elim (cases_Bool (goes_into part k h item)) [
        | inl goes ↦ rw goes (record {
          place = was.place;
          there = state_after g item was.there;
          is = earlier_at g item was.place ((place_of was.place g was.there was.is).1) ∙ ap (option_map (state_after g item)) was.is;
          alike = subst (λ (s : Kept). AreAlike since other s (state_after g item was.there)) is (after_alike since other h item one was.there turn goes (agrees goes) was.alike);
          later = was.later;
        })
        | inr apart ↦ rw apart (record {
          place = was.place;
          there = was.there;
          is = was.is;
          alike = subst (λ (s : Kept). AreAlike since other s was.there) (sym (after_other h item one its apart) ∙ is) was.alike;
          later = was.later;
        })
      ]

  pub to_part : (since other : ℕ) (h : List Item) → AreInTurn h → Agrees part k since other h → (position : ℕ) (kept : Kept) → state_at position h ≡ Some kept → part kept.target ≡ k
      → StandsThere since other position kept (items_in part k h)
  to_part since other [] turn agrees position kept is its = cc
  to_part since other (item ∷ h) turn agrees position kept is its = elim (cases_eq position (next_position h)) [
    | inl e ↦
        let begun : state_begun h item ≡ Some kept = sym (begun_at h item) ∙ subst (λ (p : ℕ). state_at p (item ∷ h) ≡ Some kept) e is in
        let goes = begun_goes h item kept begun its in
        rw goes (record {
          place = next_position (items_in part k h);
          there = kept;
          is = begun_at (items_in part k h) item ∙ begun_there h item turn.0 goes ∙ begun;
          alike = begun_alike since other kept (begun_unvalidated h item kept begun);
          later = sym (agrees.1 goes) ∙ ap (nat_lt since) (sym e);
        })
    | inr ne ↦
        let mapped : option_map (state_after h item) (state_at position h) ≡ Some kept = rw (ne_eqb position (next_position h) ne) at is in
        let was = map_is_some (state_after h item) (state_at position h) kept mapped in
        let after = mapped_is (state_after h item) (state_at position h) was.0 kept was.1 mapped in
        let its_too : part was.0.target ≡ k = ap part (sym (after_target h item was.0)) ∙ ap (λ (s : Kept). part s.target) after ∙ its in
        stands_later since other position h item was.0 kept turn.0 agrees.1 after its_too (to_part since other h turn.0 agrees.0 position was.0 was.1 its_too)
  ]

  stands_also : (since other place : ℕ) (h : List Item) (item : Item) (there new : Kept) → AreInTurn h
      → (goes_into part k h item ≡ true → state_after (items_in part k h) item there ≡ new)
      → (goes_into part k h item ≡ false → there ≡ new)
      → (goes_into part k h item ≡ true → nat_lt since (next_position h) ≡ nat_lt other (next_position (items_in part k h)))
      → StandsHere since other place there h → StandsHere since other place new (item ∷ h)
  stands_also since other place h item there new turn after same agrees was = record {
    position = was.position;
    kept = state_after h item was.kept;
    is = earlier_at h item was.position ((place_of was.position h was.kept was.is).1) ∙ ap (option_map (state_after h item)) was.is;
    its = ap part (after_target h item was.kept) ∙ was.its;
    alike = elim (cases_Bool (goes_into part k h item)) [
      | inl goes ↦ subst (λ (s : Kept). AreAlike since other (state_after h item was.kept) s) (after goes) (after_alike since other h item was.kept there turn goes (agrees goes) was.alike)
      | inr apart ↦ subst (λ (s : Kept). AreAlike since other (state_after h item was.kept) s) (same apart)
          (subst (λ (s : Kept). AreAlike since other s there) (sym (after_other h item was.kept was.its apart)) was.alike)
    ];
    later = was.later;
  }

  pub from_part : (since other : ℕ) (h : List Item) → AreInTurn h → Agrees part k since other h → (place : ℕ) (there : Kept) → state_at place (items_in part k h) ≡ Some there
      → StandsHere since other place there h
  from_part since other [] turn agrees place there is = cc
  from_part since other (item ∷ h) turn agrees place there is = by_goes (goes_into part k h item) refl is (λ p s. from_part since other h turn.0 agrees.0 p s)
    where
      g : List Item
      g = items_in part k h

      begun_here : (place ≡ next_position g) → goes_into part k h item ≡ true → state_begun g item ≡ Some there → StandsHere since other place there (item ∷ h)
      begun_here e goes is_begun =
          let begun : state_begun h item ≡ Some there = sym (begun_there h item turn.0 goes) ∙ is_begun in
          record {
            position = next_position h;
            kept = there;
            is = begun_at h item ∙ begun;
            its = begun_its h item there begun goes;
            alike = begun_alike since other there (begun_unvalidated h item there begun);
            later = ap (nat_lt other) e ∙ sym (agrees.1 goes);
          }

      by_goes : (b : Bool) → goes_into part k h item ≡ b → state_at place (cond b (item ∷ g) g) ≡ Some there
          → ((p : ℕ) (s : Kept) → state_at p g ≡ Some s → StandsHere since other p s h) → StandsHere since other place there (item ∷ h)
      by_goes true goes stands before = elim (cases_eq place (next_position g)) [
        | inl e ↦ begun_here e goes (sym (begun_at g item) ∙ subst (λ (p : ℕ). state_at p (item ∷ g) ≡ Some there) e stands)
        | inr ne ↦
            let mapped : option_map (state_after g item) (state_at place g) ≡ Some there = rw (ne_eqb place (next_position g) ne) at stands in
            let was = map_is_some (state_after g item) (state_at place g) there mapped in
            let after = mapped_is (state_after g item) (state_at place g) was.0 there was.1 mapped in
            stands_also since other place h item was.0 there turn.0 (λ it. after) (λ apart. let never : false ≡ true = sym apart ∙ goes in cc) agrees.1 (before place was.0 was.1)
      ]
      by_goes false apart stands before =
          stands_also since other place h item there there turn.0 (λ it. let never : false ≡ true = sym apart ∙ it in cc) (λ same. refl) agrees.1 (before place there stands)
