-- What a store holds stays what the records say of it.
use Rattle.std.proofs.Common.{◌≡◌, ℕ, ◌+◌, ◌<◌, Bool, true, false, cond, ◌&&◌, List, ◌∷◌, length, Option, Some, refl, sym, ap, ◌∙◌, subst, inl, inr, ⊎_elim}
use Rattle.std.specs.Prelude.{◌⊎◌, ◌==◌, codes}
use Rattle.std.specs.Option.{option_map}
use Rattle.std.specs.List.{IsDistinct}
use Rattle.std.specs.Map.{keys_of}
use Rattle.std.proofs.lemmas.Bool.{cases_Bool, eq-eqb, and_parts}
use Rattle.std.proofs.lemmas.Slice.Eq.{bytes_eq-Decides}
use Rattle.hc_fields.specs.declared.fields.Field.{Field}
use Rattle.hc_head.specs.declared.head.ResponseHead.{ResponseHead}
use Rattle.hc_head.specs.declared.head.Target.{Target}
use Rattle.hc_head.specs.Methods.{is_get}
use Rattle.hc_head.specs.Statuses.{not_modified}
use Rattle.hc_head.specs.Targets.{same_target}
use Rattle.hc_framing.specs.declared.message.Message.{Message}
use Rattle.hc_rules.specs.Storing.{may_store, asks_for_storable}
use Rattle.hc_rules.specs.Selecting.{selects}
use Rattle.hc_update.specs.declared.stored.Stored.{Stored}
use Rattle.hc_update.specs.States.{initial_state, invalidates}
use Rattle.hc_update.specs.Identifying.{identifies, may_freshen, validators_agree}
use Rattle.hc_transcript.specs.Items.{Item, ClientRequest, OriginRequest, OriginResponse, OriginFailure, ClientReply}
use Rattle.hc_transcript.specs.History.{next_position, forward_of}
use Rattle.hc_history.specs.declared.kept.Kept.{Kept}
use Rattle.hc_history.specs.States.{state_after}
use Rattle.hc_history.proofs.StateLemmas.{place_of, earlier_at}
use Rattle.hc_head.proofs.SameTargetLemmas.{same_target_itself}
use Rattle.hc_store.specs.declared.putting.Put.{Put}
use Rattle.hc_store.specs.declared.putting.Put.TheVariants as put
use Rattle.hc_store.specs.Entries.{AllHeld, Holdings, Entries, variants_of}
use Rattle.hc_store.specs.Calls.{Puts, Freshens, invalidated}
use Rattle.hc_store.specs.Changes.{without, Validation, after_validation, is_validated, renewed}
use Rattle.hc_service.specs.declared.open.OpenForward.{OpenForward}
use Rattle.hc_service.specs.Choices.{OnTest, Finds, PutsResponse, Stores, may_update, validation_by}
use Rattle.hc_service.specs.Answers.{Renews}
use Rattle.hc_service.specs.Agreement.{HasSource}
use Rattle.hc_service.specs.Laws.{is_response, recorded_forward, HasSources}
use Rattle.hc_store.proofs.HeldLemmas.{all_weaken, choose_held, put_held, variants_held, held_weaken, left_held, freshen_held}
use Rattle.hc_service.proofs.StoreLemmas.{distinct_choose, distinct_put, distinct_without, distinct_freshen, without_others}

-- which of two it is
pub on_test : (b : Bool) (P Q : Type 0) → OnTest b P Q → ((b ≡ true) × P) ⊎ ((b ≡ false) × Q)
on_test true P Q h = inl (refl, h)
on_test false P Q h = inr (refl, h)

-- what is so of a response goes on to what the next item makes of it
pub moved : (since : Target → ℕ) (items : List Item) (item : Item) (target : Target) (old new : Stored) → HasSource since items target old
    → state_after items item (record { target = target; state = old }) ≡ record { target = target; state = new } → new.invalid ≡ false → HasSource since (item ∷ items) target new
moved since items item target old new source steps valid =
    let place = place_of source.position items _ source.is_its_state in
    record {
      position = source.position;
      is_later = source.is_later;
      is_its_state = earlier_at items item source.position place.1 ∙ ap (option_map (state_after items item)) source.is_its_state ∙ ap Some steps;
      is_valid = valid;
    }

-- ---- an item that is no response changes nothing

stays : (items : List Item) (item : Item) (kept : Kept) → is_response item ≡ false → state_after items item kept ≡ kept
unfolding state_after
stays items (ClientRequest number moment request target) kept is = refl
stays items (OriginRequest number moment request target cause) kept is = refl
stays items (OriginResponse number moment response) kept is = absurd (cc)
stays items (OriginFailure number moment) kept is = refl
stays items (ClientReply number moment reply) kept is = refl

pub still_source : (since : Target → ℕ) (items : List Item) (item : Item) → is_response item ≡ false → (target : Target) (stored : Stored) → HasSource since items target stored → HasSource since (item ∷ items) target stored
still_source since items item is target stored source = moved since items item target stored stored source (stays items item _ is) source.is_valid

pub still_sources : (since : Target → ℕ) (items : List Item) (item : Item) (store : Holdings) → is_response item ≡ false → HasSources since items store → HasSources since (item ∷ items) store
still_sources since items item store is h =
    record { keys = h.keys; sources = held_weaken (HasSource since items) (HasSource since (item ∷ items)) (still_source since items item is) store.entries h.sources }

-- ---- choosing

pub found_sources : (since : Target → ℕ) (items : List Item) (target : Target) (asked : List Field) (old : Holdings) (chosen : Option Stored) (new : Holdings)
    → HasSources since items old → Finds target asked old chosen new → HasSources since items new
found_sources since items target asked old chosen new h finds =
    subst (HasSources since items) (sym finds.1)
    (record { keys = distinct_choose target old.entries h.keys; sources = choose_held (HasSource since items) target old.entries h.sources })

-- ---- a response

second_false : (a b : Bool) → a ≡ true → (a && b) ≡ false → b ≡ false
second_false true b is e = e
second_false false b is e = absurd (cc)

-- what can't update is about nothing
pub identifies_none : (forward : OpenForward) (response : ResponseHead) (state : Stored) → may_update forward response ≡ false → identifies state forward.request response ≡ false
identifies_none forward response state none =
    ⊎_elim
    (λ (is : (response.status == not_modified) ≡ true).
    let other : is_get forward.request.method ≡ false = second_false (response.status == not_modified) (is_get forward.request.method) is none in
    by_method (may_freshen response) (asks_for_storable forward.request) (rw other refl))
    (λ (is : (response.status == not_modified) ≡ false). rw is refl)
    (cases_Bool (response.status == not_modified))
  where
    by_method : (may asks : Bool) → asks ≡ false → (may && asks && selects state.fields state.request.fields forward.request.fields
        && validators_agree state.fields forward.request.fields response.fields) ≡ false
    by_method true true e = absurd (cc)
    by_method true false e = refl
    by_method false asks e = refl

-- what may update answers GET, and invalidates nothing
pub get_invalidates_none : (forward : OpenForward) (response : ResponseHead) → may_update forward response ≡ true → invalidates forward.request.method response.status ≡ false
get_invalidates_none forward response may =
    let get = (and_parts (response.status == not_modified) (is_get forward.request.method) may).1 in
    subst (λ (m : List ℕ). invalidates m response.status ≡ false) (sym ((bytes_eq-Decides forward.request.method (codes "GET")).0 get)) refl

module _ (since : Target → ℕ) (items : List Item) (number moment : ℕ) (response : Message ResponseHead) (forward : OpenForward) (is_open : forward_of number items ≡ Some (recorded_forward forward)) where
  -- a response of another target
  other_stays : (kept : Kept) → same_target forward.target kept.target ≡ false → state_after items (OriginResponse number moment response) kept ≡ kept
  unfolding state_after
  other_stays kept other = rw is_open (rw other refl)

  -- one that the response is neither about nor against
  same_stays : (kept : Kept) → same_target forward.target kept.target ≡ true → identifies kept.state forward.request response.head ≡ false
      → invalidates forward.request.method response.head.status ≡ false → state_after items (OriginResponse number moment response) kept ≡ kept
  unfolding state_after
  same_stays kept same none valid = rw is_open (rw (same, none, valid) refl)

  -- what a response leaves in a store: others, or all where it changes none
  LeavesIt : Target → Stored → Type 0
  LeavesIt target stored =
      HasSource since items target stored
      × ((same_target forward.target target ≡ false) ⊎ ((invalidates forward.request.method response.head.status ≡ false) × (may_update forward response.head ≡ false)))

  left_source : (target : Target) (stored : Stored) → LeavesIt target stored → HasSource since (OriginResponse number moment response ∷ items) target stored
  unfolding LeavesIt
  left_source target stored h =
      moved since items (OriginResponse number moment response) target stored stored h.0 (steps h.1) h.0.is_valid
    where
      steps : (same_target forward.target target ≡ false) ⊎ ((invalidates forward.request.method response.head.status ≡ false) × (may_update forward response.head ≡ false))
          → state_after items (OriginResponse number moment response) (record { target = target; state = stored }) ≡ record { target = target; state = stored }
      steps (inl other) = other_stays (record { target = target; state = stored }) other
      steps (inr nothing) =
          ⊎_elim
          (λ (same : same_target forward.target target ≡ true).
          same_stays (record { target = target; state = stored }) same (identifies_none forward response.head stored nothing.1) nothing.0)
          (λ (other : same_target forward.target target ≡ false). other_stays (record { target = target; state = stored }) other)
          (cases_Bool (same_target forward.target target))

  -- taken away
  gone : (old new : Holdings) → HasSources since items old → new.entries ≡ without forward.target old.entries → HasSources since (OriginResponse number moment response ∷ items) new
  unfolding LeavesIt
  gone old new h are =
      record {
        keys = subst (λ (e : Entries). IsDistinct same_target (keys_of e)) (sym are) (distinct_without forward.target old.entries h.keys);
        sources = subst (AllHeld (HasSource since (OriginResponse number moment response ∷ items))) (sym are)
            (held_weaken _ _ (λ target stored p. left_source target stored (p.0, inl p.1)) (without forward.target old.entries)
            (without_others (HasSource since items) forward.target old.entries h.keys h.sources));
      }

  -- what a 304 to a GET makes of a stored response of the target
  freshens_one : (stored : Stored) → invalidates forward.request.method response.head.status ≡ false → (now : Stored)
      → now ≡ after_validation (validation_by forward moment (next_position items) response.head) stored → HasSource since items forward.target stored
      → HasSource since (OriginResponse number moment response ∷ items) forward.target now
  unfolding state_after
  freshens_one stored valid now is source =
      subst (HasSource since (OriginResponse number moment response ∷ items) forward.target) (sym is)
      (moved since items (OriginResponse number moment response) forward.target stored (after_validation v stored) source (steps stored valid) (stays_valid (is_validated v stored)))
    where
      v : Validation
      v = validation_by forward moment (next_position items) response.head

      stays_valid : (b : Bool) → (cond b (renewed v stored) stored).invalid ≡ false
      stays_valid true = refl
      stays_valid false = source.is_valid

      steps : (stored : Stored) → invalidates forward.request.method response.head.status ≡ false
          → state_after items (OriginResponse number moment response) (record { target = forward.target; state = stored })
          ≡ record { target = forward.target; state = after_validation v stored }
      steps stored valid = rw is_open (rw (same_target_itself forward.target) (rw valid refl))

  -- freshened: what stays is what the records make of it
  pub freshened_sources : (old new : Holdings) → HasSources since items old → may_update forward response.head ≡ true
      → Freshens (validation_by forward moment (next_position items) response.head) forward.target old new → HasSources since (OriginResponse number moment response ∷ items) new
  unfolding LeavesIt
  freshened_sources old new h may f =
      subst (HasSources since (OriginResponse number moment response ∷ items)) (sym f.becomes)
      (record {
        keys = distinct_freshen old.bytes v forward.target f.left old.entries h.keys;
        sources = freshen_held (HasSource since (OriginResponse number moment response ∷ items)) old.bytes v forward.target f.left old.entries
            (held_weaken _ _ (λ target stored p. left_source target stored (p.0, inl p.1)) (without forward.target old.entries)
            (without_others (HasSource since items) forward.target old.entries h.keys h.sources))
            (all_weaken _ (λ variant. HasSource since (OriginResponse number moment response ∷ items) forward.target (after_validation v variant))
            (λ variant p. freshens_one variant (get_invalidates_none forward response.head may) (after_validation v variant) refl p.0) f.left
            (left_held (HasSource since items forward.target) old.keeps_cookies v (variants_of forward.target old.entries) f.left (variants_held (HasSource since items) forward.target old.entries h.sources) f.leaves));
      })
    where
      v : Validation
      v = validation_by forward moment (next_position items) response.head

  pub renewed_sources : (old new : Holdings) → HasSources since items old → Renews forward moment (next_position items) response.head old new
      → HasSources since (OriginResponse number moment response ∷ items) new
  unfolding LeavesIt
  renewed_sources old new h renews =
      ⊎_elim
      (λ (p : (invalidates forward.request.method response.head.status ≡ true) × (renews.between ≡ invalidated forward.target old)). after_invalidation p.0 p.1)
      (λ (p : (invalidates forward.request.method response.head.status ≡ false) × (renews.between ≡ old)). without_invalidation p.0 p.1)
      (on_test (invalidates forward.request.method response.head.status) _ _ renews.invalidates)
    where
      v : Validation
      v = validation_by forward moment (next_position items) response.head

      after_invalidation : invalidates forward.request.method response.head.status ≡ true → renews.between ≡ invalidated forward.target old
          → HasSources since (OriginResponse number moment response ∷ items) new
      after_invalidation unsafe is =
          let k = gone old renews.between h (ap (λ (s : Holdings). s.entries) is) in
          ⊎_elim
          (λ (p : (may_update forward response.head ≡ true) × Freshens v forward.target renews.between new).
          absurd (true_false (sym unsafe ∙ get_invalidates_none forward response.head p.0)))
          (λ (p : (may_update forward response.head ≡ false) × (new ≡ renews.between)). subst (HasSources since (OriginResponse number moment response ∷ items)) (sym p.1) k)
          (on_test (may_update forward response.head) _ _ renews.updates)
        where
          true_false : true ≡ false → ⊥
          true_false e = cc

      without_invalidation : invalidates forward.request.method response.head.status ≡ false → renews.between ≡ old → HasSources since (OriginResponse number moment response ∷ items) new
      without_invalidation valid is =
          ⊎_elim
          (λ (p : (may_update forward response.head ≡ true) × Freshens v forward.target renews.between new).
          freshened_sources old new h p.0 (subst (λ (s : Holdings). Freshens v forward.target s new) is p.1))
          (λ (p : (may_update forward response.head ≡ false) × (new ≡ renews.between)).
          subst (HasSources since (OriginResponse number moment response ∷ items)) (sym (p.1 ∙ is))
          (record { keys = h.keys; sources = held_weaken _ _ (λ target stored s. left_source target stored (s, inr (valid, p.0))) old.entries h.sources }))
          (on_test (may_update forward response.head) _ _ renews.updates)

  -- what it begins, where it may be stored
  pub begun_source : since forward.target < next_position items → may_store forward.request response.head ≡ true
      → HasSource since (OriginResponse number moment response ∷ items) forward.target (initial_state forward.request forward.moment response moment)
  begun_source behind may = record {
    position = next_position items;
    is_later = behind;
    is_its_state = rw (eq-eqb (length items + 1) (length items + 1) refl) (rw is_open (rw may refl));
    is_valid = refl;
  }

  pub put_sources : since forward.target < next_position items → (old new : Holdings) (stored : Bool) → HasSources since (OriginResponse number moment response ∷ items) old → Stores forward moment response old stored new
      → HasSources since (OriginResponse number moment response ∷ items) new
  put_sources behind old new stored h stores =
      ⊎_elim
      (λ (p : (may_store forward.request response.head ≡ true) × PutsResponse forward moment response old stored new). by_answer p.0 p.1.answer p.1.puts)
      (λ (p : (may_store forward.request response.head ≡ false) × ((stored ≡ false) × (new ≡ old))). subst (HasSources since (OriginResponse number moment response ∷ items)) (sym p.1.1) h)
      (on_test (may_store forward.request response.head) _ _ stores)
    where
      by_answer : may_store forward.request response.head ≡ true → (answer : Put) → Puts forward.target (initial_state forward.request forward.moment response moment) old answer new
          → HasSources since (OriginResponse number moment response ∷ items) new
      by_answer may put.Stored p =
          subst (HasSources since (OriginResponse number moment response ∷ items)) (sym p.1)
          (record {
            keys = distinct_put old.keys old.bytes forward.target _ old.entries h.keys;
            sources = put_held (HasSource since (OriginResponse number moment response ∷ items)) old.keys old.bytes forward.target _ old.entries h.sources (begun_source behind may);
          })
      by_answer may put.SetsCookie p = subst (HasSources since (OriginResponse number moment response ∷ items)) (sym p.1) h
      by_answer may put.TooLarge p = subst (HasSources since (OriginResponse number moment response ∷ items)) (sym p.2) h
      by_answer may put.NoMemory p = subst (HasSources since (OriginResponse number moment response ∷ items)) (sym p.2) h
