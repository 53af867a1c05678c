-- A store that keeps no responses that set a cookie never holds one, and no reply from what it holds sets one.
use Rattle.std.proofs.Common.{◌≡◌, ℕ, Bool, true, false, cond, not, ◌||◌, List, [], ◌∷◌, Option, Some, None, refl, sym, ap, ◌∙◌, subst, ⊎_elim}
use Rattle.std.specs.Prelude.{codes}
use Rattle.std.proofs.lemmas.Bool.{and_parts}
use Rattle.hc_fields.specs.declared.fields.Field.{Field}
use Rattle.hc_fields.specs.Values.{values_of}
use Rattle.hc_fields.proofs.UpdateLemmas.{values_absent}
use Rattle.hc_head.specs.declared.head.ResponseHead.{ResponseHead}
use Rattle.hc_head.specs.declared.head.Target.{Target}
use Rattle.hc_head.specs.Methods.{is_head}
use Rattle.hc_framing.specs.declared.message.Message.{Message}
use Rattle.hc_rules.specs.Storing.{may_store}
use Rattle.hc_update.specs.declared.stored.Stored.{Stored}
use Rattle.hc_update.specs.Sizes.{fits}
use Rattle.hc_update.specs.States.{initial_state, invalidates}
use Rattle.hc_status.specs.declared.cache_status.Handling.{Handling}
use Rattle.hc_replies.specs.Replies.{not_modified_reply, stored_reply}
use Rattle.hc_replies.proofs.ReplyLemmas.{no_other_values, stored_values}
use Rattle.hc_store.specs.declared.putting.Put.{Put}
use Rattle.hc_store.specs.declared.putting.Put.TheVariants as put
use Rattle.hc_store.specs.Entries.{Holdings, may_hold, sets_cookie, variants_of}
use Rattle.hc_store.specs.Changes.{Validation, after_validation, is_validated, may_become, may_stay, renewed}
use Rattle.hc_store.specs.Calls.{Freshens, Puts, invalidated, is_small_enough}
use Rattle.hc_store.proofs.HeldLemmas.{all_weaken, choose_held, freshen_held, left_held, put_held, variants_held, without_held}
use Rattle.hc_service.specs.declared.event.Event.{Event}
use Rattle.hc_service.specs.declared.action.Action.{Action}
use Rattle.hc_service.specs.declared.cases.Cause.{Cause}
use Rattle.hc_service.specs.declared.open.OpenForward.{OpenForward}
use Rattle.hc_service.specs.declared.open.Purpose.{Purpose}
use Rattle.hc_service.specs.declared.open.Purpose.TheVariants as purpose
use Rattle.hc_service.specs.declared.settings.CoreOptions.{CoreOptions}
use Rattle.hc_service.specs.declared.settings.CoreSettings.{CoreSettings}
use Rattle.hc_service.specs.Answers.{Answer, Fails, FailsByStore, Outcome, Passes, Renews, RepliesInPlace, Responds, Rule, StoresBehind, is_news, replacement}
use Rattle.hc_service.specs.Answers.Rule.{IsPassedOn, IsUnasked, MayBeReplaced, Validates}
use Rattle.hc_service.specs.Cases.{asks_store, case_before_store}
use Rattle.hc_service.specs.Choices.{Finds, PutsResponse, Stores, may_update, validation_by}
use Rattle.hc_service.specs.Laws.{HoldsNoCookie}
use Rattle.hc_service.specs.Reactions.{Reaction, ReactsBy, ReactsJoined, WholeRequest, would_wait}
use Rattle.hc_service.specs.Replying.{Wanted, entry_reply}
use Rattle.hc_service.specs.Runs.{StepResult, Steps}
use Rattle.hc_service.specs.Serving.{has_still}
use Rattle.hc_service.specs.Serves.{Run, Serves, Takes, Turn, passed_to}
use Rattle.hc_service.specs.Serves.Turn.{Answering, Asking, ClientSending, Closing, Dropping, Failing, Leaving, Opening, OriginSending, Refusal, Releasing, Stopping}
use Rattle.hc_service.specs.State.{OpenNow, State, new_state_with, open_now}
use Rattle.hc_service.specs.Turns.{EndsByFailure, EndsByResponse, answered_now, failed_now, whole_request}
use Rattle.hc_service.proofs.LeftLemmas.{steps_keep}
use Rattle.hc_service.proofs.SourceLemmas.{on_test}

-- ---- calls of the store

-- what a store may hold that keeps none sets none
no_cookie : (keeps : Bool) (stored : Stored) → keeps ≡ false → may_hold keeps stored ≡ true → sets_cookie stored ≡ false
no_cookie keeps stored none may = go (sets_cookie stored) (sym (ap (λ (b : Bool). b || not (sets_cookie stored)) none) ∙ may)
  where
    go : (b : Bool) → not b ≡ true → b ≡ false
    go true is = absurd (cc)
    go false is = refl

abbrev SetsNone : Target → Stored → Type 0
SetsNone target stored = sets_cookie stored ≡ false

same_none : (old new : Holdings) → new ≡ old → HoldsNoCookie old → HoldsNoCookie new
same_none old new same h = subst HoldsNoCookie (sym same) h

found_none : (target : Target) (asked : List Field) (old : Holdings) (chosen : Option Stored) (new : Holdings) → Finds target asked old chosen new
    → HoldsNoCookie old → HoldsNoCookie new
found_none target asked old chosen new finds h =
    same_none _ new finds.1 (record { keeps_none = h.keeps_none; holds_none = choose_held SetsNone target old.entries h.holds_none })

invalidated_none : (target : Target) (old new : Holdings) → new ≡ invalidated target old → HoldsNoCookie old → HoldsNoCookie new
invalidated_none target old new is h =
    same_none _ new is (record { keeps_none = h.keeps_none; holds_none = without_held SetsNone target old.entries h.holds_none })

stays_none : (keeps : Bool) (v : Validation) (variant : Stored) → keeps ≡ false → (sets_cookie variant ≡ false) × (may_stay keeps v variant ≡ true)
    → sets_cookie (after_validation v variant) ≡ false
stays_none keeps v variant none is = go (is_validated v variant) is.1
  where
    go : (b : Bool) → (not b || may_become keeps (renewed v variant)) ≡ true → sets_cookie (cond b (renewed v variant) variant) ≡ false
    go true stays = no_cookie keeps (renewed v variant) none (and_parts (fits (renewed v variant)) (may_hold keeps (renewed v variant)) stays).1
    go false stays = is.0

freshened_none : (v : Validation) (target : Target) (old new : Holdings) → Freshens v target old new → HoldsNoCookie old → HoldsNoCookie new
freshened_none v target old new f h = same_none _ new f.becomes (record {
  keeps_none = h.keeps_none;
  holds_none = freshen_held SetsNone old.bytes v target f.left old.entries (without_held SetsNone target old.entries h.holds_none)
      (all_weaken (λ variant. (sets_cookie variant ≡ false) × (may_stay old.keeps_cookies v variant ≡ true)) (λ variant. sets_cookie (after_validation v variant) ≡ false)
      (λ variant is. stays_none old.keeps_cookies v variant h.keeps_none is) f.left
      (left_held (λ variant. sets_cookie variant ≡ false) old.keeps_cookies v (variants_of target old.entries) f.left
      (variants_held SetsNone target old.entries h.holds_none) f.leaves));
})

stores_none : (forward : OpenForward) (moment : ℕ) (response : Message ResponseHead) (old : Holdings) (stored : Bool) (new : Holdings) → Stores forward moment response old stored new
    → HoldsNoCookie old → HoldsNoCookie new
stores_none forward moment response old stored new stores h =
    ⊎_elim
    (λ (p : (may_store forward.request response.head ≡ true) × PutsResponse forward moment response old stored new). by_answer p.1.answer p.1.puts)
    (λ (p : (may_store forward.request response.head ≡ false) × ((stored ≡ false) × (new ≡ old))). same_none old new p.1.1 h)
    (on_test (may_store forward.request response.head) _ _ stores)
  where
    by_answer : (answer : Put) → Puts forward.target (initial_state forward.request forward.moment response moment) old answer new → HoldsNoCookie new
    by_answer put.Stored p = same_none _ new p.1 (record {
      keeps_none = h.keeps_none;
      holds_none = put_held SetsNone old.keys old.bytes forward.target (initial_state forward.request forward.moment response moment) old.entries h.holds_none
          (no_cookie old.keeps_cookies (initial_state forward.request forward.moment response moment) h.keeps_none
          (and_parts (may_hold old.keeps_cookies (initial_state forward.request forward.moment response moment))
          (is_small_enough (initial_state forward.request forward.moment response moment) old) p.0).0);
    })
    by_answer put.SetsCookie p = same_none old new p.1 h
    by_answer put.TooLarge p = same_none old new p.2 h
    by_answer put.NoMemory p = same_none old new p.2 h

-- ---- what is done with a response, and with a failure

renewed_none : (forward : OpenForward) (moment position : ℕ) (response : ResponseHead) (old new : Holdings) → Renews forward moment position response old new
    → HoldsNoCookie old → HoldsNoCookie new
renewed_none forward moment position response old new renews h =
    ⊎_elim
    (λ (p : (may_update forward response ≡ true) × Freshens (validation_by forward moment position response) forward.target renews.between new).
    freshened_none (validation_by forward moment position response) forward.target renews.between new p.1 between)
    (λ (p : (may_update forward response ≡ false) × (new ≡ renews.between)). same_none renews.between new p.1 between)
    (on_test (may_update forward response) _ _ renews.updates)
  where
    between : HoldsNoCookie renews.between
    between =
        ⊎_elim
        (λ (p : (invalidates forward.request.method response.status ≡ true) × (renews.between ≡ invalidated forward.target old)).
        invalidated_none forward.target old renews.between p.1 h)
        (λ (p : (invalidates forward.request.method response.status ≡ false) × (renews.between ≡ old)). same_none old renews.between p.1 h)
        (on_test (invalidates forward.request.method response.status) _ _ renews.invalidates)

behind_none : (forward : OpenForward) (moment : ℕ) (response : Message ResponseHead) (old new : Holdings) → StoresBehind forward moment response old new
    → HoldsNoCookie old → HoldsNoCookie new
behind_none forward moment response old new stores h =
    ⊎_elim
    (λ (p : (is_news response.head ≡ true) × ((stored : Bool) × Stores forward moment response old stored new)).
    stores_none forward moment response old p.1.0 new p.1.1 h)
    (λ (p : (is_news response.head ≡ false) × (new ≡ old)). same_none old new p.1 h)
    (on_test (is_news response.head) _ _ stores)

passes_none : (answer : Answer) (old : Holdings) (outcome : Outcome) (new : Holdings) → Passes answer old outcome new → HoldsNoCookie old → HoldsNoCookie new
passes_none answer old outcome new passes h =
    ⊎_elim
    (λ (p : (asks_store answer.cause ≡ true) × Stores answer.forward answer.wanted.moment answer.response old passes.stored new).
    stores_none answer.forward answer.wanted.moment answer.response old passes.stored new p.1 h)
    (λ (p : (asks_store answer.cause ≡ false) × ((passes.stored ≡ false) × (new ≡ old))). same_none old new p.1.1 h)
    (on_test (asks_store answer.cause) _ _ passes.puts)

in_place_none : (o : Option Stored) (answer : Answer) (old : Holdings) (outcome : Outcome) (new : Holdings) → RepliesInPlace o answer old outcome new
    → HoldsNoCookie old → HoldsNoCookie new
in_place_none (Some stored) answer old outcome new r h = same_none old new r.1 h
in_place_none None answer old outcome new r h = passes_none answer old outcome new r h

responds_none : (rule : Rule) (answer : Answer) (position : ℕ) (old : Holdings) (outcome : Outcome) (new : Holdings) → Responds rule answer position old outcome new
    → HoldsNoCookie old → HoldsNoCookie new
responds_none Validates answer position old outcome new r h = same_none old new r.1 h
responds_none IsUnasked answer position old outcome new r h = same_none old new r.1 h
responds_none MayBeReplaced answer position old outcome new r h =
    in_place_none (replacement answer.wanted r.chosen) answer r.between outcome new r.ends
    (found_none answer.forward.target answer.wanted.asked.fields old r.chosen r.between r.finds h)
responds_none IsPassedOn answer position old outcome new r h = passes_none answer old outcome new r h

fails_none : (wanted : Wanted) (target : Target) (cause : Cause) (old : Holdings) (outcome : Outcome) (new : Holdings) → Fails wanted target cause old outcome new
    → HoldsNoCookie old → HoldsNoCookie new
fails_none wanted target cause old outcome new fails h =
    ⊎_elim
    (λ (p : (asks_store cause ≡ true) × FailsByStore wanted target cause old outcome new). found_none target wanted.asked.fields old p.1.chosen new p.1.finds h)
    (λ p. same_none old new p.1.1 h)
    (on_test (asks_store cause) _ _ fails)

-- ---- what a request gets

joined_none : (o : Option ℕ) (whole : WholeRequest) (underway : OpenNow) (old : Holdings) (reaction : Reaction) (new : Holdings)
    → ReactsJoined o whole underway.forwards old reaction new → HoldsNoCookie old → HoldsNoCookie new
joined_none (Some f) whole underway old reaction new r h = same_none old new r.1 h
joined_none None whole underway old reaction new r h = found_none whole.target whole.request.head.fields old r.chosen new r.finds h

reacts_none : (o : Option Cause) (whole : WholeRequest) (underway : OpenNow) (old : Holdings) (reaction : Reaction) (new : Holdings)
    → ReactsBy o whole underway old reaction new → HoldsNoCookie old → HoldsNoCookie new
reacts_none (Some why) whole underway old reaction new r h = same_none old new r.1 h
reacts_none None whole underway old reaction new r h = joined_none (cond (would_wait whole old) r.least None) whole underway old reaction new r.reacts h

-- ---- turns

turn_none : (settings : CoreSettings) (turn : Turn) (s : State) (actions : List Action) (s' : State) → Takes settings turn s actions s'
    → HoldsNoCookie s.store → HoldsNoCookie s'.store
turn_none settings (Opening c) s actions s' t h = same_none s.store s'.store t.store h
turn_none settings (ClientSending c octets) s actions s' t h = same_none s.store s'.store t.keeps.store h
turn_none settings (Asking c) s actions s' t h =
    let whole = whole_request settings s t.request t.target t.connection in
    reacts_none (case_before_store whole.request) whole (open_now s) s.store t.reaction s'.store t.reacts h
turn_none settings (Refusal c status) s actions s' t h = same_none s.store s'.store t.keeps.store h
turn_none settings (Dropping c) s actions s' t h = same_none s.store s'.store t.keeps.store h
turn_none settings (Leaving c) s actions s' t h = same_none s.store s'.store t.keeps.store h
turn_none settings (Closing c) s actions s' t h = same_none s.store s'.store t.keeps.store h
turn_none settings (OriginSending f octets) s actions s' t h = same_none s.store s'.store t.keeps.store h
turn_none settings (Answering f ended) s actions s' t h = by_purpose t.awaited.forward.purpose t.ends
  where
    between : HoldsNoCookie t.renewed
    between = renewed_none t.awaited.forward s.numbers.moment _ t.response.head s.store t.renewed t.renews h

    by_purpose : (p : Purpose) → EndsByResponse p settings (answered_now f t.awaited.forward t.response t.renewed s) s actions s' → HoldsNoCookie s'.store
    by_purpose purpose.Background d = behind_none t.awaited.forward s.numbers.moment t.response t.renewed s'.store d.0 between
    by_purpose (purpose.Reply e why kind) d = responds_none _ _ _ t.renewed d.outcome s'.store d.decided between
turn_none settings (Failing f how) s actions s' t h = by_purpose t.awaited.forward.purpose t.ends
  where
    by_purpose : (p : Purpose) → EndsByFailure p settings (failed_now f t.awaited.forward.target how s) s actions s' → HoldsNoCookie s'.store
    by_purpose purpose.Background d = same_none s.store s'.store d.0 h
    by_purpose (purpose.Reply e why kind) d = fails_none _ t.awaited.forward.target why s.store d.outcome s'.store d.decided h
turn_none settings (Releasing k) s actions s' t h = found_none t.exchange.target t.exchange.request.fields s.store t.chosen s'.store t.finds h
turn_none settings Stopping s actions s' t h = same_none s.store s'.store t.keeps.store h

run_none : (settings : CoreSettings) (turns : List Turn) (s : State) (actions : List Action) (s' : State) → Run settings turns s actions s'
    → HoldsNoCookie s.store → HoldsNoCookie s'.store
run_none settings [] s actions s' r h = subst (λ (t : State). HoldsNoCookie t.store) (sym r.1) h
run_none settings (turn ∷ turns) s actions s' r h = run_none settings turns r.0 r.2 s' r.5 (turn_none settings turn s r.1 r.0 r.3 h)

pub event_none : (settings : CoreSettings) (event : Event) (s : State) (actions : List Action) (s' : State) → HoldsNoCookie s.store → Serves settings event s actions s'
    → HoldsNoCookie s'.store
event_none settings event s actions s' h v = run_none settings v.turns (passed_to event.moment s) actions s' v.run h

pub steps_none : (settings : CoreSettings) (options : CoreOptions) (events : List Event) (results : List StepResult) (s : State) → options.keeps_cookies ≡ false
    → Steps settings (new_state_with settings options) events results (Some s) → HoldsNoCookie s.store
steps_none settings options events results s none steps =
    steps_keep settings (λ t. HoldsNoCookie t.store) (event_none settings) events results (new_state_with settings options) s steps
    (record { keeps_none = none; holds_none = tt })

-- ---- replies

pub entry_sets_none : (wanted : Wanted) (handling : Handling) (stored : Stored) → sets_cookie stored ≡ false
    → values_of (codes "set-cookie") (entry_reply wanted handling stored).head.fields ≡ []
entry_sets_none wanted handling stored none = go (has_still wanted.asked.fields stored)
  where
    go : (b : Bool) → values_of (codes "set-cookie")
        (cond b (not_modified_reply wanted.name handling wanted.closes wanted.moment stored)
        (stored_reply wanted.name handling wanted.closes wanted.moment (is_head wanted.asked.method) stored)).head.fields ≡ []
    go true = no_other_values (codes "set-cookie") wanted.name handling wanted.closes wanted.moment stored refl refl
    go false =
        stored_values (codes "set-cookie") wanted.name handling wanted.closes wanted.moment (is_head wanted.asked.method) stored refl
        ∙ values_absent (codes "set-cookie") stored.fields none
