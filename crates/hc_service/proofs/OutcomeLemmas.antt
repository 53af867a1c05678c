-- What a request gets, at once or by its forward, is a right reply or a forward.
use Rattle.std.proofs.Common.{◌≡◌, ℕ, ◌+◌, ◌≤◌, ◌<◌, Bool, true, false, cond, ◌&&◌, ◌||◌, List, [], ◌∷◌, length, Option, Some, None, refl, sym, ap, ◌∙◌, subst, arith, inl, inr, ⊎_elim}
use Rattle.std.specs.Prelude.{◌⊎◌, ◌==◌, not, codes, if◌then◌else◌}
use Rattle.std.proofs.lemmas.Bool.{cases_Bool, eq-eqb, or_left, and_parts}
use Rattle.std.proofs.lemmas.Slice.Eq.{bytes_eq-Decides}
use Rattle.hc_fields.specs.declared.fields.Field.{Field}
use Rattle.hc_head.specs.declared.head.RequestHead.{RequestHead}
use Rattle.hc_head.specs.declared.head.ResponseHead.{ResponseHead}
use Rattle.hc_head.specs.declared.head.Target.{Target}
use Rattle.hc_head.specs.Methods.{is_get, is_head}
use Rattle.hc_framing.specs.declared.message.Message.{Message}
use Rattle.hc_fresh.specs.Lifetimes.{says, stale_forbidden}
use Rattle.hc_head.specs.Statuses.{not_modified}
use Rattle.hc_rules.specs.Storing.{may_store, asks_for_storable, is_storable, is_understood_if_asked, no_store_permits, is_not_private, has_authorization, permits_authorized, invites_storing}
use Rattle.hc_update.specs.declared.stored.Stored.{Stored}
use Rattle.hc_transcript.specs.Items.{Item, ClientRequest, OriginResponse, OriginFailure, ClientReply, Exchange}
use Rattle.hc_rules.specs.Forwards.{conditional_request}
use Rattle.hc_rules.specs.Validators.{has_validator}
use Rattle.hc_transcript.specs.History.{next_position, exchange_of, forward_of, cause_of}
use Rattle.hc_transcript.specs.Written.{IsWritableAsk}
use Rattle.hc_head.specs.Statuses.{is_error_status}
use Rattle.hc_history.specs.Right.{IsRight}
use Rattle.hc_store.specs.Entries.{Holdings, knows}
use Rattle.hc_store.specs.Choosing.{is_selected}
use Rattle.hc_service.specs.declared.cases.Cause.{Cause}
use Rattle.hc_service.specs.declared.cases.Cause.TheVariants.{Method, Bypass, NoStore, UriMiss, VaryMiss, Stale, Request}
use Rattle.hc_service.specs.declared.open.ForwardKind.{ForwardKind}
use Rattle.hc_service.specs.declared.open.ForwardKind.TheVariants.{Conditional, Joinable, Plain}
use Rattle.hc_service.specs.declared.open.OpenForward.{OpenForward}
use Rattle.hc_service.specs.Sending.{recorded_format}
use Rattle.hc_service.specs.Settings.{is_name}
use Rattle.hc_service.specs.Asking.{is_answered_by_store}
use Rattle.hc_service.specs.Cases.Case.{Hit, Forward}
use Rattle.hc_service.specs.Cases.{asks_store, is_of_stored, case_before_store, case_by_store, has_other_method, asks_origin, forbids_storing, cause_of_stored}
use Rattle.hc_service.specs.Serving.{is_fresh, may_be_served, may_replace}
use Rattle.hc_service.specs.State.{Table, Awaited, OpenNow, is_conditional}
use Rattle.hc_service.specs.Joining.{is_joinable, is_of_miss, plain_kind}
use Rattle.hc_service.specs.Replying.{Wanted, made_reply, hit_reply, replacing_reply, passed_reply, failure_status, bad_gateway, gateway_timeout}
use Rattle.hc_service.specs.Choices.{OnTest, Finds, validated_by, PutsResponse, Stores}
use Rattle.hc_service.specs.Reactions.{Reaction, Reacts, ReactsBy, ReactsByStore, ReactsJoined, bare, is_validated_behind, validation_behind, hit_reaction, wants_no_forward, plain_forward, stored_forward, forward_reaction, chosen_reaction}
use Rattle.hc_service.specs.Reactions.Reaction.{Replies as RepliesAtOnce, Sends, Waits}
use Rattle.hc_service.specs.Answers.Rule.{Validates, IsUnasked, MayBeReplaced, IsPassedOn}
use Rattle.hc_service.specs.Answers.{Answer, Outcome, Responds, Passes, Replaces, RepliesInPlace, FailsByStore, Fails, is_validation, validated_outcome, is_unasked, is_replaceable, failed_outcome, replacement, rule_of}
use Rattle.hc_service.specs.Answers.Outcome.{Replies, GoesAnew}
use Rattle.hc_service.specs.Agreement.{HasSource, CanReply, AsksAfter}
use Rattle.hc_service.specs.Runs.{strict}
use Rattle.hc_service.specs.Laws.{HasSources, IsReceivedAnswer, IsReceivedAsk, is_response, recorded_forward}
use Rattle.hc_service.specs.LowerLaws.{ForwardLaws}
use Rattle.hc_store.proofs.HeldLemmas.{chosen_held, validated_held}
use Rattle.hc_service.proofs.SourceLemmas.{on_test, found_sources, still_sources, still_source, put_sources}
use Rattle.hc_service.proofs.EntryLemmas.{all_can_reply, found_can_reply, put_can_reply, IsFit, hit_fit, replacing_fit, passed_fit, made_fit}
use Rattle.hc_service.proofs.NameLemmas.{cache_name, hit_writable, forward_writable}
use Rattle.hc_service.proofs.RightLemmas.{hit_right}
use Rattle.hc_service.proofs.PassedLemmas.{exchange_place, passed_right, made_right}
use Rattle.hc_service.proofs.ReplacingLemmas.{error_is_small, validated_right, error_right, failure_right}

-- all that a store holds is sound
abbrev pub SoundStore : (Target → ℕ) → List Item → Holdings → Type 0
SoundStore since items store = HasSources since items store × all_can_reply store

pub still_sound : (since : Target → ℕ) (items : List Item) (item : Item) (store : Holdings) → is_response item ≡ false → SoundStore since items store → SoundStore since (item ∷ items) store
still_sound since items item store is h = (still_sources since items item store is h.0, h.1)

pub found_sound : (since : Target → ℕ) (items : List Item) (target : Target) (asked : List Field) (old : Holdings) (chosen : Option Stored) (new : Holdings) → SoundStore since items old → Finds target asked old chosen new → SoundStore since items new
found_sound since items target asked old chosen new h finds = (found_sources since items target asked old chosen new h.0 finds, found_can_reply target asked old chosen new h.1 finds)

-- ---- a whole request

-- no case before the store lets what answers be stored
before_store : (request : Message RequestHead) (why : Cause) → case_before_store request ≡ Some why → asks_store why ≡ false
before_store request why is = go (has_other_method request) (asks_origin request) (forbids_storing request) is
  where
    go : (a b c : Bool) → (if a then Some Method else if b then Some Bypass else if c then Some NoStore else None) ≡ Some why → asks_store why ≡ false
    go true b c e = let same : Method ≡ why = cc in subst (λ (w : Cause). asks_store w ≡ false) same refl
    go false true c e = let same : Bypass ≡ why = cc in subst (λ (w : Cause). asks_store w ≡ false) same refl
    go false false true e = let same : NoStore ≡ why = cc in subst (λ (w : Cause). asks_store w ≡ false) same refl
    go false false false e = absurd (cc)

by_store_method : (request : Message RequestHead) → case_before_store request ≡ None → is_answered_by_store request.head.method ≡ true
by_store_method request is = go (is_answered_by_store request.head.method) (asks_origin request) (forbids_storing request) is
  where
    go : (a b c : Bool) → (if not a then Some Method else if b then Some Bypass else if c then Some NoStore else None) ≡ None → a ≡ true
    go true b c e = refl
    go false b c e = absurd (cc)

-- no method that the store answers is that of `*`
not_options : (method : List ℕ) → is_answered_by_store method ≡ true → method ≡ codes "OPTIONS" → ⊥
not_options method is same = false_true (sym (ap is_answered_by_store same) ∙ is)
  where
    false_true : false ≡ true → ⊥
    false_true e = cc

module _ (since : Target → ℕ) (laws : ForwardLaws) (name : List ℕ) (good : is_name name ≡ true) (t : ℕ) (early : t < 253402300800) (closes : Bool) (items : List Item) (e : ℕ) (request : Message RequestHead) (target : Target)
    (ask : IsReceivedAsk request target) where
  abbrev wanted : Wanted
  wanted = record { name = name; moment = t; asked = request.head; closes = closes }

  abbrev the_items : List Item
  the_items = ClientRequest e t request target ∷ items

  abbrev the_exchange : Exchange
  the_exchange = record { number = e; position = length items + 1; request = request.head; target = target }

  it_awaits : exchange_of e (ClientRequest e t request target ∷ items) ≡ Some (record { number = e; position = length items + 1; request = request.head; target = target })
  it_awaits = rw (eq-eqb e e refl) refl

  -- it gets a right reply at once, behind which what is stored may be validated, or goes to the origin
  pub record GetsReply (reaction : Reaction) : Type 0 where
    pub reply : Message ResponseHead
    pub reaction_is : reaction ≡ RepliesAtOnce reply None
    pub fit : IsFit (is_head request.head.method) reply
    pub right : IsRight recorded_format strict (ClientRequest e t request target ∷ items) (ClientReply e t reply)

  pub record GetsBehind (reaction : Reaction) : Type 0 where
    pub reply : Message ResponseHead
    pub validation : Message RequestHead
    pub reaction_is : reaction ≡ RepliesAtOnce reply (Some validation)
    pub fit : IsFit (is_head request.head.method) reply
    pub right : IsRight recorded_format strict (ClientRequest e t request target ∷ items) (ClientReply e t reply)
    pub get : validation.head.method ≡ codes "GET"
    pub writable : IsWritableAsk validation target

  pub record GetsForward (reaction : Reaction) : Type 0 where
    pub why : Cause
    pub forward : Message RequestHead
    pub kind : ForwardKind
    pub reaction_is : reaction ≡ Sends forward why kind
    pub method : forward.head.method ≡ request.head.method
    pub by_store : asks_store why ≡ true → is_answered_by_store request.head.method ≡ true
    pub asks_after : (c : ℕ) → is_conditional kind ≡ true → AsksAfter (record { connection = c; request = request.head; target = target; waits_for = None }) why forward.head
    pub writable : IsWritableAsk forward target

  -- it waits for the forward of another request, and nothing changes of what is stored
  pub record GetsJoined (old new : Holdings) (reaction : Reaction) : Type 0 where
    pub forward : ℕ
    pub reaction_is : reaction ≡ Waits forward
    pub may : is_joinable request.head ≡ true
    pub unknown : knows target old.entries ≡ false
    pub same : new ≡ old

  made_at_once : (reaction : Reaction) → reaction ≡ RepliesAtOnce (made_reply (record { name = name; moment = t; asked = request.head; closes = closes }) gateway_timeout) None → GetsReply reaction
  made_at_once reaction is = record {
    reply = made_reply wanted gateway_timeout;
    reaction_is = is;
    fit = made_fit wanted (is_head request.head.method) gateway_timeout (omega arith) (omega arith) early;
    right = made_right the_items the_exchange wanted gateway_timeout it_awaits (omega arith);
  }

  -- what was chosen, where something was, can be asked after
  abbrev CanAskAfter : Option Stored → Cause → Type 0
  CanAskAfter None why = Unit {0}
  CanAskAfter (Some stored) why = CanReply stored × (is_of_stored why ≡ true) × (is_answered_by_store request.head.method ≡ true)

  plain_ask : IsWritableAsk (plain_forward (record { name = name; moment = t; asked = request.head; closes = closes }) target request) target
  plain_ask = record {
    readable = record { head = laws.writable name target request.head (cache_name name good) ask.forwardable; short = ask.readable.short };
    target_is = laws.keeps_target name target request.head ask.forwardable.has_target;
  }

  conditional_ask : (stored : Stored) → CanReply stored → is_answered_by_store request.head.method ≡ true → IsWritableAsk (bare (conditional_request name target request.head stored.fields)) target
  conditional_ask stored can method = record {
    readable = record { head = laws.conditional_writable name target request.head stored.fields (cache_name name good) ask.forwardable can.lines.plain; short = omega arith };
    target_is = laws.conditional_keeps name target request.head stored.fields ask.forwardable.has_target (not_options request.head.method method);
  }

  plain_asks_nothing : (why : Cause) → is_conditional (plain_kind why request.head) ≡ false
  plain_asks_nothing why = by (is_of_miss why && is_joinable request.head)
    where
      by : (b : Bool) → is_conditional (cond b Joinable Plain) ≡ false
      by true = refl
      by false = refl

  sends_plain : (why : Cause) (kind : ForwardKind) → is_conditional kind ≡ false → (asks_store why ≡ true → is_answered_by_store request.head.method ≡ true)
      → GetsForward (Sends (plain_forward (record { name = name; moment = t; asked = request.head; closes = closes }) target request) why kind)
  sends_plain why kind plain by_store = record {
    why = why;
    forward = plain_forward wanted target request;
    kind = kind;
    reaction_is = refl;
    method = refl;
    by_store = by_store;
    asks_after = λ c is. absurd (false_true (sym plain ∙ is));
    writable = plain_ask;
  }
    where
      false_true : false ≡ true → ⊥
      false_true e = cc

  sends : (chosen : Option Stored) (why : Cause) → (asks_store why ≡ true → is_answered_by_store request.head.method ≡ true) → CanAskAfter chosen why
      → GetsForward (stored_forward (record { name = name; moment = t; asked = request.head; closes = closes }) target request why chosen)
  sends None why by_store can = sends_plain why (plain_kind why request.head) (plain_asks_nothing why) by_store
  sends (Some stored) why by_store can = go (is_get request.head.method && has_validator stored.fields) refl
    where
      go : (b : Bool) → (is_get request.head.method && has_validator stored.fields) ≡ b
          → GetsForward (cond b (Sends (bare (conditional_request name target request.head stored.fields)) why Conditional) (Sends (plain_forward wanted target request) why Plain))
      go true is =
          let parts = and_parts (is_get request.head.method) (has_validator stored.fields) is in
          let get : request.head.method ≡ codes "GET" = (bytes_eq-Decides request.head.method (codes "GET")).0 parts.0 in
          record {
            why = why;
            forward = bare (conditional_request name target request.head stored.fields);
            kind = Conditional;
            reaction_is = refl;
            method = sym get;
            by_store = by_store;
            asks_after = λ c is. record { method = get; reason = can.1; name = name; stored = stored.fields; validator = parts.1; request_is = refl };
            writable = conditional_ask stored can.0 can.2;
          }
      go false is = sends_plain why Plain refl by_store

  forwarded : (chosen : Option Stored) (why : Cause) (reaction : Reaction) → (asks_store why ≡ true → is_answered_by_store request.head.method ≡ true) → CanAskAfter chosen why
      → reaction ≡ forward_reaction (record { name = name; moment = t; asked = request.head; closes = closes }) target request chosen why
      → GetsReply reaction ⊎ (GetsBehind reaction ⊎ GetsForward reaction)
  forwarded chosen why reaction by_store can is =
      ⊎_elim
      (λ (none : wants_no_forward why request.head ≡ true). inl (made_at_once reaction (is ∙ ap (λ (b : Bool). cond b (RepliesAtOnce (made_reply wanted gateway_timeout) None) (stored_forward wanted target request why chosen)) none)))
      (λ (some : wants_no_forward why request.head ≡ false). inr (inr (subst GetsForward
      (sym (is ∙ ap (λ (b : Bool). cond b (RepliesAtOnce (made_reply wanted gateway_timeout) None) (stored_forward wanted target request why chosen)) some))
      (sends chosen why by_store can))))
      (cases_Bool (wants_no_forward why request.head))

  -- a hit
  hits : (forwards : Table Awaited) (stored : Stored) (reaction : Reaction) → HasSource since items target stored → CanReply stored → is_answered_by_store request.head.method ≡ true
      → is_selected request.head.fields stored ≡ true → may_be_served request.head.fields stored t ≡ true
      → reaction ≡ hit_reaction (record { name = name; moment = t; asked = request.head; closes = closes }) target forwards stored
      → GetsReply reaction ⊎ (GetsBehind reaction ⊎ GetsForward reaction)
  hits forwards stored reaction source can method selected served is = go (is_validated_behind stored t target forwards) is
    where
      fits : IsFit (is_head request.head.method) (hit_reply wanted stored)
      fits = hit_fit wanted stored good can

      right : IsRight recorded_format strict (ClientRequest e t request target ∷ items) (ClientReply e t (hit_reply (record { name = name; moment = t; asked = request.head; closes = closes }) stored))
      right = hit_right the_items the_exchange t name closes stored (still_source since items (ClientRequest e t request target) refl target stored source) can method selected it_awaits served
          (hit_writable name stored t good).plain

      go : (b : Bool) → reaction ≡ RepliesAtOnce (hit_reply wanted stored) (cond b (validation_behind wanted target stored) None) → GetsReply reaction ⊎ (GetsBehind reaction ⊎ GetsForward reaction)
      go true is = inr (inl (record {
        reply = hit_reply wanted stored;
        validation = bare (conditional_request name target request.head stored.fields);
        reaction_is = is;
        fit = fits;
        right = right;
        get = refl;
        writable = conditional_ask stored can method;
      }))
      go false is = inl (record { reply = hit_reply wanted stored; reaction_is = is; fit = fits; right = right })

  by_case : (forwards : Table Awaited) (known : Bool) (old new : Holdings) (chosen : Option Stored) (reaction : Reaction) → SoundStore since items old → is_answered_by_store request.head.method ≡ true
      → Finds target request.head.fields old chosen new
      → reaction ≡ chosen_reaction (record { name = name; moment = t; asked = request.head; closes = closes }) target request forwards chosen (case_by_store request.head.fields known chosen t)
      → GetsReply reaction ⊎ (GetsBehind reaction ⊎ GetsForward reaction)
  by_case forwards true old new None reaction h method finds is = forwarded None VaryMiss reaction (λ _. method) tt is
  by_case forwards false old new None reaction h method finds is = forwarded None UriMiss reaction (λ _. method) tt is
  by_case forwards known old new (Some stored) reaction h method finds is =
      let source = chosen_held (HasSource since items) target request.head.fields old.entries stored h.0.sources finds.0 in
      let can = (chosen_held (λ _ stored. CanReply stored) target request.head.fields old.entries stored h.1 finds.0).0 in
      ⊎_elim
      (λ (served : may_be_served request.head.fields stored t ≡ true).
      hits forwards stored reaction source.0 can method source.1 served
      (is ∙ ap (λ (b : Bool). chosen_reaction wanted target request forwards (Some stored) (cond b (Hit stored) (Forward (cause_of_stored stored t)))) served))
      (λ (kept : may_be_served request.head.fields stored t ≡ false).
      forwarded (Some stored) (cause_of_stored stored t) reaction (λ _. method) (can, cause_is_of_stored (not (is_fresh stored t) || says (codes "no-cache") stored.fields), method)
      (is ∙ ap (λ (b : Bool). chosen_reaction wanted target request forwards (Some stored) (cond b (Hit stored) (Forward (cause_of_stored stored t)))) kept))
      (cases_Bool (may_be_served request.head.fields stored t))
    where
      cause_is_of_stored : (b : Bool) → is_of_stored (cond b Stale Request) ≡ true
      cause_is_of_stored true = refl
      cause_is_of_stored false = refl

  pub reaction_right : (underway : OpenNow) (old new : Holdings) (reaction : Reaction) → SoundStore since items old
      → Reacts (record { request = request; target = target; wanted = record { name = name; moment = t; asked = request.head; closes = closes } }) underway old reaction new
      → SoundStore since items new × ((GetsReply reaction ⊎ (GetsBehind reaction ⊎ GetsForward reaction)) ⊎ GetsJoined old new reaction)
  reaction_right underway old new reaction h reacts = go (case_before_store request) refl reacts
    where
      never : (why : Cause) → asks_store why ≡ false → asks_store why ≡ true → is_answered_by_store request.head.method ≡ true
      never why none it = absurd (false_true (sym none ∙ it))
        where
          false_true : false ≡ true → ⊥
          false_true e = cc

      asks : is_answered_by_store request.head.method ≡ true → ReactsByStore (record { request = request; target = target; wanted = wanted }) underway.forwards old reaction new
          → SoundStore since items new × ((GetsReply reaction ⊎ (GetsBehind reaction ⊎ GetsForward reaction)) ⊎ GetsJoined old new reaction)
      asks method r = (
        found_sound since items target request.head.fields old r.chosen new h r.finds,
        inl (by_case underway.forwards (knows target old.entries) old new r.chosen reaction h method r.finds r.reaction_is),
      )

      joins : is_answered_by_store request.head.method ≡ true → (b : Bool) → (is_joinable request.head && not (knows target old.entries)) ≡ b → (least : Option ℕ)
          → ReactsJoined (cond b least None) (record { request = request; target = target; wanted = wanted }) underway.forwards old reaction new
          → SoundStore since items new × ((GetsReply reaction ⊎ (GetsBehind reaction ⊎ GetsForward reaction)) ⊎ GetsJoined old new reaction)
      joins method false is least r = asks method r
      joins method true is None r = asks method r
      joins method true is (Some f) r =
          let parts = and_parts (is_joinable request.head) (not (knows target old.entries)) is in
          (subst (SoundStore since items) (sym r.1) h, inr (record { forward = f; reaction_is = r.0; may = parts.0; unknown = none_known (knows target old.entries) parts.1; same = r.1 }))
        where
          none_known : (b : Bool) → not b ≡ true → b ≡ false
          none_known true e = absurd (cc)
          none_known false e = refl

      go : (before : Option Cause) → case_before_store request ≡ before → ReactsBy before (record { request = request; target = target; wanted = wanted }) underway old reaction new
          → SoundStore since items new × ((GetsReply reaction ⊎ (GetsBehind reaction ⊎ GetsForward reaction)) ⊎ GetsJoined old new reaction)
      go (Some why) is r = (subst (SoundStore since items) (sym r.1) h, inl (forwarded None why reaction (never why (before_store request why is)) tt r.0))
      go None is r = joins (by_store_method request is) (is_joinable request.head && not (knows target old.entries)) refl r.least r.reacts

-- ---- what answers a forward

-- what may be stored answers GET
stored_is_get : (forward : RequestHead) (response : ResponseHead) → may_store forward response ≡ true → is_head forward.method ≡ false
stored_is_get forward response may = subst (λ (m : List ℕ). is_head m ≡ false) (sym ((bytes_eq-Decides forward.method (codes "GET")).0 get)) refl
  where
    first : (a b c d e f g : Bool) → (a && b && c && d && e && f && g) ≡ true → a ≡ true
    first true b c d e f g is = refl
    first false b c d e f g is = absurd (cc)

    get : is_get forward.method ≡ true
    get = (and_parts (is_get forward.method) _ (first (asks_for_storable forward) (is_storable response.status) (is_understood_if_asked response) (no_store_permits response.fields)
        (is_not_private response.fields) (not (has_authorization forward) || permits_authorized response.fields) (invites_storing response) may)).0

pub stored_sound : (since : Target → ℕ) (items : List Item) (f t : ℕ) (response : Message ResponseHead) (forward : OpenForward) (old : Holdings) (stored : Bool) (new : Holdings)
    → forward_of f items ≡ Some (recorded_forward forward) → IsReceivedAnswer (is_head forward.request.method) response → t < 253402300800
    → since forward.target ≤ length items
    → SoundStore since (OriginResponse f t response ∷ items) old → Stores forward t response old stored new → SoundStore since (OriginResponse f t response ∷ items) new
stored_sound since items f t response forward old stored new is_open r early reached h stores = (
  put_sources since items f t response forward is_open (omega (arith, reached)) old new stored h.0 stores,
  ⊎_elim
      (λ (may : may_store forward.request response.head ≡ true).
      put_can_reply forward t response old stored new (subst (λ (b : Bool). IsReceivedAnswer b response) (stored_is_get forward.request response.head may) r) early h.1 stores)
      (λ (may : may_store forward.request response.head ≡ false).
      let left = subst (λ (b : Bool). OnTest b (PutsResponse forward t response old stored new) ((stored ≡ false) × (new ≡ old))) may stores in
      subst all_can_reply (sym left.1) h.1)
      (cases_Bool (may_store forward.request response.head)),
)

-- a reason of the seventh case asks the store
of_stored_asks : (why : Cause) → is_of_stored why ≡ true → asks_store why ≡ true
of_stored_asks Method is = absurd (cc)
of_stored_asks Bypass is = absurd (cc)
of_stored_asks NoStore is = absurd (cc)
of_stored_asks UriMiss is = absurd (cc)
of_stored_asks VaryMiss is = absurd (cc)
of_stored_asks Stale is = refl
of_stored_asks Request is = refl

module _ (since : Target → ℕ) (name : List ℕ) (good : is_name name ≡ true) (t : ℕ) (early : t < 253402300800) (closes : Bool) (items : List Item) (f : ℕ) (forward : OpenForward) (x : Exchange) (why : Cause)
    (is_open : forward_of f items ≡ Some (recorded_forward forward)) (awaits : exchange_of x.number items ≡ Some x) (method : forward.request.method ≡ x.request.method) (target : forward.target ≡ x.target)
    (by_store : asks_store why ≡ true → is_answered_by_store x.request.method ≡ true) (reached : since forward.target ≤ length items) where
  abbrev wants : Wanted
  wants = record { name = name; moment = t; asked = x.request; closes = closes }

  pub record GetsAnswer (items' : List Item) (outcome : Outcome) : Type 0 where
    pub reply : Message ResponseHead
    pub outcome_is : outcome ≡ Replies reply
    pub fit : IsFit (is_head x.request.method) reply
    pub right : IsRight recorded_format strict items' (ClientReply x.number t reply)

  of_exchange : (items' : List Item) (stored : Stored) → HasSource since items' forward.target stored → HasSource since items' x.target stored
  of_exchange items' stored source = subst (λ (g : Target). HasSource since items' g stored) target source

  module _ (response : Message ResponseHead) (r : IsReceivedAnswer (is_head forward.request.method) response) (cause : cause_of f items ≡ Some x.number) where
    same_head : is_head forward.request.method ≡ is_head x.request.method
    same_head = ap is_head method

    bare_body : is_head x.request.method ≡ true → response.body ≡ []
    bare_body is = r.bare (or_left _ _ (same_head ∙ is))

    abbrev answer : Answer
    answer = record { wanted = wants; forward = forward; cause = why; response = response }

    passes : (old new : Holdings) (outcome : Outcome) → SoundStore since (OriginResponse f t response ∷ items) old → Passes answer old outcome new
        → SoundStore since (OriginResponse f t response ∷ items) new × GetsAnswer (OriginResponse f t response ∷ items) outcome
    passes old new outcome h p = (
      ⊎_elim
          (λ (q : (asks_store why ≡ true) × Stores forward t response old p.stored new). stored_sound since items f t response forward old p.stored new is_open r early reached h q.1)
          (λ (q : (asks_store why ≡ false) × ((p.stored ≡ false) × (new ≡ old))). subst (SoundStore since (OriginResponse f t response ∷ items)) (sym q.1.1) h)
          (on_test (asks_store why) _ _ p.puts),
      record {
        reply = passed_reply wants why p.stored response;
        outcome_is = p.outcome_is;
        fit = passed_fit wants why p.stored (is_head x.request.method) response good early (subst (λ (b : Bool). IsReceivedAnswer b response) same_head r);
        right = passed_right items f t response forward x wants why p.stored is_open cause awaits method target bare_body (forward_writable name why p.stored good).plain;
      },
    )

    -- a 304 that answers the cache's own condition
    validates : (position : ℕ) → position ≡ next_position items → asks_store why ≡ true → (old : Holdings) (outcome : Outcome) → SoundStore since (OriginResponse f t response ∷ items) old
        → outcome ≡ validated_outcome wants why (validated_by forward.target x.request.fields position old)
        → GetsAnswer (OriginResponse f t response ∷ items) outcome ⊎ (outcome ≡ GoesAnew)
    validates position at asks old outcome h is = go (validated_by forward.target x.request.fields position old) refl is
      where
        later : x.position < position
        later = let place = exchange_place x.number items x awaits in omega (arith, place, at)

        go : (chosen : Option Stored) → chosen ≡ validated_by forward.target x.request.fields position old → outcome ≡ validated_outcome wants why chosen
            → GetsAnswer (OriginResponse f t response ∷ items) outcome ⊎ (outcome ≡ GoesAnew)
        go None same is = inr is
        go (Some stored) same is =
            let source = validated_held (HasSource since (OriginResponse f t response ∷ items)) forward.target x.request.fields position old.entries stored h.0.sources same in
            let can = (validated_held (λ _ stored. CanReply stored) forward.target x.request.fields position old.entries stored h.1 same).0 in
            inl (record {
              reply = replacing_reply wants why (Some not_modified) stored;
              outcome_is = is;
              fit = replacing_fit wants why (Some not_modified) stored good (omega arith) can;
              right = validated_right name good t closes x why stored can (by_store asks) (OriginResponse f t response ∷ items) awaits (of_exchange _ stored source.0) position source.1 later;
            })

    -- an error, in whose place a stored response may be the reply
    replaces : asks_store why ≡ true → is_error_status response.head.status ≡ true → (old new : Holdings) (outcome : Outcome) → SoundStore since (OriginResponse f t response ∷ items) old
        → Replaces answer old outcome new
        → SoundStore since (OriginResponse f t response ∷ items) new × GetsAnswer (OriginResponse f t response ∷ items) outcome
    replaces asks is_error old new outcome h p = go p.chosen p.finds p.ends
      where
        between : (chosen : Option Stored) → Finds forward.target x.request.fields old chosen p.between → SoundStore since (OriginResponse f t response ∷ items) p.between
        between chosen finds = found_sound since (OriginResponse f t response ∷ items) forward.target x.request.fields old chosen p.between h finds

        go : (chosen : Option Stored) → Finds forward.target x.request.fields old chosen p.between
            → RepliesInPlace (replacement wants chosen) answer p.between outcome new
            → SoundStore since (OriginResponse f t response ∷ items) new × GetsAnswer (OriginResponse f t response ∷ items) outcome
        go None finds ends = passes p.between new outcome (between None finds) ends
        go (Some stored) finds ends = by_test (may_replace x.request.fields stored t) refl ends
          where
            source : HasSource since (OriginResponse f t response ∷ items) forward.target stored × (is_selected x.request.fields stored ≡ true)
            source = chosen_held (HasSource since (OriginResponse f t response ∷ items)) forward.target x.request.fields old.entries stored h.0.sources finds.0

            can : CanReply stored
            can = (chosen_held (λ _ stored. CanReply stored) forward.target x.request.fields old.entries stored h.1 finds.0).0

            by_test : (b : Bool) → may_replace x.request.fields stored t ≡ b → RepliesInPlace (cond b (Some stored) None) answer p.between outcome new
                → SoundStore since (OriginResponse f t response ∷ items) new × GetsAnswer (OriginResponse f t response ∷ items) outcome
            by_test false none ends = passes p.between new outcome (between (Some stored) finds) ends
            by_test true may ends = (
              subst (SoundStore since (OriginResponse f t response ∷ items)) (sym ends.1) (between (Some stored) finds),
              record {
                reply = replacing_reply wants why (Some response.head.status) stored;
                outcome_is = ends.0;
                fit = replacing_fit wants why (Some response.head.status) stored good (error_is_small response.head.status is_error) can;
                right = error_right name good t closes x why stored can (by_store asks) items f t forward is_open target awaits source.1 may response is_error (of_exchange _ stored source.0);
              },
            )

    pub response_outcome : (conditional : Bool) → (conditional ≡ true → is_of_stored why ≡ true) → (position : ℕ) → position ≡ next_position items → (old new : Holdings) (outcome : Outcome)
        → SoundStore since (OriginResponse f t response ∷ items) old
        → Responds (rule_of why conditional forward.request response.head)
        (record { wanted = record { name = name; moment = t; asked = x.request; closes = closes }; forward = forward; cause = why; response = response }) position old outcome new
        → SoundStore since (OriginResponse f t response ∷ items) new × (GetsAnswer (OriginResponse f t response ∷ items) outcome ⊎ (outcome ≡ GoesAnew))
    response_outcome conditional of_stored position at old new outcome h responds =
        go (is_validation conditional response.head) (is_unasked forward.request response.head) (is_replaceable why response.head) refl refl responds
      where
        got : SoundStore since (OriginResponse f t response ∷ items) new × GetsAnswer (OriginResponse f t response ∷ items) outcome
            → SoundStore since (OriginResponse f t response ∷ items) new × (GetsAnswer (OriginResponse f t response ∷ items) outcome ⊎ (outcome ≡ GoesAnew))
        got p = (p.0, inl p.1)

        -- by the first rule that holds
        go : (validation unasked replaceable : Bool) → is_validation conditional response.head ≡ validation → is_replaceable why response.head ≡ replaceable
            → Responds (cond validation Validates (cond unasked IsUnasked (cond replaceable MayBeReplaced IsPassedOn))) answer position old outcome new
            → SoundStore since (OriginResponse f t response ∷ items) new × (GetsAnswer (OriginResponse f t response ∷ items) outcome ⊎ (outcome ≡ GoesAnew))
        go true unasked replaceable is may r = (
          subst (SoundStore since (OriginResponse f t response ∷ items)) (sym r.1) h,
          validates position at (of_stored_asks why (of_stored (and_parts conditional (response.head.status == not_modified) is).0)) old outcome h r.0,
        )
        go false true replaceable is may r = got (
          subst (SoundStore since (OriginResponse f t response ∷ items)) (sym r.1) h,
          record {
            reply = made_reply wants bad_gateway;
            outcome_is = r.0;
            fit = made_fit wants (is_head x.request.method) bad_gateway (omega arith) (omega arith) early;
            right = made_right (OriginResponse f t response ∷ items) x wants bad_gateway awaits (omega arith);
          },
        )
        go false false true is may r = let parts = and_parts (asks_store why) (is_error_status response.head.status) may in got (replaces parts.0 parts.1 old new outcome h r)
        go false false false is may r = got (passes old new outcome h r)

  failed_status : (chosen : Option Stored) → (500 ≤ failure_status chosen) × (failure_status chosen < 600)
  failed_status None = (omega arith, omega arith)
  failed_status (Some stored) = go (stale_forbidden stored.fields)
    where
      go : (b : Bool) → (500 ≤ cond b gateway_timeout bad_gateway) × (cond b gateway_timeout bad_gateway < 600)
      go true = (omega arith, omega arith)
      go false = (omega arith, omega arith)

  made_answer : (items' : List Item) (status : ℕ) (outcome : Outcome) → exchange_of x.number items' ≡ Some x → 400 ≤ status → status < 1000
      → outcome ≡ Replies (made_reply (record { name = name; moment = t; asked = x.request; closes = closes }) status) → GetsAnswer items' outcome
  made_answer items' status outcome still is_error digits is = record {
    reply = made_reply wants status;
    outcome_is = is;
    fit = made_fit wants (is_head x.request.method) status (omega arith) digits early;
    right = made_right items' x wants status still is_error;
  }

  failed_by_store : asks_store why ≡ true → (old new : Holdings) (outcome : Outcome) → SoundStore since items old → FailsByStore wants forward.target why old outcome new
      → GetsAnswer (OriginFailure f t ∷ items) outcome
  failed_by_store asks old new outcome h p = go p.chosen p.finds p.outcome_is
    where
      none_stands : (chosen : Option Stored) → outcome ≡ Replies (made_reply wants (failure_status chosen)) → GetsAnswer (OriginFailure f t ∷ items) outcome
      none_stands chosen is =
          let status = failed_status chosen in
          made_answer (OriginFailure f t ∷ items) (failure_status chosen) outcome awaits (omega (arith, status.0)) (omega (arith, status.1)) is

      go : (chosen : Option Stored) → Finds forward.target x.request.fields old chosen new → outcome ≡ failed_outcome wants why chosen (replacement wants chosen)
          → GetsAnswer (OriginFailure f t ∷ items) outcome
      go None finds is = none_stands None is
      go (Some stored) finds is = by_test (may_replace x.request.fields stored t) refl is
        where
          by_test : (b : Bool) → may_replace x.request.fields stored t ≡ b → outcome ≡ failed_outcome wants why (Some stored) (cond b (Some stored) None)
              → GetsAnswer (OriginFailure f t ∷ items) outcome
          by_test false none is = none_stands (Some stored) is
          by_test true may is =
              let source = chosen_held (HasSource since items) forward.target x.request.fields old.entries stored h.0.sources finds.0 in
              let can = (chosen_held (λ _ stored. CanReply stored) forward.target x.request.fields old.entries stored h.1 finds.0).0 in
              record {
                reply = replacing_reply wants why None stored;
                outcome_is = is;
                fit = replacing_fit wants why None stored good tt can;
                right = failure_right name good t closes x why stored can (by_store asks) items f t forward is_open target awaits source.1 may
                    (of_exchange _ stored (still_source since items (OriginFailure f t) refl forward.target stored source.0));
              }

  pub failure_outcome : (old new : Holdings) (outcome : Outcome) → SoundStore since items old → Fails (record { name = name; moment = t; asked = x.request; closes = closes }) forward.target why old outcome new
      → SoundStore since (OriginFailure f t ∷ items) new × GetsAnswer (OriginFailure f t ∷ items) outcome
  failure_outcome old new outcome h fails =
      ⊎_elim
      (λ (q : (asks_store why ≡ true) × FailsByStore wants forward.target why old outcome new). (
        still_sound since items (OriginFailure f t) new refl (found_sound since items forward.target x.request.fields old q.1.chosen new h q.1.finds),
        failed_by_store q.0 old new outcome h q.1,
      ))
      (λ (q : (asks_store why ≡ false) × ((outcome ≡ Replies (made_reply wants bad_gateway)) × (new ≡ old))). (
        subst (SoundStore since (OriginFailure f t ∷ items)) (sym q.1.1) (still_sound since items (OriginFailure f t) old refl h),
        made_answer (OriginFailure f t ∷ items) bad_gateway outcome awaits (omega arith) (omega arith) q.1.0,
      ))
      (on_test (asks_store why) _ _ fails)
