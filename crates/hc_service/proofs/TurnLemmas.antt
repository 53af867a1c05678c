-- Each turn keeps what the cache has to do with what has happened.
use Rattle.std.proofs.Common.{◌≡◌, ℕ, ◌+◌, ◌≤◌, ◌<◌, Bool, true, false, cond, ◌||◌, List, [], ◌∷◌, ◌++◌, length, drop, Option, Some, None, nat_eq, refl, sym, ap, ◌∙◌, subst, arith, inl, inr, ⊎_elim}
use Rattle.std.specs.Option.{option_map}
use Rattle.std.specs.Prelude.{is_some}
use Rattle.std.specs.FinMap.{get, insert, remove, len}
use Rattle.std.proofs.lemmas.Bool.{cases_eq, cases_lt, eq-eqb, and_from, and_parts, or_left, le-leb}
use Rattle.hc_head.specs.declared.head.RequestHead.{RequestHead}
use Rattle.hc_head.specs.declared.head.ResponseHead.{ResponseHead}
use Rattle.hc_head.specs.declared.head.Target.{Target}
use Rattle.hc_head.specs.declared.head.TheConstants.Room.{RECORDED}
use Rattle.hc_head.specs.Methods.{is_get, is_head}
use Rattle.hc_rules.proofs.PassingLemmas.{light_response_writable}
use Rattle.hc_framing.specs.declared.message.Message.{Message}
use Rattle.hc_transcript.specs.declared.record.Record.{Record}
use Rattle.hc_transcript.specs.Limits.{greatest_number}
use Rattle.hc_transcript.specs.Items.{Item, ClientRequest, OriginRequest, OriginResponse, OriginFailure, ClientReply, Exchange}
use Rattle.hc_transcript.specs.Checks.{has_right_cause, cause_is_open}
use Rattle.hc_transcript.specs.Records.{told as cause_told}
use Rattle.hc_transcript.specs.History.{exchange_of, forward_of, cause_of, next_position}
use Rattle.hc_transcript.specs.Written.{IsWritableAsk, IsWritableAnswer}
use Rattle.hc_history.specs.Right.{IsRight}
use Rattle.hc_incoming.specs.Requests.{IsRequest}
use Rattle.hc_store.specs.Entries.{Holdings, knows}
use Rattle.hc_update.specs.declared.stored.Stored.{Stored}
use Rattle.hc_service.specs.declared.action.Action.{Action}
use Rattle.hc_service.specs.declared.cases.Cause.{Cause}
use Rattle.hc_service.specs.declared.cases.Cause.TheVariants.{UriMiss}
use Rattle.hc_service.specs.declared.numbers.Numbers.{Numbers}
use Rattle.hc_service.specs.declared.open.ForwardKind.{ForwardKind}
use Rattle.hc_service.specs.declared.open.ForwardKind.TheVariants.{Joinable, Plain}
use Rattle.hc_service.specs.declared.open.OpenExchange.{OpenExchange}
use Rattle.hc_service.specs.declared.open.Purpose.{Purpose}
use Rattle.hc_service.specs.declared.open.Purpose.TheVariants as purpose
use Rattle.hc_service.specs.declared.settings.CoreSettings.{CoreSettings}
use Rattle.hc_service.specs.Settings.{AreGood}
use Rattle.hc_service.specs.Asking.{ends_connection, is_answered_by_store}
use Rattle.hc_service.specs.Cases.{asks_store, is_of_stored}
use Rattle.hc_service.specs.Numbers.{one_more, after_opening, asked, sent, noted, stopping, is_later}
use Rattle.hc_service.specs.State.{State, Table, Connection, Awaited, is_conditional, new_connection, open_now, exchange_for}
use Rattle.hc_service.specs.Joining.{is_joinable, may_be_shared, shared}
use Rattle.hc_service.specs.Sending.{recorded_format, request_record, forward_record, response_record, failure_record, reply_record, ask_actions, send_actions, reply_actions, response_actions, failure_actions, records_of}
use Rattle.hc_service.specs.Replying.{Wanted, collapsed_reply}
use Rattle.hc_service.specs.Reactions.{Reaction, forward_alone, forward_anew}
use Rattle.std.specs.Prelude.{◌⊎◌, codes}
use Rattle.hc_service.specs.Answers.{Outcome, Renews, is_news}
use Rattle.hc_service.specs.Answers.Outcome.{GoesAnew}
use Rattle.hc_service.specs.Choices.{Finds, Stores}
use Rattle.hc_service.specs.Turns.{after_client_octets, after_request, after_reply, after_leaving, after_origin_octets, sent_forward, replied, closes_behind, wanted_now, whole_request, Arrived, arrived_on, asker_now, answered_now, failed_now, KeepsAllButConnections, Opens, ClientSends, Drops, Leaves, Closes, Refuses, Asks, RepliesAlone, RepliesAndValidates, GoesForward, Joins, DoesReaction, RepliesShared, GoesAlone, DoesRelease, Releases, released, OriginSends, Answers, Breaks, EndsBehind, EndsWithReply, EndsWithForward, EndsByResponse, EndsByFailure, DoesOutcome, Failure, is_closed, Stops}
use Rattle.hc_service.specs.Serves.{Turn, Takes}
use Rattle.hc_service.specs.Serves.Turn.{Opening, ClientSending, Asking, Refusal, Dropping, Leaving, Closing, OriginSending, Answering, Failing, Releasing, Stopping}
use Rattle.hc_service.specs.Agreement.{History, AreCounted, AreReceived, AreAsked, AreLinked, AreWaiting, CanReply, HasSource, IsConsistent, AsksFor, IsFor, KeepsPurpose, IsSeenExchange, seen_forward}
use Rattle.hc_service.specs.Runs.{Records, behind, client_octets_with, origin_octets_with, strict, with_octets}
use Rattle.hc_service.specs.LowerLaws.{ForwardLaws}
use Rattle.hc_service.specs.Laws.{KeepsOn, IsReceivedAnswer, IsReceivedAsk, with_record, recorded_forward}
use Rattle.hc_service.proofs.TableLemmas.{get_same, get_gone, len_new, len_old, len_less}
use Rattle.hc_service.proofs.LinkLemmas.{none_some, one_of, later_behind, linked_opened, linked_same, linked_out, linked_replied, linked_asked, linked_released, linked_answered}
use Rattle.hc_service.proofs.AskedLemmas.{asked_alone, asked_joined, asked_shared, asked_released, asked_more, none_for_new, asked_sent, asked_validated, asked_received, asked_behind, asked_anew, asked_answered}
use Rattle.hc_service.proofs.UnreadLemmas.{read_request, read_replied, read_answered, read_left, received_opened, received_same, received_from_client, received_out, received_sent, received_from_origin, received_ended}
use Rattle.hc_service.proofs.RecordLemmas.{one_more_is, ask_counted, send_counted, response_counted, failure_counted, reply_counted}
use Rattle.hc_service.proofs.ReceivedLemmas.{received_ask, received_answer}
use Rattle.hc_service.proofs.NameLemmas.{cache_name, collapsed_writable}
use Rattle.hc_service.proofs.RightLemmas.{shared_right}
use Rattle.hc_store.proofs.HeldLemmas.{chosen_held}
use Rattle.hc_service.proofs.WaitingLemmas.{IsElsewhere, since_joined, joined_sources, waiting_item, waiting_answered, waiting_ended, waiting_sent, waiting_received, waiting_opened, waiting_joined}
use Rattle.hc_service.proofs.SourceLemmas.{on_test, renewed_sources}
use Rattle.hc_service.proofs.EntryLemmas.{IsFit, collapsed_fit, renewed_can_reply, sound_parts, all_both}
use Rattle.hc_service.proofs.OutcomeLemmas.{SoundStore, GetsReply, GetsBehind, GetsForward, GetsJoined, GetsAnswer, found_sound, still_sound, stored_sound, reaction_right, response_outcome, failure_outcome}

-- ---- states and histories

-- a state is known by its parts
of_parts : (s : State) (h : History) (since : Target → ℕ) (n : Numbers) (ks : Table Connection) (xs : Table OpenExchange) (fs : Table Awaited) (store : Holdings)
    → s.numbers ≡ n → s.connections ≡ ks → s.exchanges ≡ xs → s.forwards ≡ fs → s.store ≡ store
    → AreCounted n h → SoundStore since h.items store → AreReceived n.connection n.forward ks fs h.client_octets h.origin_octets → AreAsked n.exchange n.forward xs fs h.items
    → AreLinked n.connection ks xs → AreWaiting since xs fs h.items → len ks ≤ n.room → IsConsistent s h
of_parts s h since n ks xs fs store en ek ex ef es counted sound received asks linked waiting few =
    subst (λ (s : State). IsConsistent s h) (λ i. record { numbers = sym en i; connections = sym ek i; exchanges = sym ex i; forwards = sym ef i; store = sym es i })
    (record {
      counted = counted;
      since = since;
      entries = all_both _ _ store.entries sound.0.sources sound.1;
      keys = sound.0.keys;
      received = received;
      asked = asks;
      linked = linked;
      waiting = waiting;
      few = few;
    })

sound_of : (s : State) (h : History) (a : IsConsistent s h) → SoundStore a.since h.items s.store
sound_of s h a = sound_parts a.since h.items s.store a.keys a.entries

-- no record is given out
none_given : (actions given : List Action) (h : History) → actions ≡ given → records_of given ≡ [] → Records actions h h
none_given actions given h is none = record {
  newer = [];
  records_are = sym (ap (λ (a : List Action). behind (records_of a) h.records) is ∙ ap (λ (rs : List Record). behind rs h.records) none);
  items_are = refl;
  right = tt;
}

given_from : (actions given : List Action) (rs : List Record) (records : List Record) → actions ≡ given → records_of given ≡ rs → behind rs records ≡ behind (records_of actions) records
given_from actions given rs records is are = sym (ap (λ (a : List Action). behind (records_of a) records) is ∙ ap (λ (rs : List Record). behind rs records) are)

counted_opened : (c : ℕ) (n : Numbers) (h : History) → AreCounted n h → AreCounted (after_opening c n) h
counted_opened c n h a = record {
  are_read = a.are_read;
  records = a.records;
  exchange = a.exchange;
  forward = a.forward;
  moment = a.moment;
  exchanges = a.exchanges;
  forwards = a.forwards;
  in_range = a.in_range;
  in_time = a.in_time;
}

counted_stopping : (n : Numbers) (h : History) → AreCounted n h → AreCounted (stopping n) h
counted_stopping n h a = record {
  are_read = a.are_read;
  records = a.records;
  exchange = a.exchange;
  forward = a.forward;
  moment = a.moment;
  exchanges = a.exchanges;
  forwards = a.forwards;
  in_range = a.in_range;
  in_time = a.in_time;
}

-- what came doesn't matter to what is counted
counted_received : (n : Numbers) (h : History) (client_octets origin_octets : ℕ → List ℕ) → AreCounted n h → AreCounted n (record { records = h.records; items = h.items; client_octets = client_octets; origin_octets = origin_octets })
counted_received n h client_octets origin_octets a = record {
  are_read = a.are_read;
  records = a.records;
  exchange = a.exchange;
  forward = a.forward;
  moment = a.moment;
  exchanges = a.exchanges;
  forwards = a.forwards;
  in_range = a.in_range;
  in_time = a.in_time;
}

module _ (s : State) (h : History) (a : IsConsistent s h) where
  known : (c : ℕ) (k : Connection) → get s.connections c ≡ Some k → is_later c s.numbers.connection ≡ true → ⊥
  known c k is later = none_some (get s.connections c) k (a.linked.later c later) is

  len_kept : (c : ℕ) (k k' : Connection) → get s.connections c ≡ Some k → len (insert s.connections c k') ≤ s.numbers.room
  len_kept c k k' is = let few = a.few in omega (arith, len_old s.connections c k' k is)

  len_fewer : (c : ℕ) → len (remove s.connections c) ≤ s.numbers.room
  len_fewer c = let few = a.few in omega (arith, len_less s.connections c)

  len_replied : (closes : Bool) (c : ℕ) (unread : List ℕ) (k q : Connection) → get s.connections c ≡ Some q → len (replied closes c unread k s.connections) ≤ s.numbers.room
  len_replied true c unread k q is = len_fewer c
  len_replied false c unread k q is = len_kept c q (after_reply unread k) is

  -- ---- the cache as a whole

  pub stopped : (actions : List Action) (s' : State) → Stops s actions s' → KeepsOn Stopping actions h s'
  stopped actions s' t =
      record {
        later = h;
        goes_on = record { records = none_given actions [] h t.actions_are refl; client_octets = refl; origin_octets = refl };
        consistent = of_parts s' h a.since (stopping s.numbers) s.connections s.exchanges s.forwards s.store t.numbers t.keeps.connections t.keeps.exchanges t.keeps.forwards t.keeps.store
            (counted_stopping s.numbers h a.counted) (sound_of s h a) a.received a.asked a.linked a.waiting a.few;
      }

  -- ---- connections

  pub opening : (c : ℕ) (actions : List Action) (s' : State) → Opens c s actions s' → KeepsOn (Opening c) actions h s'
  opening c actions s' t =
      record {
        later = h;
        goes_on = record { records = none_given actions [] h t.actions_are refl; client_octets = refl; origin_octets = refl };
        consistent = of_parts s' h a.since (after_opening c s.numbers) (insert s.connections c new_connection) s.exchanges s.forwards s.store t.numbers t.connections t.keeps.exchanges t.keeps.forwards t.store
            (counted_opened c s.numbers h a.counted) (sound_of s h a)
            (received_opened s.numbers.connection s.numbers.forward s.connections s.forwards h.client_octets h.origin_octets a.received c t.later (λ d is. later_behind c d s.numbers.connection t.later is))
            a.asked (linked_opened s.numbers.connection s.connections s.exchanges a.linked c t.later)
            a.waiting
            (let few = t.has_place in omega (arith, len_new s.connections c new_connection (a.linked.later c t.later)));
      }

  pub client_sending : (c : ℕ) (octets : List ℕ) (actions : List Action) (s' : State) → ClientSends c octets s actions s' → KeepsOn (ClientSending c octets) actions h s'
  client_sending c octets actions s' t =
      let h' : History = record { records = h.records; items = h.items; client_octets = with_octets c octets h.client_octets; origin_octets = h.origin_octets } in
      record {
        later = h';
        goes_on = record {
          records = record { newer = []; records_are = given_from actions [] [] h.records t.actions_are refl; items_are = refl; right = tt };
          client_octets = refl;
          origin_octets = refl;
        };
        consistent = of_parts s' h' a.since s.numbers (insert s.connections c (after_client_octets octets t.connection)) s.exchanges s.forwards s.store t.keeps.numbers t.connections t.keeps.exchanges t.keeps.forwards t.keeps.store
            (counted_received s.numbers h (with_octets c octets h.client_octets) h.origin_octets a.counted) (sound_of s h a)
            (received_from_client s.numbers.connection s.numbers.forward s.connections s.forwards h.client_octets h.origin_octets a.received c octets t.connection
            (a.received.connections_are c t.connection t.is_open) (known c t.connection t.is_open))
            a.asked (linked_same s.numbers.connection s.connections s.exchanges a.linked c t.connection (after_client_octets octets t.connection) t.is_open (same_exchange t.connection.leaves refl))
            a.waiting (len_kept c t.connection (after_client_octets octets t.connection) t.is_open);
      }
    where
      same_exchange : (b : Bool) → t.connection.leaves ≡ b → (after_client_octets octets t.connection).exchange ≡ t.connection.exchange
      same_exchange true is = ap (λ (b : Bool). (cond b t.connection (record { unread = t.connection.unread ++ octets; exchange = t.connection.exchange; leaves = t.connection.leaves })).exchange) is
      same_exchange false is = ap (λ (b : Bool). (cond b t.connection (record { unread = t.connection.unread ++ octets; exchange = t.connection.exchange; leaves = t.connection.leaves })).exchange) is

  -- nothing more is read of a connection
  left_alone : (c e : ℕ) (k : Connection) (s' : State) → get s.connections c ≡ Some k → k.exchange ≡ Some e → s'.connections ≡ insert s.connections c (after_leaving k)
      → KeepsAllButConnections s s' → IsConsistent s' h
  left_alone c e k s' is awaits ek keeps =
      of_parts s' h a.since s.numbers (insert s.connections c (after_leaving k)) s.exchanges s.forwards s.store keeps.numbers ek keeps.exchanges keeps.forwards keeps.store a.counted (sound_of s h a)
      (received_same s.numbers.connection s.numbers.forward s.connections s.forwards h.client_octets h.origin_octets a.received c (after_leaving k) (read_left (h.client_octets c) k e awaits))
      a.asked (linked_same s.numbers.connection s.connections s.exchanges a.linked c k (after_leaving k) is refl) a.waiting (len_kept c k (after_leaving k) is)

  pub dropping : (c : ℕ) (actions : List Action) (s' : State) → Drops c s actions s' → KeepsOn (Dropping c) actions h s'
  dropping c actions s' t = record {
    later = h;
    goes_on = record { records = none_given actions [] h t.actions_are refl; client_octets = refl; origin_octets = refl };
    consistent = left_alone c t.exchange t.connection s' t.is_open t.awaits t.connections t.keeps;
  }

  pub leaving : (c : ℕ) (actions : List Action) (s' : State) → Leaves c s actions s' → KeepsOn (Leaving c) actions h s'
  leaving c actions s' t = record {
    later = h;
    goes_on = record { records = none_given actions [] h t.actions_are refl; client_octets = refl; origin_octets = refl };
    consistent = left_alone c t.exchange t.connection s' t.is_open t.awaits t.connections t.keeps;
  }

  -- a connection without a request goes
  gone_alone : (c : ℕ) (k : Connection) (s' : State) → get s.connections c ≡ Some k → k.exchange ≡ None → s'.connections ≡ remove s.connections c
      → KeepsAllButConnections s s' → IsConsistent s' h
  gone_alone c k s' is idle ek keeps =
      of_parts s' h a.since s.numbers (remove s.connections c) s.exchanges s.forwards s.store keeps.numbers ek keeps.exchanges keeps.forwards keeps.store a.counted (sound_of s h a)
      (received_out s.numbers.connection s.numbers.forward s.connections s.forwards h.client_octets h.origin_octets a.received c)
      a.asked (linked_out s.numbers.connection s.connections s.exchanges a.linked c k is idle) a.waiting (len_fewer c)

  pub closing : (c : ℕ) (actions : List Action) (s' : State) → Closes c s actions s' → KeepsOn (Closing c) actions h s'
  closing c actions s' t = record {
    later = h;
    goes_on = record { records = none_given actions _ h t.actions_are refl; client_octets = refl; origin_octets = refl };
    consistent = gone_alone c t.connection s' t.is_open t.idle t.connections t.keeps;
  }

  pub refusing : (c status : ℕ) (actions : List Action) (s' : State) → Refuses c status s actions s' → KeepsOn (Refusal c status) actions h s'
  refusing c status actions s' t = record {
    later = h;
    goes_on = record { records = none_given actions _ h t.actions_are refl; client_octets = refl; origin_octets = refl };
    consistent = gone_alone c t.connection s' t.is_open t.idle t.connections t.keeps;
  }

  -- ---- octets of the origin

  not_further : (f : ℕ) (w : Awaited) → get s.forwards f ≡ Some w → s.numbers.forward < f → ⊥
  not_further f w is further = none_some (get s.forwards f) w (a.asked.later_forwards f further) is

  -- the number of an open exchange can stand in a record
  numbered : (e : ℕ) (x0 : OpenExchange) → get s.exchanges e ≡ Some x0 → (1 ≤ e) × (e ≤ greatest_number)
  numbered e x0 awaits = (
    elim (cases_eq e 0) [
      | inl none ↦ absurd (none_some (get s.exchanges e) x0 (ap (get s.exchanges) none ∙ a.asked.no_exchange) awaits)
      | inr some ↦ omega arith
    ],
    let counts = a.counted in
        elim (cases_lt s.numbers.exchange e) [
          | inl further ↦ absurd (none_some (get s.exchanges e) x0 (a.asked.later_exchanges e further) awaits)
          | inr le ↦ omega (arith, counts.exchanges, counts.in_range)
        ],
  )

  pub origin_sending : (f : ℕ) (octets : List ℕ) (actions : List Action) (s' : State) → OriginSends f octets s actions s' → KeepsOn (OriginSending f octets) actions h s'
  origin_sending f octets actions s' t =
      let h' : History = record { records = h.records; items = h.items; client_octets = h.client_octets; origin_octets = with_octets f octets h.origin_octets } in
      record {
        later = h';
        goes_on = record {
          records = record { newer = []; records_are = given_from actions [] [] h.records t.actions_are refl; items_are = refl; right = tt };
          client_octets = refl;
          origin_octets = refl;
        };
        consistent = of_parts s' h' a.since s.numbers s.connections s.exchanges (insert s.forwards f (after_origin_octets octets t.awaited)) s.store t.keeps.numbers t.keeps.connections t.keeps.exchanges t.forwards t.keeps.store
            (counted_received s.numbers h h.client_octets (with_octets f octets h.origin_octets) a.counted) (sound_of s h a)
            (received_from_origin s.numbers.connection s.numbers.forward s.connections s.forwards h.client_octets h.origin_octets a.received f octets t.awaited t.is_open (not_further f t.awaited t.is_open))
            (asked_received s.numbers.exchange s.numbers.forward s.exchanges s.forwards h.items a.asked f octets t.awaited t.is_open) a.linked
            (waiting_received a.since s.exchanges s.forwards h.items a.waiting f t.awaited (after_origin_octets octets t.awaited) t.is_open refl) a.few;
      }

  -- ---- a whole request

  reply_given : (e t : ℕ) (to_head : Bool) (c : ℕ) (closes : Bool) (reply : Message ResponseHead) → records_of (reply_actions e t to_head c closes reply) ≡ reply_record e t to_head reply ∷ []
  reply_given e t to_head c true reply = refl
  reply_given e t to_head c false reply = refl

  reply_then : (e t : ℕ) (to_head : Bool) (c : ℕ) (closes : Bool) (reply : Message ResponseHead) (f : ℕ) (cause : Option ℕ) (m : Message RequestHead)
      → records_of (reply_actions e t to_head c closes reply ++ send_actions f t cause m) ≡ reply_record e t to_head reply ∷ forward_record f t cause m ∷ []
  reply_then e t to_head c true reply f cause m = refl
  reply_then e t to_head c false reply f cause m = refl

  -- an open exchange can be the cause of a forward
  right_cause : (e : ℕ) (items : List Item) (x : Exchange) → exchange_of e items ≡ Some x → e ≤ greatest_number
      → has_right_cause (cause_told (Some e)) (cause_is_open (cause_told (Some e)) items) ≡ true
  right_cause e items x is few = and_from _ _ (ap is_some is) (le-leb e greatest_number few)

  module _ (settings : CoreSettings) (good : AreGood settings) (laws : ForwardLaws) where
    early : s.numbers.moment < 253402300800
    early = let c = a.counted in omega (arith, c.in_time)

    module _ (c : ℕ) (k : Connection) (is_open : get s.connections c ≡ Some k) (idle : k.exchange ≡ None) (request : Message RequestHead) (target : Target) (size : ℕ)
        (arrives : IsRequest k.unread request target size) where
      ask : IsReceivedAsk request target
      ask = received_ask k.unread request target size arrives

      -- as it has arrived, with the reply that it wants
      abbrev arrived : Wanted → Arrived
      arrived wanted = arrived_on c k size (record { request = request; target = target; wanted = wanted })

      writable_ask : IsWritableAsk request target
      writable_ask = record { readable = ask.readable; target_is = ask.forwardable.has_target }

      -- it gets a reply at once
      asking_alone : (wanted : Wanted) (reply : Message ResponseHead) (actions : List Action) (s' : State) → RepliesAlone (arrived wanted) reply s actions s' → s'.numbers.records ≤ greatest_number
          → SoundStore a.since h.items s'.store → IsFit (is_head request.head.method) reply
          → IsRight recorded_format strict (ClientRequest (one_more s.numbers.exchange) s.numbers.moment request target ∷ h.items) (ClientReply (one_more s.numbers.exchange) s.numbers.moment reply)
          → KeepsOn (Asking c) actions h s'
      asking_alone wanted reply actions s' t le sound fit right =
          let n = s.numbers in
          let counts = a.counted in
          let e = one_more n.exchange in
          let x : Exchange = record { number = e; position = length h.items + 1; request = request.head; target = target } in
          let last : one_more (one_more n.records) ≤ greatest_number = subst (λ (m : Numbers). m.records ≤ greatest_number) t.numbers le in
          let first : one_more n.records ≤ greatest_number = omega arith in
          let number : e ≡ n.exchange + 1 = one_more_is n.exchange (omega (arith, counts.exchanges, counts.in_range)) in
          let records : one_more n.records ≡ n.records + 1 = one_more_is n.records counts.in_range in
          let q = ClientRequest e n.moment request target in
          let h1 = with_record (request_record e n.moment request) q h in
          let h2 = with_record (reply_record e n.moment (is_head request.head.method) reply) (ClientReply e n.moment reply) h1 in
          let c1 = ask_counted n h request target a.counted writable_ask first in
          record {
            later = h2;
            goes_on = record {
              records = record {
                newer = ClientReply e n.moment reply ∷ q ∷ [];
                records_are = given_from actions (ask_actions e n.moment request ++ reply_actions e n.moment (is_head request.head.method) c wanted.closes reply)
                    (request_record e n.moment request ∷ reply_record e n.moment (is_head request.head.method) reply ∷ []) h.records t.actions_are
                    (ap (λ (rs : List Record). request_record e n.moment request ∷ rs) (reply_given e n.moment (is_head request.head.method) c wanted.closes reply));
                items_are = refl;
                right = ((tt, tt), right);
              };
              client_octets = refl;
              origin_octets = refl;
            };
            consistent = of_parts s' h2 a.since (noted (asked n)) (replied wanted.closes c (drop size k.unread) k s.connections) s.exchanges s.forwards s'.store t.numbers t.connections t.keeps.exchanges t.keeps.forwards refl
                (reply_counted (asked n) h1 c1 last e x reply (omega (arith, number)) (omega (arith, number, counts.exchanges, first, records)) (rw (eq-eqb e e refl) refl) fit.writable fit.digits)
                (still_sound a.since (q ∷ h.items) (ClientReply e n.moment reply) s'.store refl (still_sound a.since h.items q s'.store refl sound))
                (received_replied wanted.closes)
                (asked_alone n.exchange n.forward s.exchanges s.forwards h.items a.asked e n.moment n.moment request target reply (omega (arith, number)))
                (linked_replied n.connection s.connections s.exchanges a.linked wanted.closes c (drop size k.unread) k is_open idle)
                (waiting_item a.since s.exchanges s.forwards (q ∷ h.items) (waiting_item a.since s.exchanges s.forwards h.items a.waiting q (a.asked.later_exchanges e (omega (arith, number)))) (ClientReply e n.moment reply) (a.asked.later_exchanges e (omega (arith, number))))
                (len_replied wanted.closes c (drop size k.unread) k k is_open);
          }
        where
          received_replied : (closes : Bool) → AreReceived s.numbers.connection s.numbers.forward (replied closes c (drop size k.unread) k s.connections) s.forwards h.client_octets h.origin_octets
          received_replied true = received_out s.numbers.connection s.numbers.forward s.connections s.forwards h.client_octets h.origin_octets a.received c
          received_replied false = received_same s.numbers.connection s.numbers.forward s.connections s.forwards h.client_octets h.origin_octets a.received c (after_reply (drop size k.unread) k)
              (read_replied (h.client_octets c) k idle (a.received.connections_are c k is_open) request target size arrives)

      -- it gets a reply at once, and behind that what is stored is validated
      asking_behind : (wanted : Wanted) (reply : Message ResponseHead) (m : Message RequestHead) (actions : List Action) (s' : State)
          → RepliesAndValidates (arrived wanted) reply m s actions s' → s'.numbers.records ≤ greatest_number
          → SoundStore a.since h.items s'.store → IsFit (is_head request.head.method) reply
          → IsRight recorded_format strict (ClientRequest (one_more s.numbers.exchange) s.numbers.moment request target ∷ h.items) (ClientReply (one_more s.numbers.exchange) s.numbers.moment reply)
          → m.head.method ≡ codes "GET" → IsWritableAsk m target → KeepsOn (Asking c) actions h s'
      asking_behind wanted reply m actions s' t le sound fit right get_method w =
          let n = s.numbers in
          let counts = a.counted in
          let e = one_more n.exchange in
          let f = one_more n.forward in
          let x : Exchange = record { number = e; position = length h.items + 1; request = request.head; target = target } in
          let last : one_more (one_more (one_more n.records)) ≤ greatest_number = subst (λ (m : Numbers). m.records ≤ greatest_number) t.numbers le in
          let second : one_more (one_more n.records) ≤ greatest_number = omega arith in
          let first : one_more n.records ≤ greatest_number = omega arith in
          let number : e ≡ n.exchange + 1 = one_more_is n.exchange (omega (arith, counts.exchanges, counts.in_range)) in
          let sends : f ≡ n.forward + 1 = one_more_is n.forward (omega (arith, counts.forwards, counts.in_range)) in
          let records : one_more n.records ≡ n.records + 1 = one_more_is n.records counts.in_range in
          let q = ClientRequest e n.moment request target in
          let r = ClientReply e n.moment reply in
          let h1 = with_record (request_record e n.moment request) q h in
          let h2 = with_record (reply_record e n.moment (is_head request.head.method) reply) r h1 in
          let h3 = with_record (forward_record f n.moment None m) (OriginRequest f n.moment m target None) h2 in
          let c1 = ask_counted n h request target a.counted writable_ask first in
          let c2 = reply_counted (asked n) h1 c1 second e x reply (omega (arith, number)) (omega (arith, number, counts.exchanges, first, records)) (rw (eq-eqb e e refl) refl) fit.writable fit.digits in
          record {
            later = h3;
            goes_on = record {
              records = record {
                newer = OriginRequest f n.moment m target None ∷ r ∷ q ∷ [];
                records_are = given_from actions
                    (ask_actions e n.moment request ++ reply_actions e n.moment (is_head request.head.method) c wanted.closes reply ++ send_actions f n.moment None m)
                    (request_record e n.moment request ∷ reply_record e n.moment (is_head request.head.method) reply ∷ forward_record f n.moment None m ∷ []) h.records t.actions_are
                    (ap (λ (rs : List Record). request_record e n.moment request ∷ rs) (reply_then e n.moment (is_head request.head.method) c wanted.closes reply f None m));
                items_are = refl;
                right = (((tt, tt), right), tt);
              };
              client_octets = refl;
              origin_octets = refl;
            };
            consistent = of_parts s' h3 a.since (sent (noted (asked n))) (replied wanted.closes c (drop size k.unread) k s.connections) s.exchanges
                (insert s.forwards f (sent_forward m.head target n.moment purpose.Background)) s'.store t.numbers t.connections t.exchanges t.forwards refl
                (send_counted (noted (asked n)) h2 None m target c2 refl w last)
                (still_sound a.since (r ∷ q ∷ h.items) (OriginRequest f n.moment m target None) s'.store refl
                (still_sound a.since (q ∷ h.items) r s'.store refl (still_sound a.since h.items q s'.store refl sound)))
                (received_sent n.connection n.forward (replied wanted.closes c (drop size k.unread) k s.connections) s.forwards h.client_octets h.origin_octets (received_behind wanted.closes) f
                (sent_forward m.head target n.moment purpose.Background) refl (omega (arith, sends)))
                (asked_validated n.exchange n.forward s.exchanges s.forwards h.items a.asked e f n.moment n.moment n.moment request m target reply (omega (arith, number)) (omega (arith, sends)) get_method)
                (linked_replied n.connection s.connections s.exchanges a.linked wanted.closes c (drop size k.unread) k is_open idle)
                (waiting_item a.since s.exchanges (insert s.forwards f (sent_forward m.head target n.moment purpose.Background)) (r ∷ q ∷ h.items)
                (waiting_sent a.since s.exchanges s.forwards (r ∷ q ∷ h.items)
                (waiting_item a.since s.exchanges s.forwards (q ∷ h.items) (waiting_item a.since s.exchanges s.forwards h.items a.waiting q (a.asked.later_exchanges e (omega (arith, number)))) r (a.asked.later_exchanges e (omega (arith, number))))
                f (sent_forward m.head target n.moment purpose.Background) (λ d y its there. absurd (none_is_some d its))) (OriginRequest f n.moment m target None) tt)
                (len_replied wanted.closes c (drop size k.unread) k k is_open);
          }
        where
          received_behind : (closes : Bool) → AreReceived s.numbers.connection s.numbers.forward (replied closes c (drop size k.unread) k s.connections) s.forwards h.client_octets h.origin_octets
          received_behind true = received_out s.numbers.connection s.numbers.forward s.connections s.forwards h.client_octets h.origin_octets a.received c
          received_behind false = received_same s.numbers.connection s.numbers.forward s.connections s.forwards h.client_octets h.origin_octets a.received c (after_reply (drop size k.unread) k)
              (read_replied (h.client_octets c) k idle (a.received.connections_are c k is_open) request target size arrives)

          none_is_some : (d : ℕ) → None ≡ Some d → ⊥
          none_is_some d e = cc

      -- it goes to the origin
      asking_forward : (wanted : Wanted) (m : Message RequestHead) (why : Cause) (kind : ForwardKind) (actions : List Action) (s' : State)
          → GoesForward (arrived wanted) m (purpose.Reply (one_more s.numbers.exchange) why kind) s actions s' → s'.numbers.records ≤ greatest_number
          → SoundStore a.since h.items s'.store → AsksFor (record { connection = c; request = request.head; target = target; waits_for = None }) why kind
          (sent_forward m.head target s.numbers.moment (purpose.Reply (one_more s.numbers.exchange) why kind)).forward
          → IsWritableAsk m target → KeepsOn (Asking c) actions h s'
      asking_forward wanted m why kind actions s' t le sound asks w =
          let n = s.numbers in
          let counts = a.counted in
          let e = one_more n.exchange in
          let f = one_more n.forward in
          let last : one_more (one_more n.records) ≤ greatest_number = subst (λ (m : Numbers). m.records ≤ greatest_number) t.numbers le in
          let first : one_more n.records ≤ greatest_number = omega arith in
          let number : e ≡ n.exchange + 1 = one_more_is n.exchange (omega (arith, counts.exchanges, counts.in_range)) in
          let sends : f ≡ n.forward + 1 = one_more_is n.forward (omega (arith, counts.forwards, counts.in_range)) in
          let q = ClientRequest e n.moment request target in
          let h1 = with_record (request_record e n.moment request) q h in
          let records : one_more n.records ≡ n.records + 1 = one_more_is n.records counts.in_range in
          let x : Exchange = record { number = e; position = length h.items + 1; request = request.head; target = target } in
          let h2 = with_record (forward_record f n.moment (Some e) m) (OriginRequest f n.moment m target (Some e)) h1 in
          let c1 = ask_counted n h request target a.counted writable_ask first in
          let received1 = received_same n.connection n.forward s.connections s.forwards h.client_octets h.origin_octets a.received c (after_request e (drop size k.unread) k)
          (read_request (h.client_octets c) k idle (a.received.connections_are c k is_open) e request target size arrives) in
          let x0 : OpenExchange = record { connection = c; request = request.head; target = target; waits_for = None } in
          let aim = sent_forward m.head target n.moment (purpose.Reply e why kind) in
          record {
            later = h2;
            goes_on = record {
              records = record {
                newer = OriginRequest f n.moment m target (Some e) ∷ q ∷ [];
                records_are = given_from actions (ask_actions e n.moment request ++ send_actions f n.moment (Some e) m) (request_record e n.moment request ∷ forward_record f n.moment (Some e) m ∷ []) h.records t.actions_are refl;
                items_are = refl;
                right = ((tt, tt), tt);
              };
              client_octets = refl;
              origin_octets = refl;
            };
            consistent = of_parts s' h2 a.since (sent (asked n)) (insert s.connections c (after_request e (drop size k.unread) k))
                (insert s.exchanges e (record { connection = c; request = request.head; target = target; waits_for = None }))
                (insert s.forwards f (sent_forward m.head target n.moment (purpose.Reply e why kind))) s'.store t.numbers t.connections t.exchanges t.forwards refl
                (send_counted (asked n) h1 (Some e) m target c1
                (right_cause e h1.items x (rw (eq-eqb e e refl) refl) (omega (arith, number, counts.exchanges, first, records))) w last)
                (still_sound a.since (q ∷ h.items) (OriginRequest f n.moment m target (Some e)) s'.store refl (still_sound a.since h.items q s'.store refl sound))
                (received_sent n.connection n.forward (insert s.connections c (after_request e (drop size k.unread) k)) s.forwards h.client_octets h.origin_octets received1 f
                (sent_forward m.head target n.moment (purpose.Reply e why kind)) refl (omega (arith, sends)))
                (asked_sent n.exchange n.forward s.exchanges s.forwards h.items a.asked c e f n.moment request m target why kind (omega (arith, number)) (omega (arith, sends)) asks)
                (linked_asked n.connection s.connections s.exchanges a.linked c e (drop size k.unread) k (record { connection = c; request = request.head; target = target; waits_for = None }) is_open idle
                (a.asked.later_exchanges e (omega (arith, number))) refl ask.forwardable)
                (waiting_item a.since (insert s.exchanges e x0) (insert s.forwards f aim) (q ∷ h.items)
                (waiting_sent a.since (insert s.exchanges e x0) s.forwards (q ∷ h.items)
                (waiting_opened a.since s.exchanges s.forwards (q ∷ h.items) (waiting_item a.since s.exchanges s.forwards h.items a.waiting q (a.asked.later_exchanges e (omega (arith, number)))) e x0 refl) f aim (λ d y its there. it_is_alone e d y its there)) (OriginRequest f n.moment m target (Some e)) tt)
                (len_kept c k (after_request e (drop size k.unread) k) is_open);
          }
        where
          some_same : (i j : ℕ) → Some i ≡ Some j → i ≡ j
          some_same i j e = cc

          it_is_alone : (e d : ℕ) (y : OpenExchange) → Some e ≡ Some d
              → get (insert s.exchanges e (record { connection = c; request = request.head; target = target; waits_for = None })) d ≡ Some y → y.waits_for ≡ None
          it_is_alone e d y its there =
              let x0 : OpenExchange = record { connection = c; request = request.head; target = target; waits_for = None } in
              ap (λ (z : OpenExchange). z.waits_for)
              (sym (one_of (get (insert s.exchanges e x0) e) x0 y (get_same s.exchanges e x0) (ap (get (insert s.exchanges e x0)) (some_same e d its) ∙ there)))

      -- it waits for the forward of another request
      asking_joined : (wanted : Wanted) (f : ℕ) (actions : List Action) (s' : State) → Joins (arrived wanted) f s actions s' → s'.numbers.records ≤ greatest_number
          → SoundStore a.since h.items s'.store → s'.store ≡ s.store → is_joinable request.head ≡ true → knows target s.store.entries ≡ false → KeepsOn (Asking c) actions h s'
      asking_joined wanted f actions s' t le sound same may unknown =
          let n = s.numbers in
          let counts = a.counted in
          let e = one_more n.exchange in
          let first : one_more n.records ≤ greatest_number = subst (λ (m : Numbers). m.records ≤ greatest_number) t.numbers le in
          let number : e ≡ n.exchange + 1 = one_more_is n.exchange (omega (arith, counts.exchanges, counts.in_range)) in
          let fresh = a.asked.later_exchanges e (omega (arith, number)) in
          let q = ClientRequest e n.moment request target in
          let h1 = with_record (request_record e n.moment request) q h in
          let x0 : OpenExchange = record { connection = c; request = request.head; target = target; waits_for = Some f } in
          let since = since_joined a.since target (next_position h.items) in
          let held : SoundStore since h.items s'.store =
          (joined_sources a.since target (next_position h.items) h.items s'.store (subst (λ (store : Holdings). knows target store.entries ≡ false) (sym same) unknown) sound.0, sound.1) in
          record {
            later = h1;
            goes_on = record {
              records = record {
                newer = q ∷ [];
                records_are = given_from actions (ask_actions e n.moment request) (request_record e n.moment request ∷ []) h.records t.actions_are refl;
                items_are = refl;
                right = (tt, tt);
              };
              client_octets = refl;
              origin_octets = refl;
            };
            consistent = of_parts s' h1 since (asked n) (insert s.connections c (after_request e (drop size k.unread) k)) (insert s.exchanges e x0) s.forwards s'.store
                t.numbers t.connections t.exchanges t.forwards refl
                (ask_counted n h request target a.counted writable_ask first)
                (still_sound since h.items q s'.store refl held)
                (received_same n.connection n.forward s.connections s.forwards h.client_octets h.origin_octets a.received c (after_request e (drop size k.unread) k)
                (read_request (h.client_octets c) k idle (a.received.connections_are c k is_open) e request target size arrives))
                (asked_joined n.exchange n.forward s.exchanges s.forwards h.items a.asked e n.moment request target x0 (omega (arith, number)) refl refl)
                (linked_asked n.connection s.connections s.exchanges a.linked c e (drop size k.unread) k x0 is_open idle fresh refl ask.forwardable)
                (waiting_joined a.since s.exchanges s.forwards h.items a.waiting e f n.moment x0 request fresh refl may
                (none_for_new n.exchange n.forward s.exchanges s.forwards h.items a.asked e (omega (arith, number))))
                (len_kept c k (after_request e (drop size k.unread) k) is_open);
          }

    pub asking : (c : ℕ) (actions : List Action) (s' : State) → Asks settings c s actions s' → s'.numbers.records ≤ greatest_number → KeepsOn (Asking c) actions h s'
    asking c actions s' t le =
        let k = t.connection in
        let ask = received_ask k.unread t.request t.target t.size t.arrives in
        let wanted = wanted_now settings s t.request.head k in
        let r = reaction_right a.since laws settings.name good.name s.numbers.moment early wanted.closes h.items (one_more s.numbers.exchange) t.request t.target ask (open_now s) s.store s'.store t.reaction (sound_of s h a) t.reacts in
        ⊎_elim
        (λ (gets : GetsReply a.since laws settings.name good.name s.numbers.moment early wanted.closes h.items (one_more s.numbers.exchange) t.request t.target ask t.reaction
        ⊎ (GetsBehind a.since laws settings.name good.name s.numbers.moment early wanted.closes h.items (one_more s.numbers.exchange) t.request t.target ask t.reaction
        ⊎ GetsForward a.since laws settings.name good.name s.numbers.moment early wanted.closes h.items (one_more s.numbers.exchange) t.request t.target ask t.reaction)).
        ⊎_elim
        (λ (g : GetsReply a.since laws settings.name good.name s.numbers.moment early wanted.closes h.items (one_more s.numbers.exchange) t.request t.target ask t.reaction).
        asking_alone c k t.is_open t.idle t.request t.target t.size t.arrives wanted g.reply actions s'
        (subst (λ (r : Reaction). DoesReaction r (arrived_on c k t.size (whole_request settings s t.request t.target k)) s actions s') g.reaction_is t.does) le r.0 g.fit g.right)
        (λ (others : GetsBehind a.since laws settings.name good.name s.numbers.moment early wanted.closes h.items (one_more s.numbers.exchange) t.request t.target ask t.reaction
        ⊎ GetsForward a.since laws settings.name good.name s.numbers.moment early wanted.closes h.items (one_more s.numbers.exchange) t.request t.target ask t.reaction).
        ⊎_elim
        (λ (g : GetsBehind a.since laws settings.name good.name s.numbers.moment early wanted.closes h.items (one_more s.numbers.exchange) t.request t.target ask t.reaction).
        asking_behind c k t.is_open t.idle t.request t.target t.size t.arrives wanted g.reply g.validation actions s'
        (subst (λ (r : Reaction). DoesReaction r (arrived_on c k t.size (whole_request settings s t.request t.target k)) s actions s') g.reaction_is t.does) le r.0 g.fit g.right g.get g.writable)
        (λ (g : GetsForward a.since laws settings.name good.name s.numbers.moment early wanted.closes h.items (one_more s.numbers.exchange) t.request t.target ask t.reaction).
        asking_forward c k t.is_open t.idle t.request t.target t.size t.arrives wanted g.forward g.why g.kind actions s'
        (subst (λ (r : Reaction). DoesReaction r (arrived_on c k t.size (whole_request settings s t.request t.target k)) s actions s') g.reaction_is t.does) le r.0
        (record { method = g.method; target = refl; by_store = g.by_store; asks_after = g.asks_after c }) g.writable)
        others)
        gets)
        (λ (g : GetsJoined a.since laws settings.name good.name s.numbers.moment early wanted.closes h.items (one_more s.numbers.exchange) t.request t.target ask s.store s'.store t.reaction).
        asking_joined c k t.is_open t.idle t.request t.target t.size t.arrives wanted g.forward actions s'
        (subst (λ (r : Reaction). DoesReaction r (arrived_on c k t.size (whole_request settings s t.request t.target k)) s actions s') g.reaction_is t.does) le r.0 g.same g.may g.unknown)
        r.1

    -- ---- what answers a forward

    module _ (f : ℕ) (w : Awaited) (is_open : get s.forwards f ≡ Some w) where
      recorded : forward_of f h.items ≡ Some (recorded_forward w.forward)
      recorded = a.asked.forwards_are f ∙ ap (option_map seen_forward) is_open

      some_forward : 1 ≤ f
      some_forward =
          elim (cases_eq f 0) [
            | inl none ↦ absurd (none_some (get s.forwards f) w (ap (get s.forwards) none ∙ a.asked.no_forward) is_open)
            | inr some ↦ omega arith
          ]

      few_forward : f ≤ greatest_number
      few_forward =
          let counts = a.counted in
          elim (cases_lt s.numbers.forward f) [
            | inl further ↦ absurd (not_further f w is_open further)
            | inr le ↦ omega (arith, counts.forwards, counts.in_range)
          ]

      it_ended : (item : Item) → IsElsewhere s.exchanges item → AreWaiting a.since s.exchanges (remove s.forwards f) (item ∷ h.items)
      it_ended item elsewhere = waiting_item a.since s.exchanges (remove s.forwards f) h.items (waiting_ended a.since s.exchanges s.forwards h.items a.waiting f) item elsewhere

      -- an exchange for which it is waits for no other one
      its_waits_for_none : (e : ℕ) (x : OpenExchange) → exchange_for w.forward.purpose ≡ Some e → get s.exchanges e ≡ Some x → x.waits_for ≡ None
      its_waits_for_none e x for_it there = go x.waits_for refl
        where
          go : (o : Option ℕ) → x.waits_for ≡ o → o ≡ None
          go None is = refl
          go (Some g) is = absurd (a.waiting.own e g f x w there is is_open for_it)

      -- a forward for nobody ends, by a record
      ends_behind : (turn : Turn) (r : Record) (item : Item) (given actions : List Action) (s' : State) → client_octets_with turn h.client_octets ≡ h.client_octets → origin_octets_with turn h.origin_octets ≡ h.origin_octets
          → records_of given ≡ r ∷ [] → EndsBehind f given s actions s' → AreCounted (noted s.numbers) (with_record r item h) → SoundStore a.since (item ∷ h.items) s'.store
          → ((e : ℕ) → exchange_of e (item ∷ h.items) ≡ exchange_of e h.items) → ((d : ℕ) → forward_of d (item ∷ h.items) ≡ cond (nat_eq f d) None (forward_of d h.items))
          → ((d : ℕ) → cause_of d (item ∷ h.items) ≡ cond (nat_eq f d) None (cause_of d h.items)) → IsRight recorded_format strict h.items item → ((xs : Table OpenExchange) → IsElsewhere xs item) → KeepsOn turn actions h s'
      ends_behind turn r item given actions s' client_octets origin_octets gives t counted sound opens_none closes forgets right elsewhere = record {
        later = with_record r item h;
        goes_on = record {
          records = record { newer = item ∷ []; records_are = given_from actions given (r ∷ []) h.records t.actions_are gives; items_are = refl; right = (tt, right) };
          client_octets = sym client_octets;
          origin_octets = sym origin_octets;
        };
        consistent = of_parts s' (with_record r item h) a.since (noted s.numbers) s.connections s.exchanges (remove s.forwards f) s'.store t.numbers t.keeps.connections t.keeps.exchanges t.forwards refl counted sound
            (received_ended s.numbers.connection s.numbers.forward s.connections s.forwards h.client_octets h.origin_octets a.received f)
            (asked_behind s.numbers.exchange s.numbers.forward s.exchanges s.forwards h.items a.asked f w item is_open opens_none closes forgets) a.linked
            (waiting_item a.since s.exchanges (remove s.forwards f) h.items (waiting_ended a.since s.exchanges s.forwards h.items a.waiting f) item (elsewhere s.exchanges)) a.few;
      }

      -- a forward ends, by a record, and the exchange that it was for gets its reply
      module _ (e : ℕ) (x0 : OpenExchange) (k : Connection) (awaits : get s.exchanges e ≡ Some x0) (on : get s.connections x0.connection ≡ Some k) where
        some_exchange : 1 ≤ e
        some_exchange = (numbered e x0 awaits).0

        few_exchange : e ≤ greatest_number
        few_exchange = (numbered e x0 awaits).1

        received_after : (closes : Bool) → (closes ≡ false → k.leaves ≡ false)
            → AreReceived s.numbers.connection s.numbers.forward (replied closes x0.connection k.unread k s.connections) (remove s.forwards f) h.client_octets h.origin_octets
        received_after true stays =
            received_out s.numbers.connection s.numbers.forward s.connections (remove s.forwards f) h.client_octets h.origin_octets
            (received_ended s.numbers.connection s.numbers.forward s.connections s.forwards h.client_octets h.origin_octets a.received f) x0.connection
        received_after false stays =
            received_same s.numbers.connection s.numbers.forward s.connections (remove s.forwards f) h.client_octets h.origin_octets
            (received_ended s.numbers.connection s.numbers.forward s.connections s.forwards h.client_octets h.origin_octets a.received f) x0.connection (after_reply k.unread k)
            (read_answered (h.client_octets x0.connection) k (stays refl) (a.received.connections_are x0.connection k on))

        ends_with_reply : (turn : Turn) (r : Record) (item : Item) (why : Cause) (given actions : List Action) (wanted : Wanted) (reply : Message ResponseHead) (s' : State) → client_octets_with turn h.client_octets ≡ h.client_octets
            → origin_octets_with turn h.origin_octets ≡ h.origin_octets → records_of given ≡ r ∷ [] → (wanted.closes ≡ false → k.leaves ≡ false)
            → records_of (given ++ reply_actions e s.numbers.moment (is_head x0.request.method) x0.connection wanted.closes reply) ≡ r ∷ reply_record e s.numbers.moment (is_head x0.request.method) reply ∷ []
            → EndsWithReply (record { forward = f; exchange = e; why = why; first = given }) (record { exchange = x0; connection = k; wanted = wanted }) reply s actions s' → s'.numbers.records ≤ greatest_number
            → (one_more s.numbers.records ≤ greatest_number → AreCounted (noted s.numbers) (with_record r item h)) → SoundStore a.since (item ∷ h.items) s'.store
            → ((d : ℕ) → exchange_of d (item ∷ h.items) ≡ exchange_of d h.items) → ((d : ℕ) → forward_of d (item ∷ h.items) ≡ cond (nat_eq f d) None (forward_of d h.items))
            → ((d : ℕ) → cause_of d (item ∷ h.items) ≡ cond (nat_eq f d) None (cause_of d h.items))
            → IsRight recorded_format strict h.items item → IsFit (is_head x0.request.method) reply → IsRight recorded_format strict (item ∷ h.items) (ClientReply e s.numbers.moment reply)
            → exchange_for w.forward.purpose ≡ Some e → ((xs : Table OpenExchange) → IsElsewhere xs item) → KeepsOn turn actions h s'
        ends_with_reply turn r item why given actions wanted reply s' client_octets origin_octets gives stays both t le counted sound opens_none closes forgets right fit replied_right its elsewhere =
            let n = s.numbers in
            let last : one_more (one_more n.records) ≤ greatest_number = subst (λ (m : Numbers). m.records ≤ greatest_number) t.numbers le in
            let counts = a.counted in
            let first : one_more n.records ≤ greatest_number = omega arith in
            let h1 = with_record r item h in
            let seen = subst (λ (o : Option OpenExchange). IsSeenExchange e o (exchange_of e h.items)) awaits (a.asked.exchanges_are e) in
            let x : Exchange = record { number = e; position = seen.0; request = x0.request; target = x0.target } in
            let h2 = with_record (reply_record e n.moment (is_head x0.request.method) reply) (ClientReply e n.moment reply) h1 in
            record {
              later = h2;
              goes_on = record {
                records = record {
                  newer = ClientReply e n.moment reply ∷ item ∷ [];
                  records_are = given_from actions (given ++ reply_actions e n.moment (is_head x0.request.method) x0.connection wanted.closes reply)
                      (r ∷ reply_record e n.moment (is_head x0.request.method) reply ∷ []) h.records t.actions_are both;
                  items_are = refl;
                  right = ((tt, right), replied_right);
                };
                client_octets = sym client_octets;
                origin_octets = sym origin_octets;
              };
              consistent = of_parts s' h2 a.since (noted (noted n)) (replied wanted.closes x0.connection k.unread k s.connections) (remove s.exchanges e) (remove s.forwards f) s'.store
                  t.numbers t.connections t.exchanges t.forwards refl
                  (reply_counted (noted n) h1 (counted first) last e x reply some_exchange few_exchange (opens_none e ∙ seen.1) fit.writable fit.digits)
                  (still_sound a.since (item ∷ h.items) (ClientReply e n.moment reply) s'.store refl sound)
                  (received_after wanted.closes stays)
                  (asked_answered n.exchange n.forward s.exchanges s.forwards h.items a.asked f w item is_open opens_none closes forgets e n.moment reply its)
                  (linked_answered n.connection s.connections s.exchanges a.linked e x0 k awaits on wanted.closes k.unread)
                  (waiting_item a.since (remove s.exchanges e) (remove s.forwards f) (item ∷ h.items)
                  (waiting_answered a.since s.exchanges (remove s.forwards f) (item ∷ h.items) (it_ended item (elsewhere s.exchanges)) e) (ClientReply e n.moment reply) (get_gone s.exchanges e))
                  (len_replied wanted.closes x0.connection k.unread k k on);
            }

        -- and the request goes to the origin anew
        ends_anew : (turn : Turn) (r : Record) (item : Item) (why : Cause) (given actions : List Action) (s' : State) → client_octets_with turn h.client_octets ≡ h.client_octets → origin_octets_with turn h.origin_octets ≡ h.origin_octets
            → records_of (given ++ send_actions (one_more s.numbers.forward) s.numbers.moment (Some e) (forward_anew settings.name x0.target x0.request))
            ≡ r ∷ forward_record (one_more s.numbers.forward) s.numbers.moment (Some e) (forward_anew settings.name x0.target x0.request) ∷ []
            → EndsWithForward (record { forward = f; exchange = e; why = why; first = given }) (asker_now settings s x0 k) (forward_anew settings.name x0.target x0.request) s actions s' → s'.numbers.records ≤ greatest_number
            → (one_more s.numbers.records ≤ greatest_number → AreCounted (noted s.numbers) (with_record r item h)) → SoundStore a.since (item ∷ h.items) s'.store
            → ((d : ℕ) → exchange_of d (item ∷ h.items) ≡ exchange_of d h.items) → ((d : ℕ) → forward_of d (item ∷ h.items) ≡ cond (nat_eq f d) None (forward_of d h.items))
            → ((d : ℕ) → cause_of d (item ∷ h.items) ≡ cond (nat_eq f d) None (cause_of d h.items))
            → IsRight recorded_format strict h.items item → exchange_for w.forward.purpose ≡ Some e → (asks_store why ≡ true → is_answered_by_store x0.request.method ≡ true) → ((xs : Table OpenExchange) → IsElsewhere xs item)
            → KeepsOn turn actions h s'
        ends_anew turn r item why given actions s' client_octets origin_octets both t le counted sound opens_none closes forgets right for_it by_store elsewhere =
            let n = s.numbers in
            let counts = a.counted in
            let g = one_more n.forward in
            let m = forward_anew settings.name x0.target x0.request in
            let last : one_more (one_more n.records) ≤ greatest_number = subst (λ (m : Numbers). m.records ≤ greatest_number) t.numbers le in
            let first : one_more n.records ≤ greatest_number = omega arith in
            let sends : g ≡ n.forward + 1 = one_more_is n.forward (omega (arith, counts.forwards, counts.in_range)) in
            let on_its = a.linked.on_connections e x0 awaits in
            let writable : IsWritableAsk m x0.target = record {
              readable = record { head = laws.unconditional_writable settings.name x0.target x0.request (cache_name settings.name good.name) on_its.forwardable; short = omega arith };
              target_is = laws.unconditional_keeps settings.name x0.target x0.request on_its.forwardable.has_target;
            } in
            let h1 = with_record r item h in
            let seen = subst (λ (o : Option OpenExchange). IsSeenExchange e o (exchange_of e h.items)) awaits (a.asked.exchanges_are e) in
            let x : Exchange = record { number = e; position = seen.0; request = x0.request; target = x0.target } in
            let h2 = with_record (forward_record g n.moment (Some e) m) (OriginRequest g n.moment m x0.target (Some e)) h1 in
            let aim = sent_forward m.head x0.target n.moment (purpose.Reply e why Plain) in
            record {
              later = h2;
              goes_on = record {
                records = record {
                  newer = OriginRequest g n.moment m x0.target (Some e) ∷ item ∷ [];
                  records_are = given_from actions (given ++ send_actions g n.moment (Some e) m) (r ∷ forward_record g n.moment (Some e) m ∷ []) h.records t.actions_are both;
                  items_are = refl;
                  right = ((tt, right), tt);
                };
                client_octets = sym client_octets;
                origin_octets = sym origin_octets;
              };
              consistent = of_parts s' h2 a.since (sent (noted n)) s.connections s.exchanges (insert (remove s.forwards f) g aim) s'.store t.numbers t.keeps.connections t.keeps.exchanges t.forwards refl
                  (send_counted (noted n) h1 (Some e) m x0.target (counted first) (right_cause e h1.items x (opens_none e ∙ seen.1) few_exchange) writable last)
                  (still_sound a.since (item ∷ h.items) (OriginRequest g n.moment m x0.target (Some e)) s'.store refl sound)
                  (received_sent n.connection n.forward s.connections (remove s.forwards f) h.client_octets h.origin_octets (received_ended n.connection n.forward s.connections s.forwards h.client_octets h.origin_octets a.received f) g aim refl
                  (omega (arith, sends)))
                  (asked_anew n.exchange n.forward s.exchanges s.forwards h.items a.asked f w item is_open opens_none closes forgets e g n.moment m why x0 for_it (omega (arith, sends)) awaits
                  (record { method = refl; target = refl; by_store = by_store; asks_after = λ is. absurd (false_true is) }))
                  a.linked
                  (waiting_item a.since s.exchanges (insert (remove s.forwards f) g aim) (item ∷ h.items)
                  (waiting_sent a.since s.exchanges (remove s.forwards f) (item ∷ h.items) (it_ended item (elsewhere s.exchanges)) g aim
                  (λ d y its there. its_waits_for_none d y (for_it ∙ its) there)) (OriginRequest g n.moment m x0.target (Some e)) tt)
                  a.few;
            }
          where
            false_true : false ≡ true → ⊥
            false_true e = cc

    second_false : (x y z : Bool) → (x || (y || z)) ≡ false → y ≡ false
    second_false true y z is = absurd (cc)
    second_false false true z is = is
    second_false false false z is = refl

    -- what the exchange that it is for wants
    module _ (f : ℕ) (w : Awaited) (is_open : get s.forwards f ≡ Some w) (e : ℕ) (why : Cause) (kind : ForwardKind) (is_for : w.forward.purpose ≡ purpose.Reply e why kind)
        (x0 : OpenExchange) (k : Connection) (awaits : get s.exchanges e ≡ Some x0) where
      its_keeps : IsFor s.exchanges e why kind w.forward
      its_keeps = subst (λ (p : Purpose). KeepsPurpose s.exchanges p w.forward) is_for (a.asked.purposes f w is_open)

      its_same : its_keeps.exchange ≡ x0
      its_same = one_of (get s.exchanges e) its_keeps.exchange x0 its_keeps.is_open awaits

      its_method : w.forward.request.method ≡ x0.request.method
      its_method = its_keeps.asks_for.method ∙ ap (λ (x : OpenExchange). x.request.method) its_same

      its_target : w.forward.target ≡ x0.target
      its_target = its_keeps.asks_for.target ∙ ap (λ (x : OpenExchange). x.target) its_same

      its_by_store : asks_store why ≡ true → is_answered_by_store x0.request.method ≡ true
      its_by_store asks = subst (λ (x : OpenExchange). is_answered_by_store x.request.method ≡ true) its_same (its_keeps.asks_for.by_store asks)

      its_reason : is_conditional kind ≡ true → is_of_stored why ≡ true
      its_reason is = (its_keeps.asks_for.asks_after is).reason

      its_exchange : (position : ℕ) × (exchange_of e h.items ≡ Some (record { number = e; position = position; request = x0.request; target = x0.target }))
      its_exchange = subst (λ (o : Option OpenExchange). IsSeenExchange e o (exchange_of e h.items)) awaits (a.asked.exchanges_are e)

      its_number : exchange_for w.forward.purpose ≡ Some e
      its_number = ap exchange_for is_for

      its_cause : cause_of f h.items ≡ Some e
      its_cause = a.asked.causes f w is_open ∙ its_number

      it_stays : closes_behind x0.request k s.numbers ≡ false → k.leaves ≡ false
      it_stays is = second_false (ends_connection x0.request) k.leaves s.numbers.closing is

    pub answering : (f : ℕ) (ended : Bool) (actions : List Action) (s' : State) → Answers settings f ended s actions s' → s'.numbers.records ≤ greatest_number → KeepsOn (Answering f ended) actions h s'
    answering f ended actions s' t le =
        let n = s.numbers in
        let w = t.awaited in
        let to_head = is_head w.forward.request.method in
        let response = t.response in
        let r = received_answer ended to_head w.received response t.arrives in
        let writable : IsWritableAnswer to_head response = record {
          readable = record {
            head = light_response_writable response.head RECORDED r.plain r.no_framing (omega (arith, r.lines.light)) (omega (arith, r.lines.few));
            short = r.short;
            bare = r.bare;
          };
          is_final = r.is_final;
        } in
        let before = sound_of s h a in
        let renewed : SoundStore a.since (OriginResponse f n.moment response ∷ h.items) t.renewed = (
          renewed_sources a.since h.items f n.moment response w.forward (recorded f w t.is_open) s.store t.renewed before.0
              (subst (λ (p : ℕ). Renews w.forward n.moment p response.head s.store t.renewed) next t.renews),
          renewed_can_reply w.forward n.moment (one_more n.records) to_head response s.store t.renewed r early before.1 t.renews,
        ) in
        by_purpose f ended actions s' t le r writable renewed w.forward.purpose refl t.ends
      where
        next : one_more s.numbers.records ≡ next_position h.items
        next = let counts = a.counted in let records = one_more_is s.numbers.records counts.in_range in omega (arith, records, counts.records)

        by_purpose : (f : ℕ) (ended : Bool) (actions : List Action) (s' : State) (t : Answers settings f ended s actions s') → s'.numbers.records ≤ greatest_number
            → IsReceivedAnswer (is_head t.awaited.forward.request.method) t.response → IsWritableAnswer (is_head t.awaited.forward.request.method) t.response
            → SoundStore a.since (OriginResponse f s.numbers.moment t.response ∷ h.items) t.renewed → (p : Purpose) → t.awaited.forward.purpose ≡ p
            → EndsByResponse p settings (answered_now f t.awaited.forward t.response t.renewed s) s actions s'
            → KeepsOn (Answering f ended) actions h s'
        by_purpose f ended actions s' t le r writable renewed purpose.Background is_for ends =
            let n = s.numbers in
            let w = t.awaited in
            let to_head = is_head w.forward.request.method in
            let first : one_more n.records ≤ greatest_number = subst (λ (m : Numbers). m.records ≤ greatest_number) ends.1.numbers le in
            ends_behind f w t.is_open (Answering f ended) (response_record f n.moment to_head t.response) (OriginResponse f n.moment t.response) (response_actions f n.moment to_head t.response) actions s'
            refl refl refl ends.1
            (response_counted n h a.counted first f (recorded_forward w.forward) t.response (some_forward f w t.is_open) (few_forward f w t.is_open) (recorded f w t.is_open) writable r.plain.greatest)
            (⊎_elim
            (λ (q : (is_news t.response.head ≡ true) × ((stored : Bool) × Stores w.forward n.moment t.response t.renewed stored s'.store)).
            stored_sound a.since h.items f n.moment t.response w.forward t.renewed q.1.0 s'.store (recorded f w t.is_open) r early (a.waiting.reached w.forward.target) renewed q.1.1)
            (λ (q : (is_news t.response.head ≡ false) × (s'.store ≡ t.renewed)). subst (SoundStore a.since (OriginResponse f n.moment t.response ∷ h.items)) (sym q.1) renewed)
            (on_test (is_news t.response.head) _ _ ends.0))
            (λ d. refl) (λ d. refl) (λ d. refl) tt (λ xs. tt)
        by_purpose f ended actions s' t le r writable renewed (purpose.Reply e why kind) is_for ends =
            let n = s.numbers in
            let w = t.awaited in
            let to_head = is_head w.forward.request.method in
            let x0 = ends.exchange in
            let k = ends.connection in
            let wanted = wanted_now settings s x0.request k in
            let seen = its_exchange f w t.is_open e why kind is_for x0 k ends.awaits in
            let out = response_outcome a.since settings.name good.name n.moment early wanted.closes h.items f w.forward (record { number = e; position = seen.0; request = x0.request; target = x0.target }) why
            (recorded f w t.is_open) seen.1 (its_method f w t.is_open e why kind is_for x0 k ends.awaits) (its_target f w t.is_open e why kind is_for x0 k ends.awaits)
            (its_by_store f w t.is_open e why kind is_for x0 k ends.awaits) (a.waiting.reached w.forward.target)
            t.response r (its_cause f w t.is_open e why kind is_for x0 k ends.awaits) (is_conditional kind) (its_reason f w t.is_open e why kind is_for x0 k ends.awaits) (one_more n.records) next t.renewed s'.store ends.outcome renewed ends.decided in
            ⊎_elim
            (λ (got : GetsAnswer a.since settings.name good.name n.moment early wanted.closes h.items f w.forward (record { number = e; position = seen.0; request = x0.request; target = x0.target }) why
            (recorded f w t.is_open) seen.1 (its_method f w t.is_open e why kind is_for x0 k ends.awaits) (its_target f w t.is_open e why kind is_for x0 k ends.awaits)
            (its_by_store f w t.is_open e why kind is_for x0 k ends.awaits) (a.waiting.reached w.forward.target) (OriginResponse f n.moment t.response ∷ h.items) ends.outcome).
            ends_with_reply f w t.is_open e x0 k ends.awaits ends.is_open (Answering f ended) (response_record f n.moment to_head t.response) (OriginResponse f n.moment t.response) why
            (response_actions f n.moment to_head t.response) actions wanted got.reply s' refl refl refl (it_stays f w t.is_open e why kind is_for x0 k ends.awaits)
            (ap (λ (rs : List Record). response_record f n.moment to_head t.response ∷ rs) (reply_given e n.moment (is_head x0.request.method) x0.connection wanted.closes got.reply))
            (subst (λ (o : Outcome). DoesOutcome o (record { forward = f; exchange = e; why = why; first = response_actions f n.moment to_head t.response }) (asker_now settings s x0 k) s actions s') got.outcome_is ends.does) le
            (λ first. response_counted n h a.counted first f (recorded_forward w.forward) t.response (some_forward f w t.is_open) (few_forward f w t.is_open) (recorded f w t.is_open) writable r.plain.greatest)
            out.0 (λ d. refl) (λ d. refl) (λ d. refl) tt got.fit got.right (its_number f w t.is_open e why kind is_for x0 k ends.awaits) (λ xs. tt))
            (λ (anew : ends.outcome ≡ GoesAnew).
            ends_anew f w t.is_open e x0 k ends.awaits ends.is_open (Answering f ended) (response_record f n.moment to_head t.response) (OriginResponse f n.moment t.response) why
            (response_actions f n.moment to_head t.response) actions s' refl refl refl
            (subst (λ (o : Outcome). DoesOutcome o (record { forward = f; exchange = e; why = why; first = response_actions f n.moment to_head t.response }) (asker_now settings s x0 k) s actions s') anew ends.does) le
            (λ first. response_counted n h a.counted first f (recorded_forward w.forward) t.response (some_forward f w t.is_open) (few_forward f w t.is_open) (recorded f w t.is_open) writable r.plain.greatest)
            out.0 (λ d. refl) (λ d. refl) (λ d. refl) tt (its_number f w t.is_open e why kind is_for x0 k ends.awaits)
            (its_by_store f w t.is_open e why kind is_for x0 k ends.awaits) (λ xs. tt))
            out.1

    failure_given : (f t : ℕ) (closes : Bool) → records_of (failure_actions f t closes) ≡ failure_record f t ∷ []
    failure_given f t true = refl
    failure_given f t false = refl

    failure_then : (f t : ℕ) (closes : Bool) (more : List Action) → records_of (failure_actions f t closes ++ more) ≡ failure_record f t ∷ records_of more
    failure_then f t true more = refl
    failure_then f t false more = refl

    pub failing : (f : ℕ) (how : Failure) (actions : List Action) (s' : State) → Breaks settings f how s actions s' → s'.numbers.records ≤ greatest_number → KeepsOn (Failing f how) actions h s'
    failing f how actions s' t le = by_purpose t.awaited.forward.purpose refl t.ends
      where
        by_purpose : (p : Purpose) → t.awaited.forward.purpose ≡ p → EndsByFailure p settings (failed_now f t.awaited.forward.target how s) s actions s' → KeepsOn (Failing f how) actions h s'
        by_purpose purpose.Background is_for ends =
            let n = s.numbers in
            let w = t.awaited in
            let first : one_more n.records ≤ greatest_number = subst (λ (m : Numbers). m.records ≤ greatest_number) ends.1.numbers le in
            ends_behind f w t.is_open (Failing f how) (failure_record f n.moment) (OriginFailure f n.moment) (failure_actions f n.moment (is_closed how)) actions s'
            refl refl (failure_given f n.moment (is_closed how)) ends.1
            (failure_counted n h a.counted first f (recorded_forward w.forward) (some_forward f w t.is_open) (few_forward f w t.is_open) (recorded f w t.is_open))
            (subst (SoundStore a.since (OriginFailure f n.moment ∷ h.items)) (sym ends.0) (still_sound a.since h.items (OriginFailure f n.moment) s.store refl (sound_of s h a)))
            (λ d. refl) (λ d. refl) (λ d. refl) tt (λ xs. tt)
        by_purpose (purpose.Reply e why kind) is_for ends =
            let n = s.numbers in
            let w = t.awaited in
            let x0 = ends.exchange in
            let k = ends.connection in
            let wanted = wanted_now settings s x0.request k in
            let seen = its_exchange f w t.is_open e why kind is_for x0 k ends.awaits in
            let out = failure_outcome a.since settings.name good.name n.moment early wanted.closes h.items f w.forward (record { number = e; position = seen.0; request = x0.request; target = x0.target }) why
            (recorded f w t.is_open) seen.1 (its_method f w t.is_open e why kind is_for x0 k ends.awaits) (its_target f w t.is_open e why kind is_for x0 k ends.awaits)
            (its_by_store f w t.is_open e why kind is_for x0 k ends.awaits) (a.waiting.reached w.forward.target) s.store s'.store ends.outcome (sound_of s h a) ends.decided in
            ends_with_reply f w t.is_open e x0 k ends.awaits ends.is_open (Failing f how) (failure_record f n.moment) (OriginFailure f n.moment) why
            (failure_actions f n.moment (is_closed how)) actions wanted out.1.reply s' refl refl (failure_given f n.moment (is_closed how)) (it_stays f w t.is_open e why kind is_for x0 k ends.awaits)
            (failure_then f n.moment (is_closed how) (reply_actions e n.moment (is_head x0.request.method) x0.connection wanted.closes out.1.reply)
            ∙ ap (λ (rs : List Record). failure_record f n.moment ∷ rs) (reply_given e n.moment (is_head x0.request.method) x0.connection wanted.closes out.1.reply))
            (subst (λ (o : Outcome). DoesOutcome o (record { forward = f; exchange = e; why = why; first = failure_actions f n.moment (is_closed how) }) (asker_now settings s x0 k) s actions s') out.1.outcome_is ends.does) le
            (λ first. failure_counted n h a.counted first f (recorded_forward w.forward) (some_forward f w t.is_open) (few_forward f w t.is_open) (recorded f w t.is_open))
            out.0 (λ d. refl) (λ d. refl) (λ d. refl) tt out.1.fit out.1.right (its_number f w t.is_open e why kind is_for x0 k ends.awaits) (λ xs. tt)

    -- ---- an exchange that waited is released

    module _ (e g : ℕ) (x0 : OpenExchange) (k : Connection) (awaits : get s.exchanges e ≡ Some x0) (waits : x0.waits_for ≡ Some g) (on : get s.connections x0.connection ≡ Some k) where
      none_is_for : (f : ℕ) (w : Awaited) → get s.forwards f ≡ Some w → exchange_for w.forward.purpose ≡ Some e → ⊥
      none_is_for f w is for_e = a.waiting.own e g f x0 w awaits waits is for_e

      waiter_seen : (position : ℕ) × (exchange_of e h.items ≡ Some (record { number = e; position = position; request = x0.request; target = x0.target }))
      waiter_seen = subst (λ (o : Option OpenExchange). IsSeenExchange e o (exchange_of e h.items)) awaits (a.asked.exchanges_are e)

      its_answered : is_answered_by_store x0.request.method ≡ true
      its_answered = or_left _ _ (and_parts (is_get x0.request.method) _ (a.waiting.joinable e g x0 awaits waits)).0

      received_shared : (closes : Bool) → (closes ≡ false → k.leaves ≡ false)
          → AreReceived s.numbers.connection s.numbers.forward (replied closes x0.connection k.unread k s.connections) s.forwards h.client_octets h.origin_octets
      received_shared true stays = received_out s.numbers.connection s.numbers.forward s.connections s.forwards h.client_octets h.origin_octets a.received x0.connection
      received_shared false stays =
          received_same s.numbers.connection s.numbers.forward s.connections s.forwards h.client_octets h.origin_octets a.received x0.connection (after_reply k.unread k)
          (read_answered (h.client_octets x0.connection) k (stays refl) (a.received.connections_are x0.connection k on))

      -- it gets its reply
      releasing_shared : (stored : Stored) (actions : List Action) (s' : State) → RepliesShared e (asker_now settings s x0 k) stored s actions s' → s'.numbers.records ≤ greatest_number
          → SoundStore a.since h.items s'.store → IsFit (is_head x0.request.method) (collapsed_reply (wanted_now settings s x0.request k) stored)
          → IsRight recorded_format strict h.items (ClientReply e s.numbers.moment (collapsed_reply (wanted_now settings s x0.request k) stored)) → KeepsOn (Releasing e) actions h s'
      releasing_shared stored actions s' t le sound fit right =
          let n = s.numbers in
          let wanted = wanted_now settings s x0.request k in
          let reply = collapsed_reply wanted stored in
          let first : one_more n.records ≤ greatest_number = subst (λ (m : Numbers). m.records ≤ greatest_number) t.numbers le in
          let seen = waiter_seen in
          let x : Exchange = record { number = e; position = seen.0; request = x0.request; target = x0.target } in
          let h1 = with_record (reply_record e n.moment (is_head x0.request.method) reply) (ClientReply e n.moment reply) h in
          record {
            later = h1;
            goes_on = record {
              records = record {
                newer = ClientReply e n.moment reply ∷ [];
                records_are = given_from actions (reply_actions e n.moment (is_head x0.request.method) x0.connection wanted.closes reply)
                    (reply_record e n.moment (is_head x0.request.method) reply ∷ []) h.records t.actions_are (reply_given e n.moment (is_head x0.request.method) x0.connection wanted.closes reply);
                items_are = refl;
                right = (tt, right);
              };
              client_octets = refl;
              origin_octets = refl;
            };
            consistent = of_parts s' h1 a.since (noted n) (replied wanted.closes x0.connection k.unread k s.connections) (remove s.exchanges e) s.forwards s'.store
                t.numbers t.connections t.exchanges t.forwards refl
                (reply_counted n h a.counted first e x reply (numbered e x0 awaits).0 (numbered e x0 awaits).1 seen.1 fit.writable fit.digits)
                (still_sound a.since h.items (ClientReply e n.moment reply) s'.store refl sound)
                (received_shared wanted.closes (λ is. second_false (ends_connection x0.request) k.leaves s.numbers.closing is))
                (asked_shared n.exchange n.forward s.exchanges s.forwards h.items a.asked e none_is_for n.moment reply)
                (linked_answered n.connection s.connections s.exchanges a.linked e x0 k awaits on wanted.closes k.unread)
                (waiting_item a.since (remove s.exchanges e) s.forwards h.items (waiting_answered a.since s.exchanges s.forwards h.items a.waiting e) (ClientReply e n.moment reply) (get_gone s.exchanges e))
                (len_replied wanted.closes x0.connection k.unread k k on);
          }

      -- it goes to the origin by a forward of its own
      releasing_alone : (actions : List Action) (s' : State) → GoesAlone e (asker_now settings s x0 k) s actions s' → s'.numbers.records ≤ greatest_number
          → SoundStore a.since h.items s'.store → KeepsOn (Releasing e) actions h s'
      releasing_alone actions s' t le sound =
          let n = s.numbers in
          let counts = a.counted in
          let f = one_more n.forward in
          let m = forward_alone settings.name x0.target x0.request in
          let first : one_more n.records ≤ greatest_number = subst (λ (m : Numbers). m.records ≤ greatest_number) t.numbers le in
          let sends : f ≡ n.forward + 1 = one_more_is n.forward (omega (arith, counts.forwards, counts.in_range)) in
          let its = a.linked.on_connections e x0 awaits in
          let writable : IsWritableAsk m x0.target = record {
            readable = record { head = laws.writable settings.name x0.target x0.request (cache_name settings.name good.name) its.forwardable; short = omega arith };
            target_is = laws.keeps_target settings.name x0.target x0.request its.forwardable.has_target;
          } in
          let seen = waiter_seen in
          let x : Exchange = record { number = e; position = seen.0; request = x0.request; target = x0.target } in
          let y = released x0 in
          let aim = sent_forward m.head x0.target n.moment (purpose.Reply e UriMiss Joinable) in
          let h1 = with_record (forward_record f n.moment (Some e) m) (OriginRequest f n.moment m x0.target (Some e)) h in
          let asked1 = asked_released n.exchange n.forward s.exchanges s.forwards h.items a.asked e none_is_for x0 y awaits refl refl in
          record {
            later = h1;
            goes_on = record {
              records = record {
                newer = OriginRequest f n.moment m x0.target (Some e) ∷ [];
                records_are = given_from actions (send_actions f n.moment (Some e) m) (forward_record f n.moment (Some e) m ∷ []) h.records t.actions_are refl;
                items_are = refl;
                right = (tt, tt);
              };
              client_octets = refl;
              origin_octets = refl;
            };
            consistent = of_parts s' h1 a.since (sent n) s.connections (insert s.exchanges e y) (insert s.forwards f aim) s'.store t.numbers t.connections t.exchanges t.forwards refl
                (send_counted n h (Some e) m x0.target a.counted (right_cause e h.items x seen.1 (numbered e x0 awaits).1) writable first)
                (still_sound a.since h.items (OriginRequest f n.moment m x0.target (Some e)) s'.store refl sound)
                (received_sent n.connection n.forward s.connections s.forwards h.client_octets h.origin_octets a.received f aim refl (omega (arith, sends)))
                (asked_more n.exchange n.forward (insert s.exchanges e y) s.forwards h.items asked1 f n.moment m x0.target (purpose.Reply e UriMiss Joinable) (omega (arith, sends))
                (record {
                  exchange = y;
                  is_open = get_same s.exchanges e y;
                  asks_for = record { method = refl; target = refl; by_store = λ _. its_answered; asks_after = λ is. absurd (false_true is) };
                })
                (λ d i z is for_z same. none_is_for d z is (for_z ∙ sym same)))
                (linked_released n.connection s.connections s.exchanges a.linked e x0 y awaits refl refl refl)
                (waiting_item a.since (insert s.exchanges e y) (insert s.forwards f aim) h.items
                (waiting_sent a.since (insert s.exchanges e y) s.forwards h.items (waiting_opened a.since s.exchanges s.forwards h.items a.waiting e y refl) f aim
                (λ d z its there. ap (λ (x : OpenExchange). x.waits_for)
                (sym (one_of (get (insert s.exchanges e y) e) y z (get_same s.exchanges e y) (ap (get (insert s.exchanges e y)) (some_same e d its) ∙ there)))))
                (OriginRequest f n.moment m x0.target (Some e)) tt)
                a.few;
          }
        where
          false_true : false ≡ true → ⊥
          false_true e = cc

          some_same : (i j : ℕ) → Some i ≡ Some j → i ≡ j
          some_same i j e = cc

    pub releasing : (e : ℕ) (actions : List Action) (s' : State) → Releases settings e s actions s' → s'.numbers.records ≤ greatest_number → KeepsOn (Releasing e) actions h s'
    releasing e actions s' t le = by_choice t.chosen t.finds t.does
      where
        sound : (chosen : Option Stored) → Finds t.exchange.target t.exchange.request.fields s.store chosen s'.store → SoundStore a.since h.items s'.store
        sound chosen finds = found_sound a.since h.items t.exchange.target t.exchange.request.fields s.store chosen s'.store (sound_of s h a) finds

        by_choice : (chosen : Option Stored) → Finds t.exchange.target t.exchange.request.fields s.store chosen s'.store
            → DoesRelease (shared s.numbers.moment chosen) e (asker_now settings s t.exchange t.connection) s actions s' → KeepsOn (Releasing e) actions h s'
        by_choice None finds does = releasing_alone e t.forward t.exchange t.connection t.awaits t.waits t.is_open actions s' does le (sound None finds)
        by_choice (Some stored) finds does = by_test (may_be_shared stored s.numbers.moment) refl does
          where
            by_test : (b : Bool) → may_be_shared stored s.numbers.moment ≡ b → DoesRelease (cond b (Some stored) None) e (asker_now settings s t.exchange t.connection) s actions s'
                → KeepsOn (Releasing e) actions h s'
            by_test false is does = releasing_alone e t.forward t.exchange t.connection t.awaits t.waits t.is_open actions s' does le (sound (Some stored) finds)
            by_test true is does =
                let before = sound_of s h a in
                let wanted = wanted_now settings s t.exchange.request t.connection in
                let seen = waiter_seen e t.forward t.exchange t.connection t.awaits t.waits t.is_open in
                let x : Exchange = record { number = e; position = seen.0; request = t.exchange.request; target = t.exchange.target } in
                let source = chosen_held (HasSource a.since h.items) t.exchange.target t.exchange.request.fields s.store.entries stored before.0.sources finds.0 in
                let can = (chosen_held (λ _ stored. CanReply stored) t.exchange.target t.exchange.request.fields s.store.entries stored before.1 finds.0).0 in
                releasing_shared e t.forward t.exchange t.connection t.awaits t.waits t.is_open stored actions s' does le (sound (Some stored) finds)
                (collapsed_fit wanted stored good.name can)
                (shared_right h.items x s.numbers.moment settings.name wanted.closes stored source.0 can
                (its_answered e t.forward t.exchange t.connection t.awaits t.waits t.is_open) source.1 seen.1
                (a.waiting.behind e t.forward t.exchange x t.awaits t.waits seen.1) is (collapsed_writable settings.name good.name).plain)

    -- each turn
    pub turn_keeps : (turn : Turn) (actions : List Action) (s' : State) → Takes settings turn s actions s' → s'.numbers.records ≤ greatest_number → KeepsOn turn actions h s'
    turn_keeps (Opening c) actions s' t le = opening c actions s' t
    turn_keeps (ClientSending c octets) actions s' t le = client_sending c octets actions s' t
    turn_keeps (Asking c) actions s' t le = asking c actions s' t le
    turn_keeps (Refusal c status) actions s' t le = refusing c status actions s' t
    turn_keeps (Dropping c) actions s' t le = dropping c actions s' t
    turn_keeps (Leaving c) actions s' t le = leaving c actions s' t
    turn_keeps (Closing c) actions s' t le = closing c actions s' t
    turn_keeps (OriginSending f octets) actions s' t le = origin_sending f octets actions s' t
    turn_keeps (Answering f ended) actions s' t le = answering f ended actions s' t le
    turn_keeps (Failing f how) actions s' t le = failing f how actions s' t le
    turn_keeps (Releasing e) actions s' t le = releasing e actions s' t le
    turn_keeps Stopping actions s' t le = stopped actions s' t
