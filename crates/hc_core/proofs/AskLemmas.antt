-- A whole request: what it gets at once, and what that makes of each part.
use Rattle.std.proofs.Common.{append_assoc, ◌≡◌, ℕ, Bool, true, false, ◌&&◌, ◌||◌, not, nat_lt, cond, List, ◌++◌, drop, Option, Some, None, Result, Ok, Err, OnOk, refl, sym, ap, ◌∙◌, subst}
use Rattle.std.specs.BTreeMap.{BTreeMap}
use Rattle.std.specs.FinMap.{get, insert, remove, values}
use Rattle.std.specs.List.{count_by, list_any}
use Rattle.hc_head.specs.declared.head.RequestHead.{RequestHead}
use Rattle.hc_head.specs.declared.head.ResponseHead.{ResponseHead}
use Rattle.hc_head.specs.declared.head.Target.{Target}
use Rattle.hc_head.specs.Methods.{is_head}
use Rattle.hc_framing.specs.declared.message.Message.{Message}
use Rattle.hc_rules.specs.Forwards.{conditional_request}
use Rattle.hc_update.specs.declared.stored.Stored.{Stored}
use Rattle.hc_store.specs.Entries.{Holdings, knows}
use Rattle.hc_service.specs.declared.action.Action.{Action}
use Rattle.hc_service.specs.declared.cases.Cause.{Cause}
use Rattle.hc_service.specs.declared.numbers.Numbers.{Numbers}
use Rattle.hc_service.specs.declared.open.ForwardKind.{ForwardKind}
use Rattle.hc_service.specs.declared.open.ForwardKind.TheVariants.{Conditional, Plain}
use Rattle.hc_service.specs.declared.open.OpenExchange.{OpenExchange}
use Rattle.hc_service.specs.declared.open.Purpose.TheVariants as purpose
use Rattle.hc_service.specs.declared.settings.CoreSettings.{CoreSettings}
use Rattle.hc_service.specs.Asking.{ends_connection}
use Rattle.hc_service.specs.Numbers.{asked, noted, one_more, sent}
use Rattle.hc_service.specs.Cases.{Case, case_before_store, case_by_store}
use Rattle.hc_service.specs.Cases.Case.{Hit, Forward}
use Rattle.hc_service.specs.Joining.{IsLeast}
use Rattle.hc_service.specs.Reactions.{Reaction, Reacts, ReactsBy, ReactsJoined, WholeRequest, would_wait, bare, chosen_reaction, forward_reaction, is_background, is_validated_behind, most_background, stored_forward}
use Rattle.hc_service.specs.Reactions.Reaction.{Replies, Sends, Waits}
use Rattle.hc_service.specs.Replying.{Wanted, hit_reply}
use Rattle.hc_service.specs.Sending.{ask_actions, reply_actions, send_actions}
use Rattle.hc_service.specs.Serves.Turn.{Asking}
use Rattle.hc_service.specs.Serving.{is_fresh, while_revalidating}
use Rattle.hc_service.specs.State.{State, Table, Connection, Awaited, OpenNow, open_now}
use Rattle.hc_service.specs.Turns.{after_reply, after_request, closes_behind, replied, sent_forward, wanted_now, whole_request}
use Rattle.hc_reactions.specs.declared.reacting.Reaction.{Reaction as GivenReaction}
use Rattle.hc_reactions.specs.declared.reacting.OpenBehind.{OpenBehind}
use Rattle.hc_reactions.specs.Reacting.{IsOpenBehind, IsUnderway, owed_reaction}
use Rattle.hc_core.specs.declared.desk.Desk.{Desk}
use Rattle.hc_open.specs.declared.links.Client.{Client}
use Rattle.hc_open.specs.declared.open_exchanges.OpenExchanges.{OpenExchanges}
use Rattle.hc_open.specs.declared.open_links.OpenLinks.{OpenLinks}
use Rattle.hc_core.specs.declared.answering.HeldExchange.{HeldExchange}
use Rattle.hc_open.specs.Links.{AreClients, AreExchanges, AreLinks, HasPlace, is_behind}
use Rattle.hc_core.specs.Reading.{JoinsForward, SendsForward, SendsReplies, SendsReply, SendsReplyThenBehind, IsAsked, SendsBehind, opens_behind}
use Rattle.hc_core.specs.Standing.{GivesTurn, DeskStandsFor, without_connection, from_state, at_desk, Reached}
use Rattle.hc_open.proofs.BehindLemmas.{reply_has_place}
use Rattle.hc_open.proofs.TableLemmas.{put_back}

-- a reply that is wanted
abbrev pub wanted_by : List ℕ → ℕ → RequestHead → Bool → Wanted
wanted_by name moment request closes = record { name = name; moment = moment; asked = request; closes = closes }

-- a reaction of the code, and the same where it is known which it is; by what it was told of the forwards for the store alone
pub reacts_as : (wanted : Wanted) (target : Target) (request : Message RequestHead) (old new : Holdings) (links : OpenLinks) (exchanges : OpenExchanges) (behind : OpenBehind) (joinable : Option ℕ)
    (given known : GivenReaction) → given ≡ known
    → ((forwards : Table Awaited) → AreLinks links forwards → IsOpenBehind target forwards behind)
    → ((underway : OpenNow) → AreLinks links underway.forwards → AreExchanges exchanges underway.exchanges → IsLeast target underway joinable)
    → ((underway : OpenNow) → IsUnderway target underway (record { behind = behind; least_joinable = joinable })
    → Reacts (record { request = request; target = target; wanted = wanted }) underway old (owed_reaction given) new)
    → (underway : OpenNow) → AreLinks links underway.forwards → AreExchanges exchanges underway.exchanges
    → Reacts (record { request = request; target = target; wanted = wanted }) underway old (owed_reaction known) new
reacts_as wanted target request old new links exchanges behind joinable given known is counts least reacts underway are open_are =
    subst (λ (r : GivenReaction). Reacts (record { request = request; target = target; wanted = wanted }) underway old (owed_reaction r) new) is
    (reacts underway (record { behind = counts underway.forwards are; least_joinable = least underway are open_are }))

-- ---- a validation behind a reply is sent only where it has place

-- whether a request goes to the origin behind the reply
validates : Reaction → Bool
validates (Replies reply None) = false
validates (Replies reply (Some validation)) = true
validates (Sends forward why kind) = false
validates (Waits forward) = false

false_true : false ≡ true → ⊥
false_true e = cc

by_test : (test : Bool) (reply : Message ResponseHead) (validation : Message RequestHead) → validates (Replies reply (cond test (Some validation) None)) ≡ true → test ≡ true
unfolding validates
by_test true reply validation does = refl
by_test false reply validation does = absurd (false_true does)

none_of_three : (stale within few taken : Bool) → (stale && within && (few && not taken)) ≡ true → taken ≡ false
none_of_three stale within few false has = refl
none_of_three true true true true has = cc
none_of_three true true false true has = cc
none_of_three true false few true has = cc
none_of_three false within few true has = cc

module _ (wanted : Wanted) (target : Target) (request : Message RequestHead) (underway : OpenNow) where
  abbrev forwards : Table Awaited
  forwards = underway.forwards

  sends_alone : (why : Cause) (test : Bool) (one other : Message RequestHead) → validates (cond test (Sends one why Conditional) (Sends other why Plain)) ≡ false
  unfolding validates
  sends_alone why true one other = refl
  sends_alone why false one other = refl

  stored_alone : (why : Cause) (chosen : Option Stored) → validates (stored_forward wanted target request why chosen) ≡ false
  unfolding validates
  stored_alone why None = refl
  stored_alone why (Some stored) = sends_alone why _ _ _

  refused_or : (test : Bool) (reply : Message ResponseHead) (other : Reaction) → validates other ≡ false → validates (cond test (Replies reply None) other) ≡ false
  unfolding validates
  refused_or true reply other alone = refl
  refused_or false reply other alone = alone

  forwards_alone : (why : Cause) (chosen : Option Stored) → validates (forward_reaction wanted target request chosen why) ≡ false
  forwards_alone why chosen = refused_or _ _ (stored_forward wanted target request why chosen) (stored_alone why chosen)

  never : (r : Reaction) → validates r ≡ false → validates r ≡ true → ⊥
  never r no_it does = cc

  chosen_place : (chosen : Option Stored) (which : Case) → validates (chosen_reaction wanted target request forwards chosen which) ≡ true
      → list_any (is_behind target) (values forwards) ≡ false
  unfolding validates
  chosen_place chosen (Hit stored) does =
      none_of_three (not (is_fresh stored wanted.moment)) (while_revalidating stored wanted.moment) (nat_lt (count_by is_background (values forwards)) most_background)
      (list_any (is_behind target) (values forwards))
      (by_test (is_validated_behind stored wanted.moment target forwards) (hit_reply wanted stored) (bare (conditional_request wanted.name target wanted.asked stored.fields)) does)
  chosen_place chosen (Forward why) does = absurd (never _ (forwards_alone why chosen) does)

  abbrev whole : WholeRequest
  whole = record { request = request; target = target; wanted = wanted }

  joined_place : (least : Option ℕ) (old new : Holdings) (reaction : Reaction) → ReactsJoined least whole forwards old reaction new → validates reaction ≡ true
      → list_any (is_behind target) (values forwards) ≡ false
  unfolding validates
  joined_place (Some f) old new reaction reacts does = absurd (never (Waits f) refl (sym (ap validates reacts.0) ∙ does))
  joined_place None old new reaction reacts does =
      chosen_place reacts.chosen (case_by_store request.head.fields (knows target old.entries) reacts.chosen wanted.moment) (sym (ap validates reacts.reaction_is) ∙ does)

  place_by : (why : Option Cause) (old new : Holdings) (reaction : Reaction) → ReactsBy why whole underway old reaction new → validates reaction ≡ true
      → list_any (is_behind target) (values forwards) ≡ false
  place_by (Some why) old new reaction reacts does =
      absurd (never _ (forwards_alone why None) (sym (ap validates reacts.0) ∙ does))
  place_by None old new reaction reacts does = joined_place (cond (would_wait whole old) reacts.least None) old new reaction reacts.reacts does

  -- none is open for the target
  pub validated_in_place : (old new : Holdings) (reply : Message ResponseHead) (validation : Message RequestHead)
      → Reacts whole underway old (Replies reply (Some validation)) new → list_any (is_behind target) (values forwards) ≡ false
  unfolding validates
  validated_in_place old new reply validation reacts = place_by (case_before_store request) old new (Replies reply (Some validation)) reacts refl

module _ (S H : Type 0) (settings : CoreSettings) (d : Desk S H) (s : State) (c : ℕ) (k : Connection) (client : Client) (request : Message RequestHead) (target : Target) (size : ℕ) where
  -- the request has its record, and its reaction
  pub record HasReaction (closes : Bool) (exchange : ℕ) (numbers : Numbers) (before after : List Action) (reaction : Reaction) (store : Holdings) : Type 0 where
    pub closes_is : closes ≡ (ends_connection request.head || (client.leaves || d.numbers.closing))
    pub exchange_is : exchange ≡ one_more d.numbers.exchange
    pub numbers_are : numbers ≡ asked d.numbers
    pub actions_are : after ≡ before ++ ask_actions (one_more d.numbers.exchange) d.numbers.moment request
    pub reacts : (underway : OpenNow) → AreLinks d.links underway.forwards → AreExchanges d.exchanges underway.exchanges
        → Reacts (record { request = request; target = target; wanted = wanted_by d.name numbers.moment request.head closes }) underway d.store reaction store

  module _ (closes : Bool) (exchange : ℕ) (numbers : Numbers) (before mid : List Action) (reaction : Reaction) (store : Holdings)
      (stands : DeskStandsFor {S = S} {H = H} settings d (without_connection c s)) (there : get s.connections c ≡ Some k) (is : IsAsked client k request target size)
      (has : HasReaction closes exchange numbers before mid reaction store) where
    exchange_now : exchange ≡ one_more s.numbers.exchange
    exchange_now = has.exchange_is ∙ ap (λ (n : Numbers). one_more n.exchange) stands.numbers

    numbers_now : numbers ≡ asked s.numbers
    numbers_now = has.numbers_are ∙ ap asked stands.numbers

    moment_now : numbers.moment ≡ s.numbers.moment
    moment_now = ap (λ (n : Numbers). n.moment) numbers_now

    forward_now : one_more numbers.forward ≡ one_more s.numbers.forward
    forward_now = ap (λ (n : Numbers). one_more n.forward) numbers_now

    closes_now : closes ≡ closes_behind request.head k s.numbers
    closes_now = has.closes_is ∙ (λ i. ends_connection request.head || (is.leaves i || (stands.numbers i).closing))

    asked_now : mid ≡ before ++ ask_actions (one_more s.numbers.exchange) s.numbers.moment request
    asked_now = has.actions_are ∙ ap (λ (n : Numbers). before ++ ask_actions (one_more n.exchange) n.moment request) stands.numbers

    wanted_is : wanted_by d.name numbers.moment request.head closes ≡ wanted_now settings s request.head k
    wanted_is = λ i. wanted_by (stands.name i) (moment_now i) request.head (closes_now i)

    reacts_now : Reacts (whole_request settings s request target k) (open_now s) s.store reaction store
    reacts_now = subst (λ (w : Wanted × Holdings). Reacts (record { request = request; target = target; wanted = w.0 }) (open_now s) w.1 reaction store) (λ i. (wanted_is i, stands.store i))
        (has.reacts (open_now s) stands.links stands.exchanges)

    -- actions behind the record
    behind_asked : (after : List Action) (more more' : List Action) → after ≡ mid ++ more → more ≡ more'
        → after ≡ before ++ (ask_actions (one_more s.numbers.exchange) s.numbers.moment request ++ more')
    behind_asked after more more' are same =
        are ∙ ap (λ (l : List Action). l ++ more) asked_now ∙ append_assoc before _ more
        ∙ ap (λ (l : List Action). before ++ (ask_actions (one_more s.numbers.exchange) s.numbers.moment request ++ l)) same

  pub asks_reply : (closes : Bool) (exchange : ℕ) (n : Numbers) (before mid after : List Action) (reply : Message ResponseHead) (store : Holdings) (new : Desk S H)
      → DeskStandsFor {S = S} {H = H} settings d (without_connection c s) → get s.connections c ≡ Some k → IsAsked client k request target size
      → HasReaction closes exchange n before mid (Replies reply None) store
      → SendsReply {S = S} {H = H} (record { number = exchange; exchange = record { connection = c; request = request.head; target = target; waits_for = None }; client = client }) closes reply (at_desk mid (record { alloc = d.alloc; incidents = d.incidents; name = d.name; numbers = n; clients = d.clients; exchanges = d.exchanges; links = d.links; store = store })) (at_desk after new)
      → GivesTurn {S = S} {H = H} (from_state settings s before) (Asking c) (at_desk after new)
  asks_reply closes exchange n before mid after reply store new stands there is has gives =
      let e = exchange_now closes exchange n before mid (Replies reply None) store stands there is has in
      let t = moment_now closes exchange n before mid (Replies reply None) store stands there is has in
      let b = closes_now closes exchange n before mid (Replies reply None) store stands there is has in
      let behind = drop size k.unread in
      let answer : List Action = reply_actions (one_more s.numbers.exchange) s.numbers.moment (is_head request.head.method) c (closes_behind request.head k s.numbers) reply in
      record {
        state = record {
          numbers = noted (asked s.numbers);
          connections = replied (closes_behind request.head k s.numbers) c behind k s.connections;
          exchanges = s.exchanges;
          forwards = s.forwards;
          store = store;
        };
        stands = record {
          name = gives.replies.keeps.name ∙ stands.name;
          numbers = gives.replies.numbers ∙ ap noted (numbers_now closes exchange n before mid (Replies reply None) store stands there is has);
          clients = subst (AreClients new.clients) (λ i. cond (b i) (remove s.connections c) (put_back s.connections c (after_reply behind k) i))
              (gives.replies.clients (remove s.connections c) (after_reply behind k) stands.clients (record { reads = is.behind.agrees; exchange = refl; leaves = is.leaves }));
          exchanges = subst (λ (m : OpenExchanges). AreExchanges m s.exchanges) (sym gives.replies.keeps.exchanges) stands.exchanges;
          links = subst (λ (m : OpenLinks). AreLinks m s.forwards) (sym gives.replies.keeps.links) stands.links;
          store = gives.store;
          in_time = stands.in_time;
        };
        takes = (
          ask_actions (one_more s.numbers.exchange) s.numbers.moment request ++ answer,
          behind_asked closes exchange n before mid (Replies reply None) store stands there is has after (reply_actions exchange n.moment (is_head request.head.method) c closes reply) answer gives.replies.actions
              (λ i. reply_actions (e i) (t i) (is_head request.head.method) c (b i) reply),
          record {
            connection = k;
            is_open = there;
            idle = is.idle;
            request = request;
            target = target;
            size = size;
            arrives = is.arrives;
            reaction = Replies reply None;
            reacts = reacts_now closes exchange n before mid (Replies reply None) store stands there is has;
            does = record { numbers = refl; connections = refl; keeps = record { exchanges = refl; forwards = refl }; actions_are = refl };
          },
        );
      }

  pub asks_validation : (closes : Bool) (exchange : ℕ) (n : Numbers) (before mid after : List Action) (reply : Message ResponseHead) (validation : Message RequestHead) (store : Holdings) (new : Desk S H)
      → DeskStandsFor {S = S} {H = H} settings d (without_connection c s) → get s.connections c ≡ Some k → IsAsked client k request target size
      → HasReaction closes exchange n before mid (Replies reply (Some validation)) store
      → SendsReplyThenBehind {S = S} {H = H} (record { number = exchange; exchange = record { connection = c; request = request.head; target = target; waits_for = None }; client = client }) closes reply validation (at_desk mid (record { alloc = d.alloc; incidents = d.incidents; name = d.name; numbers = n; clients = d.clients; exchanges = d.exchanges; links = d.links; store = store })) (at_desk after new)
      → GivesTurn {S = S} {H = H} (from_state settings s before) (Asking c) (at_desk after new)
  asks_validation closes exchange n before mid after reply validation store new stands there is has gives =
      let e = exchange_now closes exchange n before mid (Replies reply (Some validation)) store stands there is has in
      let t = moment_now closes exchange n before mid (Replies reply (Some validation)) store stands there is has in
      let b = closes_now closes exchange n before mid (Replies reply (Some validation)) store stands there is has in
      let f = forward_now closes exchange n before mid (Replies reply (Some validation)) store stands there is has in
      let reacts = reacts_now closes exchange n before mid (Replies reply (Some validation)) store stands there is has in
      let behind = drop size k.unread in
      let answer : List Action = reply_actions (one_more s.numbers.exchange) s.numbers.moment (is_head request.head.method) c (closes_behind request.head k s.numbers) reply in
      let sends : List Action = send_actions (one_more s.numbers.forward) s.numbers.moment None validation in
      record {
        state = record {
          numbers = sent (noted (asked s.numbers));
          connections = replied (closes_behind request.head k s.numbers) c behind k s.connections;
          exchanges = s.exchanges;
          forwards = insert s.forwards (one_more s.numbers.forward) (sent_forward validation.head target s.numbers.moment purpose.Background);
          store = store;
        };
        stands = record {
          name = gives.keeps.name ∙ stands.name;
          numbers = gives.numbers ∙ ap (λ (m : Numbers). sent (noted m)) (numbers_now closes exchange n before mid (Replies reply (Some validation)) store stands there is has);
          clients = subst (AreClients new.clients) (λ i. cond (b i) (remove s.connections c) (put_back s.connections c (after_reply behind k) i))
              (gives.clients (remove s.connections c) (after_reply behind k) stands.clients (record { reads = is.behind.agrees; exchange = refl; leaves = is.leaves }));
          exchanges = subst (λ (m : OpenExchanges). AreExchanges m s.exchanges) (sym gives.exchanges) stands.exchanges;
          links = subst (AreLinks new.links) (λ i. insert s.forwards (f i) (sent_forward validation.head target (t i) purpose.Background))
              (gives.links s.forwards stands.links
              (λ for_store. validated_in_place (wanted_now settings s request.head k) target request (open_now s) s.store store reply validation reacts));
          store = gives.keeps.store;
          in_time = stands.in_time;
        };
        takes = (
          ask_actions (one_more s.numbers.exchange) s.numbers.moment request ++ (answer ++ sends),
          behind_asked closes exchange n before mid (Replies reply (Some validation)) store stands there is has after (reply_actions exchange n.moment (is_head request.head.method) c closes reply ++ send_actions (one_more n.forward) n.moment None validation) (answer ++ sends) gives.actions
              (λ i. reply_actions (e i) (t i) (is_head request.head.method) c (b i) reply ++ send_actions (f i) (t i) None validation),
          record {
            connection = k;
            is_open = there;
            idle = is.idle;
            request = request;
            target = target;
            size = size;
            arrives = is.arrives;
            reaction = Replies reply (Some validation);
            reacts = reacts;
            does = record { numbers = refl; connections = refl; exchanges = refl; forwards = refl; actions_are = refl };
          },
        );
      }

  pub asks_forward : (closes : Bool) (exchange : ℕ) (n : Numbers) (before mid after : List Action) (forward : Message RequestHead) (why : Cause) (kind : ForwardKind) (store : Holdings) (new : Desk S H)
      → DeskStandsFor {S = S} {H = H} settings d (without_connection c s) → get s.connections c ≡ Some k → IsAsked client k request target size
      → HasReaction closes exchange n before mid (Sends forward why kind) store
      → SendsForward {S = S} {H = H} (record { number = exchange; exchange = record { connection = c; request = request.head; target = target; waits_for = None }; client = client }) forward (purpose.Reply exchange why kind) (at_desk mid (record { alloc = d.alloc; incidents = d.incidents; name = d.name; numbers = n; clients = d.clients; exchanges = d.exchanges; links = d.links; store = store })) (at_desk after new)
      → GivesTurn {S = S} {H = H} (from_state settings s before) (Asking c) (at_desk after new)
  asks_forward closes exchange n before mid after forward why kind store new stands there is has gives =
      let e = exchange_now closes exchange n before mid (Sends forward why kind) store stands there is has in
      let t = moment_now closes exchange n before mid (Sends forward why kind) store stands there is has in
      let f = forward_now closes exchange n before mid (Sends forward why kind) store stands there is has in
      let behind = drop size k.unread in
      let sends : List Action = send_actions (one_more s.numbers.forward) s.numbers.moment (Some (one_more s.numbers.exchange)) forward in
      record {
        state = record {
          numbers = sent (asked s.numbers);
          connections = insert s.connections c (after_request (one_more s.numbers.exchange) behind k);
          exchanges = insert s.exchanges (one_more s.numbers.exchange) (record { connection = c; request = request.head; target = target; waits_for = None });
          forwards = insert s.forwards (one_more s.numbers.forward)
              (sent_forward forward.head target s.numbers.moment (purpose.Reply (one_more s.numbers.exchange) why kind));
          store = store;
        };
        stands = record {
          name = gives.keeps.name ∙ stands.name;
          numbers = gives.numbers ∙ ap sent (numbers_now closes exchange n before mid (Sends forward why kind) store stands there is has);
          clients = subst (AreClients new.clients) (put_back s.connections c (after_request exchange behind k)
              ∙ ap (λ (x : ℕ). insert s.connections c (after_request x behind k)) e)
              (gives.clients (remove s.connections c) (after_request exchange behind k) stands.clients (record { reads = is.behind; exchange_is = refl; leaves = is.leaves }));
          exchanges = subst (λ (x : ℕ). AreExchanges new.exchanges (insert s.exchanges x (record { connection = c; request = request.head; target = target; waits_for = None }))) e
              (gives.exchanges s.exchanges stands.exchanges);
          links = subst (AreLinks new.links) (λ i. insert s.forwards (f i) (sent_forward forward.head target (t i) (purpose.Reply (e i) why kind)))
              (gives.links s.forwards stands.links (reply_has_place forward.head target n.moment exchange why kind s.forwards));
          store = gives.keeps.store;
          in_time = stands.in_time;
        };
        takes = (
          ask_actions (one_more s.numbers.exchange) s.numbers.moment request ++ sends,
          behind_asked closes exchange n before mid (Sends forward why kind) store stands there is has after (send_actions (one_more n.forward) n.moment (Some exchange) forward) sends gives.actions
              (λ i. send_actions (f i) (t i) (Some (e i)) forward),
          record {
            connection = k;
            is_open = there;
            idle = is.idle;
            request = request;
            target = target;
            size = size;
            arrives = is.arrives;
            reaction = Sends forward why kind;
            reacts = reacts_now closes exchange n before mid (Sends forward why kind) store stands there is has;
            does = record { numbers = refl; connections = refl; exchanges = refl; forwards = refl; actions_are = refl };
          },
        );
      }

  -- it waits for the forward of another one
  pub asks_join : (closes : Bool) (exchange : ℕ) (n : Numbers) (before mid : List Action) (forward : ℕ) (store : Holdings) (new : Desk S H)
      → DeskStandsFor {S = S} {H = H} settings d (without_connection c s) → get s.connections c ≡ Some k → IsAsked client k request target size
      → HasReaction closes exchange n before mid (Waits forward) store
      → JoinsForward {S = S} {H = H} (record { number = exchange; exchange = record { connection = c; request = request.head; target = target; waits_for = None }; client = client }) forward (record { alloc = d.alloc; incidents = d.incidents; name = d.name; numbers = n; clients = d.clients; exchanges = d.exchanges; links = d.links; store = store }) new
      → GivesTurn {S = S} {H = H} (from_state settings s before) (Asking c) (at_desk mid new)
  asks_join closes exchange n before mid forward store new stands there is has gives =
      let e = exchange_now closes exchange n before mid (Waits forward) store stands there is has in
      let behind = drop size k.unread in
      let x : OpenExchange = record { connection = c; request = request.head; target = target; waits_for = Some forward } in
      record {
        state = record {
          numbers = asked s.numbers;
          connections = insert s.connections c (after_request (one_more s.numbers.exchange) behind k);
          exchanges = insert s.exchanges (one_more s.numbers.exchange) x;
          forwards = s.forwards;
          store = store;
        };
        stands = record {
          name = gives.keeps.name ∙ stands.name;
          numbers = gives.numbers ∙ numbers_now closes exchange n before mid (Waits forward) store stands there is has;
          clients = subst (AreClients new.clients) (put_back s.connections c (after_request exchange behind k)
              ∙ ap (λ (q : ℕ). insert s.connections c (after_request q behind k)) e)
              (gives.clients (remove s.connections c) (after_request exchange behind k) stands.clients (record { reads = is.behind; exchange_is = refl; leaves = is.leaves }));
          exchanges = subst (λ (q : ℕ). AreExchanges new.exchanges (insert s.exchanges q x)) e (gives.exchanges s.exchanges stands.exchanges);
          links = subst (λ (m : OpenLinks). AreLinks m s.forwards) (sym gives.links) stands.links;
          store = gives.keeps.store;
          in_time = stands.in_time;
        };
        takes = (
          ask_actions (one_more s.numbers.exchange) s.numbers.moment request,
          asked_now closes exchange n before mid (Waits forward) store stands there is has,
          record {
            connection = k;
            is_open = there;
            idle = is.idle;
            request = request;
            target = target;
            size = size;
            arrives = is.arrives;
            reaction = Waits forward;
            reacts = reacts_now closes exchange n before mid (Waits forward) store stands there is has;
            does = record { numbers = refl; connections = refl; exchanges = refl; forwards = refl; actions_are = refl };
          },
        );
      }

-- one or the other, unless memory runs out
module _ (S H : Type 0) (settings : CoreSettings) (d : Desk S H) (s : State) (c : ℕ) (k : Connection) (client : Client) (request : Message RequestHead) (target : Target) (size : ℕ) where
  pub asks_replies : {A E : Type 0} (closes : Bool) (exchange : ℕ) (n : Numbers) (before mid after : List Action) (reply : Message ResponseHead) (behind : Option (Message RequestHead)) (store : Holdings)
      (result : Result A E) (new : Desk S H)
      → DeskStandsFor {S = S} {H = H} settings d (without_connection c s) → get s.connections c ≡ Some k → IsAsked client k request target size
      → HasReaction S H settings d s c k client request target size closes exchange n before mid (Replies reply behind) store
      → OnOk result (SendsReplies {S = S} {H = H} (record { number = exchange; exchange = record { connection = c; request = request.head; target = target; waits_for = None }; client = client }) closes reply behind (at_desk mid (record { alloc = d.alloc; incidents = d.incidents; name = d.name; numbers = n; clients = d.clients; exchanges = d.exchanges; links = d.links; store = store })) (at_desk after new))
      → OnOk result (GivesTurn {S = S} {H = H} (from_state settings s before) (Asking c) (at_desk after new))
  asks_replies closes exchange n before mid after reply None store (Ok x) new stands there is has gives =
      asks_reply S H settings d s c k client request target size closes exchange n before mid after reply store new stands there is has gives
  asks_replies closes exchange n before mid after reply (Some validation) store (Ok x) new stands there is has gives =
      asks_validation S H settings d s c k client request target size closes exchange n before mid after reply validation store new stands there is has gives
  asks_replies closes exchange n before mid after reply behind store (Err e) new stands there is has gives = tt

module _ (S H : Type 0) (held : HeldExchange) (closes : Bool) (reply : Message ResponseHead) where
  -- a reply, and behind it a request for the store alone
  reply_then_behind : (validation : Message RequestHead) (old mid new : Reached S H) → SendsReply {S = S} {H = H} held closes reply old mid
      → SendsBehind {S = S} {H = H} held.exchange.target validation mid new → SendsReplyThenBehind {S = S} {H = H} held closes reply validation old new
  reply_then_behind validation old mid new first sends =
      let replies = first.replies in
      record {
        numbers = sends.numbers ∙ ap sent replies.numbers;
        clients = λ connections k are is.
            subst (λ (m : BTreeMap ℕ Client). AreClients m (cond closes connections (insert connections held.exchange.connection k))) (sym sends.keeps.clients) (replies.clients connections k are is);
        links = λ forwards are place.
            subst (λ (n : Numbers). AreLinks new.desk.links (insert forwards (one_more n.forward) (opens_behind held.exchange.target validation n))) replies.numbers
            (sends.links forwards (subst (λ (l : OpenLinks). AreLinks l forwards) (sym replies.keeps.links) are)
            (subst (λ (n : Numbers). HasPlace (opens_behind held.exchange.target validation n) forwards) (sym replies.numbers) place));
        exchanges = sends.keeps.exchanges ∙ replies.keeps.exchanges;
        keeps = record { name = sends.keeps.name ∙ replies.keeps.name; store = sends.keeps.store ∙ first.store };
        actions = sends.actions ∙ ap (λ (l : List Action). l ++ send_actions (one_more mid.desk.numbers.forward) mid.desk.numbers.moment None validation) replies.actions
            ∙ append_assoc old.actions _ _
            ∙ ap (λ (n : Numbers). old.actions ++ (reply_actions held.number old.desk.numbers.moment (is_head held.exchange.request.method) held.exchange.connection closes reply ++ send_actions (one_more n.forward) n.moment None validation)) replies.numbers;
      }

  -- what is behind it may be nothing
  pub replies_alone : (behind : Option (Message RequestHead)) (old new : Reached S H) → behind ≡ None → SendsReply {S = S} {H = H} held closes reply old new
      → SendsReplies {S = S} {H = H} held closes reply behind old new
  replies_alone behind old new is replies = subst (λ (o : Option (Message RequestHead)). SendsReplies {S = S} {H = H} held closes reply o old new) (sym is) replies

  pub replies_then : (behind : Option (Message RequestHead)) (validation : Message RequestHead) (old mid new : Reached S H) → behind ≡ Some validation
      → SendsReply {S = S} {H = H} held closes reply old mid → SendsBehind {S = S} {H = H} held.exchange.target validation mid new
      → SendsReplies {S = S} {H = H} held closes reply behind old new
  replies_then behind validation old mid new is replies sends =
      subst (λ (o : Option (Message RequestHead)). SendsReplies {S = S} {H = H} held closes reply o old new) (sym is)
      (reply_then_behind validation old mid new replies sends)
