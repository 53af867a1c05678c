-- The turns of a cache, each with what it makes of each part of what the cache knows.
use Rattle.std.specs.Prelude.{◌≡◌, ℕ, ◌<◌, Bool, true, false, ◌||◌, List, [], ◌∷◌, ◌++◌, length, drop, Option, Some, None, if◌then◌else◌}
use Rattle.std.specs.FinMap.{get, insert, remove, len}
use Rattle.hc_head.specs.declared.head.RequestHead.{RequestHead}
use Rattle.hc_head.specs.declared.head.ResponseHead.{ResponseHead}
use Rattle.hc_head.specs.declared.head.Target.{Target}
use Rattle.hc_head.specs.Methods.{is_head}
use Rattle.hc_framing.specs.declared.message.Message.{Message}
use Rattle.hc_replies.specs.Replies.{generated_reply}
use Rattle.hc_incoming.specs.Requests.{IsRequest, IsRefused, IsUnfinished, IsCutOff as IsCutShort}
use Rattle.hc_incoming.specs.Responses.{IsResponse, IsResponseAtEnd, IsFailure, IsFailureAtEnd}
use Rattle.hc_store.specs.Entries.{Holdings}
use Rattle.hc_service.specs.declared.action.Action.{Action}
use Rattle.hc_service.specs.declared.action.Action.TheVariants.{CloseClient}
use Rattle.hc_service.specs.declared.cases.Cause.{Cause}
use Rattle.hc_service.specs.declared.cases.Cause.TheVariants.{UriMiss}
use Rattle.hc_service.specs.declared.numbers.Numbers.{Numbers}
use Rattle.hc_update.specs.declared.stored.Stored.{Stored}
use Rattle.hc_service.specs.declared.open.ForwardKind.TheVariants.{Joinable, Plain}
use Rattle.hc_service.specs.declared.open.OpenExchange.{OpenExchange}
use Rattle.hc_service.specs.declared.open.OpenForward.{OpenForward}
use Rattle.hc_service.specs.declared.open.Purpose.{Purpose}
use Rattle.hc_service.specs.declared.open.Purpose.TheVariants as purpose
use Rattle.hc_service.specs.declared.settings.CoreSettings.{CoreSettings}
use Rattle.hc_service.specs.Asking.{ends_connection}
use Rattle.hc_service.specs.Numbers.{one_more, after_opening, asked, sent, noted, stopping, is_later}
use Rattle.hc_service.specs.State.{State, Table, Connection, Awaited, is_conditional, new_connection, open_now}
use Rattle.hc_service.specs.Joining.{shared}
use Rattle.hc_service.specs.Choices.{Finds}
use Rattle.hc_service.specs.Sending.{ask_actions, send_actions, reply_actions, response_actions, failure_actions, refusal_actions}
use Rattle.hc_service.specs.Replying.{Wanted, collapsed_reply}
use Rattle.hc_service.specs.Reactions.{Reaction, Reacts, WholeRequest, forward_alone, forward_anew}
use Rattle.hc_service.specs.Reactions.Reaction.{Replies as RepliesAtOnce, Sends, Waits}
use Rattle.hc_service.specs.Answers.{Outcome, Renews, StoresBehind, Responds, Fails, rule_of}
use Rattle.hc_service.specs.Answers.Outcome.{Replies, GoesAnew}

-- ---- limits

-- the most octets that stay unread while an exchange awaits its reply
abbrev pub most_unread : ℕ
most_unread = 65536

-- ---- changes of parts

-- octets come from a client; they are dropped where nothing more is read
abbrev pub after_client_octets : List ℕ → Connection → Connection
after_client_octets octets k = if k.leaves then k else record { unread = k.unread ++ octets; exchange = k.exchange; leaves = k.leaves }

-- a request is read, which awaits its reply; these octets are behind it
abbrev pub after_request : ℕ → List ℕ → Connection → Connection
after_request exchange behind k = record { unread = behind; exchange = Some exchange; leaves = k.leaves }

-- its request has its reply; these octets are behind it
abbrev pub after_reply : List ℕ → Connection → Connection
after_reply behind k = record { unread = behind; exchange = None; leaves = k.leaves }

-- nothing more is read
abbrev pub after_leaving : Connection → Connection
after_leaving k = record { unread = []; exchange = k.exchange; leaves = true }

-- the connection closes behind the reply, or goes on with these octets
abbrev pub replied : Bool → ℕ → List ℕ → Connection → Table Connection → Table Connection
replied closes c behind k connections = if closes then remove connections c else insert connections c (after_reply behind k)

-- octets come from the origin
abbrev pub after_origin_octets : List ℕ → Awaited → Awaited
after_origin_octets octets a = record { forward = a.forward; received = a.received ++ octets }

-- a forward that was just sent
abbrev pub sent_forward : RequestHead → Target → ℕ → Purpose → Awaited
sent_forward request target moment aim =
    record { forward = record { request = request; target = target; moment = moment; purpose = aim }; received = [] }

-- whether the connection closes behind a reply: the request says so, nothing more is read, or each reply closes now
abbrev pub closes_behind : RequestHead → Connection → Numbers → Bool
closes_behind request k n = ends_connection request || (k.leaves || n.closing)

-- the reply that a request on a connection wants now
abbrev pub wanted_now : CoreSettings → State → RequestHead → Connection → Wanted
wanted_now settings s request k =
    record { name = settings.name; moment = s.numbers.moment; asked = request; closes = closes_behind request k s.numbers }

-- ---- what a turn leaves alone

-- what is stored stays
abbrev pub KeepsStore : State → State → Type 0
KeepsStore s s' = s'.store ≡ s.store

-- the connections stay
abbrev pub KeepsConnections : State → State → Type 0
KeepsConnections s s' = s'.connections ≡ s.connections

-- the exchanges stay
abbrev pub KeepsExchanges : State → State → Type 0
KeepsExchanges s s' = s'.exchanges ≡ s.exchanges

-- the forwards stay
abbrev pub KeepsForwards : State → State → Type 0
KeepsForwards s s' = s'.forwards ≡ s.forwards

-- the exchanges and the forwards stay
pub record KeepsOpen (s s' : State) : Type 0 where
  pub exchanges : s'.exchanges ≡ s.exchanges
  pub forwards : s'.forwards ≡ s.forwards

-- the connections and the exchanges stay
pub record KeepsClients (s s' : State) : Type 0 where
  pub connections : s'.connections ≡ s.connections
  pub exchanges : s'.exchanges ≡ s.exchanges

-- the numbers, the exchanges, the forwards and what is stored stay: nothing but the connections may change
pub record KeepsAllButConnections (s s' : State) : Type 0 where
  pub numbers : s'.numbers ≡ s.numbers
  pub exchanges : s'.exchanges ≡ s.exchanges
  pub forwards : s'.forwards ≡ s.forwards
  pub store : s'.store ≡ s.store

-- the numbers, the connections, the exchanges and what is stored stay: nothing but the forwards may change
pub record KeepsAllButForwards (s s' : State) : Type 0 where
  pub numbers : s'.numbers ≡ s.numbers
  pub connections : s'.connections ≡ s.connections
  pub exchanges : s'.exchanges ≡ s.exchanges
  pub store : s'.store ≡ s.store

-- the connections, the exchanges, the forwards and what is stored stay: nothing but the numbers may change
pub record KeepsAllButNumbers (s s' : State) : Type 0 where
  pub connections : s'.connections ≡ s.connections
  pub exchanges : s'.exchanges ≡ s.exchanges
  pub forwards : s'.forwards ≡ s.forwards
  pub store : s'.store ≡ s.store

-- ---- the cache as a whole

-- whoever serves it stops: from now on each reply closes its connection behind it
pub record Stops (s : State) (actions : List Action) (s' : State) : Type 0 where
  pub numbers : s'.numbers ≡ stopping s.numbers
  pub keeps : KeepsAllButNumbers s s'
  pub actions_are : actions ≡ []

-- ---- connections

-- a connection opens, of a number greater than all before
pub record Opens (c : ℕ) (s : State) (actions : List Action) (s' : State) : Type 0 where
  pub later : is_later c s.numbers.connection ≡ true
  pub has_place : len s.connections < s.numbers.room
  pub numbers : s'.numbers ≡ after_opening c s.numbers
  pub connections : s'.connections ≡ insert s.connections c new_connection
  pub keeps : KeepsOpen s s'
  pub store : KeepsStore s s'
  pub actions_are : actions ≡ []

-- octets come from a client
pub record ClientSends (c : ℕ) (octets : List ℕ) (s : State) (actions : List Action) (s' : State) : Type 0 where
  pub connection : Connection
  pub is_open : get s.connections c ≡ Some connection
  pub connections : s'.connections ≡ insert s.connections c (after_client_octets octets connection)
  pub keeps : KeepsAllButConnections s s'
  pub actions_are : actions ≡ []

-- more octets are unread than may be, while an exchange awaits its reply: they are dropped
pub record Drops (c : ℕ) (s : State) (actions : List Action) (s' : State) : Type 0 where
  pub connection : Connection
  pub is_open : get s.connections c ≡ Some connection
  pub exchange : ℕ
  pub awaits : connection.exchange ≡ Some exchange
  pub too_many : most_unread < length connection.unread
  pub connections : s'.connections ≡ insert s.connections c (after_leaving connection)
  pub keeps : KeepsAllButConnections s s'
  pub actions_are : actions ≡ []

-- the client ends while an exchange awaits its reply: what is unread is given up
pub record Leaves (c : ℕ) (s : State) (actions : List Action) (s' : State) : Type 0 where
  pub connection : Connection
  pub is_open : get s.connections c ≡ Some connection
  pub exchange : ℕ
  pub awaits : connection.exchange ≡ Some exchange
  pub connections : s'.connections ≡ insert s.connections c (after_leaving connection)
  pub keeps : KeepsAllButConnections s s'
  pub actions_are : actions ≡ []

-- the client ends between requests, or inside one: the connection closes. Where all that came before was read, no whole request is there: what has begun is cut off
pub record Closes (c : ℕ) (s : State) (actions : List Action) (s' : State) : Type 0 where
  pub connection : Connection
  pub is_open : get s.connections c ≡ Some connection
  pub idle : connection.exchange ≡ None
  pub cut_off : IsUnfinished connection.unread → IsCutShort connection.unread
  pub connections : s'.connections ≡ remove s.connections c
  pub keeps : KeepsAllButConnections s s'
  pub actions_are : actions ≡ CloseClient c ∷ []

-- what came is refused: a reply without a record, and the connection closes
pub record Refuses (c status : ℕ) (s : State) (actions : List Action) (s' : State) : Type 0 where
  pub connection : Connection
  pub is_open : get s.connections c ≡ Some connection
  pub idle : connection.exchange ≡ None
  pub refused : IsRefused connection.unread status
  pub connections : s'.connections ≡ remove s.connections c
  pub keeps : KeepsAllButConnections s s'
  pub actions_are : actions ≡ refusal_actions c (generated_reply status s.numbers.moment true)

-- ---- a whole request

-- the number of the connection on which it came, that connection, the octets behind it, and the request itself
pub record Arrived : Type 0 where
  pub number : ℕ
  pub connection : Connection
  pub behind : List ℕ
  pub whole : WholeRequest

-- a whole request as it is now, on that connection
abbrev pub whole_request : CoreSettings → State → Message RequestHead → Target → Connection → WholeRequest
whole_request settings s request target k = record { request = request; target = target; wanted = wanted_now settings s request.head k }

-- it came on that connection, with so many octets
abbrev pub arrived_on : ℕ → Connection → ℕ → WholeRequest → Arrived
arrived_on c k size whole = record { number = c; connection = k; behind = drop size k.unread; whole = whole }

-- its exchange, where it gets no reply at once: it waits for the forward of that number, or has one of its own
abbrev pub opened : Arrived → Option ℕ → OpenExchange
opened arrived forward = record {
  connection = arrived.number;
  request = arrived.whole.request.head;
  target = arrived.whole.target;
  waits_for = forward;
}

-- it gets a reply at once, and nothing goes to the origin
pub record RepliesAlone (arrived : Arrived) (reply : Message ResponseHead) (s : State) (actions : List Action) (s' : State) : Type 0 where
  pub numbers : s'.numbers ≡ noted (asked s.numbers)
  pub connections : s'.connections ≡ replied arrived.whole.wanted.closes arrived.number arrived.behind arrived.connection s.connections
  pub keeps : KeepsOpen s s'
  pub actions_are : actions
      ≡ ask_actions (one_more s.numbers.exchange) s.numbers.moment arrived.whole.request
      ++ reply_actions (one_more s.numbers.exchange) s.numbers.moment (is_head arrived.whole.request.head.method) arrived.number arrived.whole.wanted.closes reply

-- it gets a reply at once, and behind that a request goes to the origin for the store alone
pub record RepliesAndValidates (arrived : Arrived) (reply : Message ResponseHead) (validation : Message RequestHead) (s : State) (actions : List Action) (s' : State) : Type 0 where
  pub numbers : s'.numbers ≡ sent (noted (asked s.numbers))
  pub connections : s'.connections ≡ replied arrived.whole.wanted.closes arrived.number arrived.behind arrived.connection s.connections
  pub exchanges : KeepsExchanges s s'
  pub forwards : s'.forwards
      ≡ insert s.forwards (one_more s.numbers.forward) (sent_forward validation.head arrived.whole.target s.numbers.moment purpose.Background)
  pub actions_are : actions
      ≡ ask_actions (one_more s.numbers.exchange) s.numbers.moment arrived.whole.request
      ++ reply_actions (one_more s.numbers.exchange) s.numbers.moment (is_head arrived.whole.request.head.method) arrived.number arrived.whole.wanted.closes reply
      ++ send_actions (one_more s.numbers.forward) s.numbers.moment None validation

-- it goes to the origin by that forward, and awaits its reply
pub record GoesForward (arrived : Arrived) (forward : Message RequestHead) (aim : Purpose) (s : State) (actions : List Action) (s' : State) : Type 0 where
  pub numbers : s'.numbers ≡ sent (asked s.numbers)
  pub connections : s'.connections
      ≡ insert s.connections arrived.number (after_request (one_more s.numbers.exchange) arrived.behind arrived.connection)
  pub exchanges : s'.exchanges
      ≡ insert s.exchanges (one_more s.numbers.exchange)
      (opened arrived None)
  pub forwards : s'.forwards
      ≡ insert s.forwards (one_more s.numbers.forward) (sent_forward forward.head arrived.whole.target s.numbers.moment aim)
  pub actions_are : actions
      ≡ ask_actions (one_more s.numbers.exchange) s.numbers.moment arrived.whole.request
      ++ send_actions (one_more s.numbers.forward) s.numbers.moment (Some (one_more s.numbers.exchange)) forward

-- it waits for the forward of that number, which is another request's
pub record Joins (arrived : Arrived) (f : ℕ) (s : State) (actions : List Action) (s' : State) : Type 0 where
  pub numbers : s'.numbers ≡ asked s.numbers
  pub connections : s'.connections
      ≡ insert s.connections arrived.number (after_request (one_more s.numbers.exchange) arrived.behind arrived.connection)
  pub exchanges : s'.exchanges ≡ insert s.exchanges (one_more s.numbers.exchange) (opened arrived (Some f))
  pub forwards : KeepsForwards s s'
  pub actions_are : actions ≡ ask_actions (one_more s.numbers.exchange) s.numbers.moment arrived.whole.request

-- what the reaction makes of each part but the store
abbrev pub DoesReaction : Reaction → Arrived → State → List Action → State → Type 0
DoesReaction (RepliesAtOnce reply None) arrived s actions s' = RepliesAlone arrived reply s actions s'
DoesReaction (RepliesAtOnce reply (Some validation)) arrived s actions s' = RepliesAndValidates arrived reply validation s actions s'
DoesReaction (Sends forward why kind) arrived s actions s' =
    GoesForward arrived forward (purpose.Reply (one_more s.numbers.exchange) why kind) s actions s'
DoesReaction (Waits f) arrived s actions s' = Joins arrived f s actions s'

-- a whole request is read, where no exchange awaits its reply on the connection, and gets the first case that holds
pub record Asks (settings : CoreSettings) (c : ℕ) (s : State) (actions : List Action) (s' : State) : Type 0 where
  pub connection : Connection
  pub is_open : get s.connections c ≡ Some connection
  pub idle : connection.exchange ≡ None
  pub request : Message RequestHead
  pub target : Target
  pub size : ℕ
  pub arrives : IsRequest connection.unread request target size
  pub reaction : Reaction
  pub reacts : Reacts (whole_request settings s request target connection) (open_now s) s.store reaction s'.store
  pub does : DoesReaction reaction (arrived_on c connection size (whole_request settings s request target connection)) s actions s'

-- ---- what comes from the origin

-- octets come from the origin
pub record OriginSends (f : ℕ) (octets : List ℕ) (s : State) (actions : List Action) (s' : State) : Type 0 where
  pub awaited : Awaited
  pub is_open : get s.forwards f ≡ Some awaited
  pub forwards : s'.forwards ≡ insert s.forwards f (after_origin_octets octets awaited)
  pub keeps : KeepsAllButForwards s s'
  pub actions_are : actions ≡ []

-- ---- a forward ends

-- for the store alone, with these actions
pub record EndsBehind (f : ℕ) (first : List Action) (s : State) (actions : List Action) (s' : State) : Type 0 where
  pub numbers : s'.numbers ≡ noted s.numbers
  pub keeps : KeepsClients s s'
  pub forwards : s'.forwards ≡ remove s.forwards f
  pub actions_are : actions ≡ first

-- the numbers of a forward that ends and of the exchange that it was for, why it was sent, and what is done first
pub record Ended : Type 0 where
  pub forward : ℕ
  pub exchange : ℕ
  pub why : Cause
  pub first : List Action

-- that exchange, its connection, and the reply that it wants
pub record Asker : Type 0 where
  pub exchange : OpenExchange
  pub connection : Connection
  pub wanted : Wanted

-- an exchange as it is now
abbrev pub asker_now : CoreSettings → State → OpenExchange → Connection → Asker
asker_now settings s x k = record { exchange = x; connection = k; wanted = wanted_now settings s x.request k }

-- the connections once its reply has gone out
abbrev pub replied_to : Asker → Table Connection → Table Connection
replied_to asker connections =
    replied asker.wanted.closes asker.exchange.connection asker.connection.unread asker.connection connections

-- the exchange gets its reply
pub record EndsWithReply (ended : Ended) (asker : Asker) (reply : Message ResponseHead) (s : State) (actions : List Action) (s' : State) : Type 0 where
  pub numbers : s'.numbers ≡ noted (noted s.numbers)
  pub connections : s'.connections ≡ replied_to asker s.connections
  pub exchanges : s'.exchanges ≡ remove s.exchanges ended.exchange
  pub forwards : s'.forwards ≡ remove s.forwards ended.forward
  pub actions_are : actions
      ≡ ended.first
      ++ reply_actions ended.exchange s.numbers.moment (is_head asker.exchange.request.method) asker.exchange.connection asker.wanted.closes reply

-- the request goes to the origin anew, for the same reason, and the exchange stays open
pub record EndsWithForward (ended : Ended) (asker : Asker) (forward : Message RequestHead) (s : State) (actions : List Action) (s' : State) : Type 0 where
  pub numbers : s'.numbers ≡ sent (noted s.numbers)
  pub keeps : KeepsClients s s'
  pub forwards : s'.forwards
      ≡ insert (remove s.forwards ended.forward) (one_more s.numbers.forward)
      (sent_forward forward.head asker.exchange.target s.numbers.moment (purpose.Reply ended.exchange ended.why Plain))
  pub actions_are : actions ≡ ended.first ++ send_actions (one_more s.numbers.forward) s.numbers.moment (Some ended.exchange) forward

-- what the outcome makes of each part but the store
abbrev pub DoesOutcome : Outcome → Ended → Asker → State → List Action → State → Type 0
DoesOutcome (Replies reply) ended asker s actions s' = EndsWithReply ended asker reply s actions s'
DoesOutcome GoesAnew ended asker s actions s' =
    EndsWithForward ended asker (forward_anew asker.wanted.name asker.exchange.target asker.exchange.request) s actions s'

-- for an exchange, which has an outcome by the store as it is then
pub record EndsFor (settings : CoreSettings) (decides : Wanted → Outcome → Holdings → Type 0) (ended : Ended) (s : State) (actions : List Action) (s' : State) : Type 0 where
  pub exchange : OpenExchange
  pub awaits : get s.exchanges ended.exchange ≡ Some exchange
  pub connection : Connection
  pub is_open : get s.connections exchange.connection ≡ Some connection
  pub outcome : Outcome
  pub decided : decides (wanted_now settings s exchange.request connection) outcome s'.store
  pub does : DoesOutcome outcome ended (asker_now settings s exchange connection) s actions s'

-- ---- and those that waited for it are released

-- one that waited is as one that has a forward of its own
abbrev pub released : OpenExchange → OpenExchange
released x = record { connection = x.connection; request = x.request; target = x.target; waits_for = None }

-- it gets its reply from what is stored now
pub record RepliesShared (e : ℕ) (asker : Asker) (stored : Stored) (s : State) (actions : List Action) (s' : State) : Type 0 where
  pub numbers : s'.numbers ≡ noted s.numbers
  pub connections : s'.connections ≡ replied_to asker s.connections
  pub exchanges : s'.exchanges ≡ remove s.exchanges e
  pub forwards : KeepsForwards s s'
  pub actions_are : actions
      ≡ reply_actions e s.numbers.moment (is_head asker.exchange.request.method) asker.exchange.connection asker.wanted.closes
      (collapsed_reply asker.wanted stored)

-- it goes to the origin by a forward of its own, and waits no more
pub record GoesAlone (e : ℕ) (asker : Asker) (s : State) (actions : List Action) (s' : State) : Type 0 where
  pub numbers : s'.numbers ≡ sent s.numbers
  pub connections : KeepsConnections s s'
  pub exchanges : s'.exchanges ≡ insert s.exchanges e (released asker.exchange)
  pub forwards : s'.forwards
      ≡ insert s.forwards (one_more s.numbers.forward)
      (sent_forward (forward_alone asker.wanted.name asker.exchange.target asker.exchange.request).head asker.exchange.target s.numbers.moment
      (purpose.Reply e UriMiss Joinable))
  pub actions_are : actions
      ≡ send_actions (one_more s.numbers.forward) s.numbers.moment (Some e)
      (forward_alone asker.wanted.name asker.exchange.target asker.exchange.request)

abbrev pub DoesRelease : Option Stored → ℕ → Asker → State → List Action → State → Type 0
DoesRelease (Some stored) e asker s actions s' = RepliesShared e asker stored s actions s'
DoesRelease None e asker s actions s' = GoesAlone e asker s actions s'

-- the exchange waited for a forward, which has ended: the store is asked now
pub record Releases (settings : CoreSettings) (e : ℕ) (s : State) (actions : List Action) (s' : State) : Type 0 where
  pub exchange : OpenExchange
  pub awaits : get s.exchanges e ≡ Some exchange
  pub forward : ℕ
  pub waits : exchange.waits_for ≡ Some forward
  pub connection : Connection
  pub is_open : get s.connections exchange.connection ≡ Some connection
  pub chosen : Option Stored
  pub finds : Finds exchange.target exchange.request.fields s.store chosen s'.store
  pub does : DoesRelease (shared s.numbers.moment chosen) e (asker_now settings s exchange connection) s actions s'

-- ---- with a whole response

-- the number of the forward, what it was, the response, the store once that has renewed it, and what is done first
pub record Answered : Type 0 where
  pub number : ℕ
  pub forward : OpenForward
  pub response : Message ResponseHead
  pub renewed : Holdings
  pub first : List Action

-- what is done first of a response that comes now: it has its record, and the forward closes
abbrev pub answered_now : ℕ → OpenForward → Message ResponseHead → Holdings → State → Answered
answered_now f forward response renewed s = record {
  number = f;
  forward = forward;
  response = response;
  renewed = renewed;
  first = response_actions f s.numbers.moment (is_head forward.request.method) response;
}

-- for the store alone, or for an exchange, by the rule of the response
abbrev pub EndsByResponse : Purpose → CoreSettings → Answered → State → List Action → State → Type 0
EndsByResponse purpose.Background settings a s actions s' =
    StoresBehind a.forward s.numbers.moment a.response a.renewed s'.store × EndsBehind a.number a.first s actions s'
EndsByResponse (purpose.Reply e why kind) settings a s actions s' =
    EndsFor settings
    (λ wanted outcome new. Responds (rule_of why (is_conditional kind) a.forward.request a.response.head)
    (record { wanted = wanted; forward = a.forward; cause = why; response = a.response }) (one_more s.numbers.records) a.renewed outcome new)
    (record { forward = a.number; exchange = e; why = why; first = a.first }) s actions s'

-- whether what came of the origin is the response: whatever follows, or, where the origin has ended, as it is
abbrev pub IsAnswer : Bool → Bool → List ℕ → Message ResponseHead → Type 0
IsAnswer false to_head octets response = IsResponse to_head octets response
IsAnswer true to_head octets response = IsResponseAtEnd to_head octets response

pub record Answers (settings : CoreSettings) (f : ℕ) (ended : Bool) (s : State) (actions : List Action) (s' : State) : Type 0 where
  pub awaited : Awaited
  pub is_open : get s.forwards f ≡ Some awaited
  pub response : Message ResponseHead
  pub arrives : IsAnswer ended (is_head awaited.forward.request.method) awaited.received response
  pub renewed : Holdings
  pub renews : Renews awaited.forward s.numbers.moment (one_more s.numbers.records) response.head s.store renewed
  pub ends : EndsByResponse awaited.forward.purpose settings (answered_now f awaited.forward response renewed s) s actions s'

-- ---- without one

-- how a forward fails: by what came of the origin, by its end, or by itself
pub data Failure : Type 0 where
  IsBroken : Failure
  IsCutOff : Failure
  IsLost : Failure

abbrev pub HasFailure : Failure → Bool → List ℕ → Type 0
HasFailure IsBroken to_head octets = IsFailure to_head octets
HasFailure IsCutOff to_head octets = IsFailureAtEnd to_head octets
HasFailure IsLost to_head octets = Unit {0}

-- a forward that is lost needs no closing
abbrev pub is_closed : Failure → Bool
is_closed IsBroken = true
is_closed IsCutOff = true
is_closed IsLost = false

-- the number of the forward, its target, and what is done first
pub record Failed : Type 0 where
  pub number : ℕ
  pub target : Target
  pub first : List Action

-- what is done first of a failure now: it has its record, and the forward closes unless it is lost
abbrev pub failed_now : ℕ → Target → Failure → State → Failed
failed_now f target how s = record { number = f; target = target; first = failure_actions f s.numbers.moment (is_closed how) }

-- for the store alone, or for an exchange
abbrev pub EndsByFailure : Purpose → CoreSettings → Failed → State → List Action → State → Type 0
EndsByFailure purpose.Background settings a s actions s' = KeepsStore s s' × EndsBehind a.number a.first s actions s'
EndsByFailure (purpose.Reply e why kind) settings a s actions s' =
    EndsFor settings (λ wanted outcome new. Fails wanted a.target why s.store outcome new)
    (record { forward = a.number; exchange = e; why = why; first = a.first }) s actions s'

pub record Breaks (settings : CoreSettings) (f : ℕ) (how : Failure) (s : State) (actions : List Action) (s' : State) : Type 0 where
  pub awaited : Awaited
  pub is_open : get s.forwards f ≡ Some awaited
  pub fails : HasFailure how (is_head awaited.forward.request.method) awaited.received
  pub ends : EndsByFailure awaited.forward.purpose settings (failed_now f awaited.forward.target how s) s actions s'
