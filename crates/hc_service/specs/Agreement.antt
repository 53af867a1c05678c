-- What a cache has to do with what has happened so far, which it doesn't keep.
use Rattle.std.specs.Prelude.{◌≡◌, ℕ, zero, suc, ◌<◌, ◌≤◌, ◌==◌, true, false, List, [], length, drop, Option, Some, None, option_map, codes}
use Rattle.std.specs.FinMap.{get, len}
use Rattle.std.specs.List.{IsDistinct}
use Rattle.std.specs.Map.{keys_of}
use Rattle.std.specs.Option.{IsSome}
use Rattle.hc_fields.specs.declared.fields.Field.{Field}
use Rattle.hc_fields.specs.Values.{has_name}
use Rattle.hc_head.specs.declared.head.RequestHead.{RequestHead}
use Rattle.hc_head.specs.declared.head.Target.{Target}
use Rattle.hc_rules.specs.Passing.{AreKeptLines}
use Rattle.hc_head.specs.Statuses.{partial_content}
use Rattle.hc_head.specs.Targets.{same_target}
use Rattle.hc_head.specs.Writable.{has_framing, longest_body}
use Rattle.hc_framing.specs.declared.message.Message.{Message}
use Rattle.hc_framing.specs.Framing.{ends_with_head}
use Rattle.hc_rules.specs.Forwards.{conditional_request}
use Rattle.hc_rules.specs.Laws.{IsForwardable}
use Rattle.hc_rules.specs.Validators.{has_validator}
use Rattle.hc_update.specs.declared.stored.Stored.{Stored}
use Rattle.hc_transcript.specs.declared.record.Record.{Record}
use Rattle.hc_transcript.specs.Limits.{greatest_number, greatest_moment}
use Rattle.hc_transcript.specs.Items.{Item, Exchange, Forward}
use Rattle.hc_transcript.specs.History.{exchange_of, forward_of, cause_of, last_moment, last_exchange, last_forward}
use Rattle.hc_transcript.specs.Transcript.{AreReadAs}
use Rattle.hc_history.specs.States.{state_at}
use Rattle.hc_incoming.specs.Requests.{IsRequest}
use Rattle.hc_store.specs.Entries.{AllHeld}
use Rattle.hc_service.specs.declared.cases.Cause.{Cause}
use Rattle.hc_service.specs.declared.numbers.Numbers.{Numbers}
use Rattle.hc_service.specs.declared.open.ForwardKind.{ForwardKind}
use Rattle.hc_service.specs.declared.open.OpenExchange.{OpenExchange}
use Rattle.hc_service.specs.declared.open.OpenForward.{OpenForward}
use Rattle.hc_service.specs.declared.open.Purpose.{Purpose}
use Rattle.hc_service.specs.declared.open.Purpose.TheVariants as purpose
use Rattle.hc_service.specs.Asking.{is_answered_by_store}
use Rattle.hc_service.specs.Cases.{asks_store, is_of_stored}
use Rattle.hc_service.specs.Numbers.{is_later}
use Rattle.hc_service.specs.Sending.{recorded_format}
use Rattle.hc_service.specs.State.{State, Table, Connection, Awaited, exchange_for, is_conditional}
use Rattle.hc_service.specs.Joining.{is_joinable}
use Rattle.hc_service.specs.Choices.{OnTest}
use Rattle.hc_service.specs.Serves.{IsQuietAt, AwaitsStill}

-- what has happened so far: the records, the newest first, and what they mean; and the octets that came on each connection and from the origin on each forward
pub record History : Type 0 where
  pub records : List Record
  pub items : List Item
  pub client_octets : ℕ → List ℕ
  pub origin_octets : ℕ → List ℕ

-- ---- 1: records and numbers

-- the records are a transcript, and what is counted is theirs
pub record AreCounted (n : Numbers) (h : History) : Type 0 where
  pub are_read : AreReadAs recorded_format h.records h.items
  pub records : n.records ≡ length h.items
  pub exchange : n.exchange ≡ last_exchange h.items
  pub forward : n.forward ≡ last_forward h.items
  pub moment : last_moment h.items ≤ n.moment
  -- each exchange and each forward has a record, all of which can be numbered
  pub exchanges : n.exchange ≤ n.records
  pub forwards : n.forward ≤ n.records
  pub in_range : n.records ≤ greatest_number
  pub in_time : n.moment ≤ greatest_moment

-- ---- 2: entries

-- it is a response of that target that may be stored, as the records have left it, and is valid; and it lies behind the position that is told of the target
pub record HasSource (since : Target → ℕ) (items : List Item) (target : Target) (stored : Stored) : Type 0 where
  pub position : ℕ
  pub is_later : since target < position
  pub is_its_state : state_at position items ≡ Some (record { target = target; state = stored })
  pub is_valid : stored.invalid ≡ false

-- it can be a reply that is read back: few and plain lines, without Age and without what frames a body, a final status that is of no part, and a body within
-- the limit, and none where the status has none
pub record CanReply (stored : Stored) : Type 0 where
  pub lines : AreKeptLines stored.fields
  pub no_framing : has_framing stored.fields ≡ false
  pub no_age : has_name (codes "age") stored.fields ≡ false
  pub is_final : 200 ≤ stored.status
  pub has_digits : stored.status < 1000
  pub is_whole : (stored.status == partial_content) ≡ false
  pub short : length stored.body ≤ longest_body
  pub bare : ends_with_head false stored.status ≡ true → stored.body ≡ []

abbrev pub IsSound : (Target → ℕ) → List Item → Target → Stored → Type 0
IsSound since items target stored = HasSource since items target stored × CanReply stored

-- ---- 3: what came on links, and what of it is unread

-- whole requests, so many, and then the rest
abbrev pub AreRequestsThen : ℕ → List ℕ → List ℕ → Type 0
AreRequestsThen zero octets rest = octets ≡ rest
AreRequestsThen (suc count) octets rest =
    (message : Message RequestHead) × (target : Target) × (size : ℕ) × IsRequest octets message target size × AreRequestsThen count (drop size octets) rest

-- nothing is unread of a connection of which nothing more is read, and which closes behind the reply that its exchange awaits
pub record HasLeft (k : Connection) : Type 0 where
  pub none_unread : k.unread ≡ []
  pub exchange : ℕ
  pub awaits : k.exchange ≡ Some exchange

-- what is unread of a connection is what came behind its last whole request
abbrev pub IsReadOf : List ℕ → Connection → Type 0
IsReadOf octets k = OnTest k.leaves (HasLeft k) ((count : ℕ) × AreRequestsThen count octets k.unread)

-- by the numbers of the last connection and the last forward
pub record AreReceived (last : Option ℕ) (forward : ℕ) (connections : Table Connection) (forwards : Table Awaited) (client_octets origin_octets : ℕ → List ℕ) : Type 0 where
  pub connections_are : (c : ℕ) (k : Connection) → get connections c ≡ Some k → IsReadOf (client_octets c) k
  pub forwards_are : (f : ℕ) (a : Awaited) → get forwards f ≡ Some a → a.received ≡ origin_octets f
  -- nothing has come where nothing was open
  pub later_connections : (c : ℕ) → is_later c last ≡ true → client_octets c ≡ []
  pub later_forwards : (f : ℕ) → forward < f → origin_octets f ≡ []

-- ---- 4: what is open

-- an exchange is that of the records
abbrev pub IsSeenExchange : ℕ → Option OpenExchange → Option Exchange → Type 0
IsSeenExchange e None seen = seen ≡ None
IsSeenExchange e (Some x) seen =
    (position : ℕ) × (seen ≡ Some (record { number = e; position = position; request = x.request; target = x.target }))

-- a forward as the records have it
abbrev pub seen_forward : Awaited → Forward
seen_forward a = record { moment = a.forward.moment; request = a.forward.request; target = a.forward.target }

-- a request that asks, by the cache's own condition in place of the client's, whether a stored response still holds: for a GET that selects it
pub record AsksAfter (x : OpenExchange) (why : Cause) (request : RequestHead) : Type 0 where
  pub method : x.request.method ≡ codes "GET"
  pub reason : is_of_stored why ≡ true
  pub name : List ℕ
  pub stored : List Field
  pub validator : has_validator stored ≡ true
  pub request_is : request ≡ conditional_request name x.target x.request stored

-- the forward asks for what the request asks for, the store was asked for methods that it answers alone, and the cache's own condition is there where it is said to be
pub record AsksFor (x : OpenExchange) (why : Cause) (kind : ForwardKind) (forward : OpenForward) : Type 0 where
  pub method : forward.request.method ≡ x.request.method
  pub target : forward.target ≡ x.target
  pub by_store : asks_store why ≡ true → is_answered_by_store x.request.method ≡ true
  pub asks_after : is_conditional kind ≡ true → AsksAfter x why forward.request

-- the exchange that the forward is for is open
pub record IsFor (exchanges : Table OpenExchange) (e : ℕ) (why : Cause) (kind : ForwardKind) (forward : OpenForward) : Type 0 where
  pub exchange : OpenExchange
  pub is_open : get exchanges e ≡ Some exchange
  pub asks_for : AsksFor exchange why kind forward

abbrev pub KeepsPurpose : Table OpenExchange → Purpose → OpenForward → Type 0
KeepsPurpose exchanges purpose.Background forward = forward.request.method ≡ codes "GET"
KeepsPurpose exchanges (purpose.Reply e why kind) forward = IsFor exchanges e why kind forward

-- what is open is what the records leave open, by the numbers of the last exchange and the last forward
pub record AreAsked (exchange forward : ℕ) (exchanges : Table OpenExchange) (forwards : Table Awaited) (items : List Item) : Type 0 where
  pub exchanges_are : (e : ℕ) → IsSeenExchange e (get exchanges e) (exchange_of e items)
  pub forwards_are : (f : ℕ) → forward_of f items ≡ option_map seen_forward (get forwards f)
  pub purposes : (f : ℕ) (a : Awaited) → get forwards f ≡ Some a → KeepsPurpose exchanges a.forward.purpose a.forward
  -- the cause of a forward is the exchange that it is for
  pub causes : (f : ℕ) (a : Awaited) → get forwards f ≡ Some a → cause_of f items ≡ exchange_for a.forward.purpose
  -- no two forwards are for the same request
  pub alone : (f g e : ℕ) (a b : Awaited) → get forwards f ≡ Some a → get forwards g ≡ Some b
      → exchange_for a.forward.purpose ≡ Some e → exchange_for b.forward.purpose ≡ Some e → f ≡ g
  -- numbers that weren't given yet
  pub later_exchanges : (e : ℕ) → exchange < e → get exchanges e ≡ None
  pub later_forwards : (f : ℕ) → forward < f → get forwards f ≡ None
  pub no_exchange : get exchanges 0 ≡ None
  pub no_forward : get forwards 0 ≡ None

-- the request awaits its reply on its connection, and can be passed on
pub record AwaitsOn (connections : Table Connection) (e : ℕ) (x : OpenExchange) : Type 0 where
  pub connection : Connection
  pub is_open : get connections x.connection ≡ Some connection
  pub awaits : connection.exchange ≡ Some e
  pub forwardable : IsForwardable x.request x.target

-- the connection's exchange is open
pub record HasItsExchange (exchanges : Table OpenExchange) (c e : ℕ) : Type 0 where
  pub exchange : OpenExchange
  pub is_open : get exchanges e ≡ Some exchange
  pub is_its : exchange.connection ≡ c

-- the open exchanges are those of the connections, by the number of the last connection
pub record AreLinked (last : Option ℕ) (connections : Table Connection) (exchanges : Table OpenExchange) : Type 0 where
  pub on_connections : (e : ℕ) (x : OpenExchange) → get exchanges e ≡ Some x → AwaitsOn connections e x
  pub busy : (c e : ℕ) (k : Connection) → get connections c ≡ Some k → k.exchange ≡ Some e → HasItsExchange exchanges c e
  pub later : (c : ℕ) → is_later c last ≡ true → get connections c ≡ None

-- ---- 5: who waits for the forward of another request

-- each is a request that may, and no forward is for it; and what is stored of its target lies behind it, where that lies behind what is told of the target
pub record AreWaiting (since : Target → ℕ) (exchanges : Table OpenExchange) (forwards : Table Awaited) (items : List Item) : Type 0 where
  pub joinable : (e f : ℕ) (x : OpenExchange) → get exchanges e ≡ Some x → x.waits_for ≡ Some f → is_joinable x.request ≡ true
  pub own : (e f g : ℕ) (x : OpenExchange) (a : Awaited) → get exchanges e ≡ Some x → x.waits_for ≡ Some f → get forwards g ≡ Some a
      → exchange_for a.forward.purpose ≡ Some e → ⊥
  pub behind : (e f : ℕ) (x : OpenExchange) (seen : Exchange) → get exchanges e ≡ Some x → x.waits_for ≡ Some f → exchange_of e items ≡ Some seen
      → seen.position ≤ since x.target
  pub reached : (target : Target) → since target ≤ length items

-- ---- all

-- 1 to 5, which hold in the middle of an event too
pub record IsConsistent (s : State) (h : History) : Type 0 where
  pub counted : AreCounted s.numbers h
  -- behind which position what is stored of a target lies
  pub since : Target → ℕ
  pub entries : AllHeld (IsSound since h.items) s.store.entries
  pub keys : IsDistinct same_target (keys_of s.store.entries)
  pub received : AreReceived s.numbers.connection s.numbers.forward s.connections s.forwards h.client_octets h.origin_octets
  pub asked : AreAsked s.numbers.exchange s.numbers.forward s.exchanges s.forwards h.items
  pub linked : AreLinked s.numbers.connection s.connections s.exchanges
  pub waiting : AreWaiting since s.exchanges s.forwards h.items
  pub few : len s.connections ≤ s.numbers.room

-- 6: nothing that has come can be read yet, and while an exchange awaits its reply no more octets are unread than may be
abbrev pub IsQuiet : State → Type 0
IsQuiet s = (c : ℕ) → IsQuietAt c s

-- 7: on no open forward has a whole response come, or what makes it fail
abbrev pub IsAwaiting : State → Type 0
IsAwaiting s = (f : ℕ) → AwaitsStill f s

-- all seven: the cache agrees with what has happened, between events
pub record Agrees (s : State) (h : History) : Type 0 where
  pub consistent : IsConsistent s h
  pub quiet : IsQuiet s
  pub awaiting : IsAwaiting s

-- ---- states in which each forward can end

-- the exchange for which a forward is open is open
abbrev pub HasExchange : Table OpenExchange → Purpose → Type 0
HasExchange exchanges purpose.Background = Unit {0}
HasExchange exchanges (purpose.Reply e why kind) = IsSome (get exchanges e)

-- the exchange awaits its reply on its connection, which is open
pub record AwaitsThere (connections : Table Connection) (e : ℕ) (x : OpenExchange) : Type 0 where
  pub connection : Connection
  pub is_open : get connections x.connection ≡ Some connection
  pub awaits : connection.exchange ≡ Some e

-- the exchange that a forward is for is open and waits for no other one, and each exchange awaits its reply on its connection
pub record IsReady (s : State) : Type 0 where
  pub exchanges : (f : ℕ) (a : Awaited) → get s.forwards f ≡ Some a → HasExchange s.exchanges a.forward.purpose
  pub alone : (f e : ℕ) (a : Awaited) (x : OpenExchange) → get s.forwards f ≡ Some a → exchange_for a.forward.purpose ≡ Some e → get s.exchanges e ≡ Some x → x.waits_for ≡ None
  pub connections : (e : ℕ) (x : OpenExchange) → get s.exchanges e ≡ Some x → AwaitsThere s.connections e x
