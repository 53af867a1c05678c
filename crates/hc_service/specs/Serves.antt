-- What a cache owes for each event: the turns that arise from it, in their order.
use Rattle.std.specs.Prelude.{◌≡◌, ℕ, ◌≤◌, ◌⊎◌, Bool, true, false, not, nat_lt, nat_le, List, [], ◌∷◌, ◌++◌, length, map, Option, Some, None, option_map, option_and_then, is_some, if◌then◌else◌}
use Rattle.std.specs.FinMap.{get, len}
use Rattle.std.specs.List.{AllByRecursion}
use Rattle.hc_head.specs.Methods.{is_head}
use Rattle.hc_transcript.specs.Limits.{greatest_moment}
use Rattle.hc_service.specs.declared.event.Event.{Event}
use Rattle.hc_service.specs.declared.event.Happening.{Happening}
use Rattle.hc_service.specs.declared.event.Happening.TheVariants.{ClientOpened, ClientBytes, ClientEnd, OriginBytes, OriginEnd, OriginFailed, Stopping as ToStop}
use Rattle.hc_incoming.specs.Requests.{IsUnfinished}
use Rattle.hc_incoming.specs.Responses.{IsUnfinished as IsAwaitedStill}
use Rattle.hc_service.specs.declared.action.Action.{Action}
use Rattle.hc_service.specs.declared.fault.StepFault.{StepFault}
use Rattle.hc_service.specs.declared.fault.StepFault.TheVariants.{MomentTooLarge, UnknownNumber, TooManyConnections}
use Rattle.hc_service.specs.declared.open.OpenExchange.{OpenExchange}
use Rattle.hc_service.specs.declared.settings.CoreSettings.{CoreSettings}
use Rattle.hc_service.specs.Numbers.{at_moment, is_later}
use Rattle.hc_service.specs.Joining.{waiting_for}
use Rattle.hc_service.specs.State.{State, Table, Connection, Awaited, exchange_for}
use Rattle.hc_service.specs.Turns.{most_unread, Failure, Opens, ClientSends, Drops, Leaves, Closes, Refuses, Asks, OriginSends, Answers, Breaks, Releases, Stops}
use Rattle.hc_service.specs.Turns.Failure.{IsBroken, IsCutOff, IsLost}

-- ---- turns

pub data Turn : Type 0 where
  -- a connection opens
  Opening : (c : ℕ) → Turn
  -- octets come from a client
  ClientSending : (c : ℕ) (octets : List ℕ) → Turn
  -- a whole request is read
  Asking : (c : ℕ) → Turn
  -- what came is refused
  Refusal : (c status : ℕ) → Turn
  -- unread octets are dropped
  Dropping : (c : ℕ) → Turn
  -- the client ends, while an exchange awaits its reply, or else
  Leaving : (c : ℕ) → Turn
  Closing : (c : ℕ) → Turn
  -- octets come from the origin
  OriginSending : (f : ℕ) (octets : List ℕ) → Turn
  -- a whole response has come
  Answering : (f : ℕ) (ended : Bool) → Turn
  -- a forward fails
  Failing : (f : ℕ) (how : Failure) → Turn
  -- an exchange is released that waited for a forward, which has ended
  Releasing : (e : ℕ) → Turn
  -- whoever serves the cache stops
  Stopping : Turn

-- what a turn does
abbrev pub Takes : CoreSettings → Turn → State → List Action → State → Type 0
Takes settings (Opening c) s actions s' = Opens c s actions s'
Takes settings (ClientSending c octets) s actions s' = ClientSends c octets s actions s'
Takes settings (Asking c) s actions s' = Asks settings c s actions s'
Takes settings (Refusal c status) s actions s' = Refuses c status s actions s'
Takes settings (Dropping c) s actions s' = Drops c s actions s'
Takes settings (Leaving c) s actions s' = Leaves c s actions s'
Takes settings (Closing c) s actions s' = Closes c s actions s'
Takes settings (OriginSending f octets) s actions s' = OriginSends f octets s actions s'
Takes settings (Answering f ended) s actions s' = Answers settings f ended s actions s'
Takes settings (Failing f how) s actions s' = Breaks settings f how s actions s'
Takes settings (Releasing e) s actions s' = Releases settings e s actions s'
Takes settings Stopping s actions s' = Stops s actions s'

-- turns, one after another
abbrev pub Run : CoreSettings → List Turn → State → List Action → State → Type 0
Run settings [] s actions s' = (actions ≡ []) × (s' ≡ s)
Run settings (turn ∷ turns) s actions s' =
    (mid : State) × (first : List Action) × (rest : List Action)
    × Takes settings turn s first mid × (actions ≡ first ++ rest) × Run settings turns mid rest s'

-- ---- reading a connection as far as can be

-- a turn that reads what came on the connection
abbrev pub Reads : ℕ → Turn → Type 0
Reads c (Asking d) = d ≡ c
Reads c (Refusal d status) = d ≡ c
Reads c (Dropping d) = d ≡ c
Reads c turn = ⊥

-- nothing more can be read: while an exchange awaits its reply no more octets are unread than may be, and else no request is there yet
abbrev pub IsQuietBy : Option ℕ → List ℕ → Type 0
IsQuietBy (Some exchange) unread = length unread ≤ most_unread
IsQuietBy None unread = IsUnfinished unread

abbrev pub IsQuietAt : ℕ → State → Type 0
IsQuietAt c s = (k : Connection) → get s.connections c ≡ Some k → IsQuietBy k.exchange k.unread

-- what came on the connection is read until nothing more can be
abbrev pub ReadsOn : ℕ → List Turn → State → Type 0
ReadsOn c turns s' = AllByRecursion (Reads c) turns × IsQuietAt c s'

-- the same on connections, one after another
abbrev pub ReadsOnAll : List ℕ → List Turn → State → Type 0
ReadsOnAll [] turns s' = turns ≡ []
ReadsOnAll (c ∷ connections) turns s' =
    (own : List Turn) × (more : List Turn) × (turns ≡ own ++ more) × ReadsOn c own s' × ReadsOnAll connections more s'

-- ---- whom the end of a forward answers

abbrev pub listed : Option ℕ → List ℕ
listed None = []
listed (Some n) = n ∷ []

-- the exchange that it is for, and then those that wait for it
abbrev pub answered_by : ℕ → State → List ℕ
answered_by f s = listed (option_and_then (λ awaited. exchange_for awaited.forward.purpose) (get s.forwards f)) ++ waiting_for f s.exchanges

-- the connections of exchanges
abbrev pub connections_of : Table OpenExchange → List ℕ → List ℕ
connections_of exchanges [] = []
connections_of exchanges (e ∷ more) = listed (option_map (λ x. x.connection) (get exchanges e)) ++ connections_of exchanges more

abbrev pub clients_of : ℕ → State → List ℕ
clients_of f s = connections_of s.exchanges (answered_by f s)

-- ---- what each event owes

-- the client ends: nothing where nothing more is read; else what is unread is given up, and the connection closes, or is refused
abbrev pub OwesEnd : ℕ → Bool → Option ℕ → List Turn → Type 0
OwesEnd c true exchange turns = turns ≡ []
OwesEnd c false (Some e) turns = turns ≡ Leaving c ∷ []
OwesEnd c false None turns = (turns ≡ Closing c ∷ []) ⊎ ((status : ℕ) × (turns ≡ Refusal c status ∷ []))

-- no response has come yet on a forward that is open
abbrev pub AwaitsStill : ℕ → State → Type 0
AwaitsStill f s = (awaited : Awaited) → get s.forwards f ≡ Some awaited → IsAwaitedStill (is_head awaited.forward.request.method) awaited.received

-- the turn, which ends the forward; behind it those that waited for it are released by rising number; and then what came meanwhile on the connections of all of them
-- is read, in the same order
abbrev pub OwesReply : ℕ → Turn → List Turn → State → State → Type 0
OwesReply f turn turns s s' =
    (readings : List Turn) × (turns ≡ turn ∷ (map Releasing (waiting_for f s.exchanges) ++ readings)) × ReadsOnAll (clients_of f s) readings s'

abbrev pub OwesAnswer : ℕ → List Turn → State → State → Type 0
OwesAnswer f turns s s' =
    ((turns ≡ []) × AwaitsStill f s') ⊎ OwesReply f (Answering f false) turns s s' ⊎ OwesReply f (Failing f IsBroken) turns s s'

-- the turns that an event owes
abbrev pub Owes : Happening → List Turn → State → State → Type 0
Owes (ClientOpened c) turns s s' = turns ≡ Opening c ∷ []
Owes (ClientBytes c octets) turns s s' = (readings : List Turn) × (turns ≡ ClientSending c octets ∷ readings) × ReadsOn c readings s'
Owes (ClientEnd c) turns s s' = (k : Connection) × (get s.connections c ≡ Some k) × OwesEnd c k.leaves k.exchange turns
Owes (OriginBytes f octets) turns s s' = (more : List Turn) × (turns ≡ OriginSending f octets ∷ more) × OwesAnswer f more s s'
Owes (OriginEnd f) turns s s' = OwesReply f (Answering f true) turns s s' ⊎ OwesReply f (Failing f IsCutOff) turns s s'
Owes (OriginFailed f) turns s s' = OwesReply f (Failing f IsLost) turns s s'
Owes ToStop turns s s' = turns ≡ Stopping ∷ []

-- the moment has come
abbrev pub passed_to : ℕ → State → State
passed_to moment s = record {
  numbers = at_moment moment s.numbers;
  connections = s.connections;
  exchanges = s.exchanges;
  forwards = s.forwards;
  store = s.store;
}

-- ---- which events are served

-- what the event is about is open, or has a number that may be opened; or it is about the cache as a whole
abbrev pub is_known : Happening → State → Bool
is_known (ClientOpened c) s = is_later c s.numbers.connection
is_known (ClientBytes c octets) s = is_some (get s.connections c)
is_known (ClientEnd c) s = is_some (get s.connections c)
is_known (OriginBytes f octets) s = is_some (get s.forwards f)
is_known (OriginEnd f) s = is_some (get s.forwards f)
is_known (OriginFailed f) s = is_some (get s.forwards f)
is_known ToStop s = true

-- as many connections are open as may be
abbrev pub is_full : Happening → State → Bool
is_full (ClientOpened c) s = nat_le s.numbers.room (len s.connections)
is_full other s = false

-- the first test that an event fails, before memory is asked for
abbrev pub first_fault : Event → State → Option StepFault
first_fault event s =
    if nat_lt greatest_moment event.moment then Some MomentTooLarge
    else if not (is_known event.of s) then Some UnknownNumber
    else if is_full event.of s then Some TooManyConnections
    else None

-- ---- all

-- what a cache owes for an event
pub record Serves (settings : CoreSettings) (event : Event) (s : State) (actions : List Action) (s' : State) : Type 0 where
  -- no test of the event fails
  pub is_served : first_fault event s ≡ None
  pub turns : List Turn
  pub owes : Owes event.of turns s s'
  pub run : Run settings turns (passed_to event.moment s) actions s'
