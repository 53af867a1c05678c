-- What is open at a cache's links, as the log of who drives it tells it.
use Rattle.std.specs.Prelude.{◌≡◌, ℕ, ◌+◌, ◌<◌, ◌==◌, Bool, true, false, nat_lt, List, [], ◌∷◌, Option, Some, None, is_some, if◌then◌else◌}
use Rattle.std.specs.FinMap.{get, len}
use Rattle.hc_transcript.specs.Limits.{greatest_moment}
use Rattle.hc_service.specs.declared.event.Event.{Event}
use Rattle.hc_service.specs.declared.event.Happening.{Happening}
use Rattle.hc_service.specs.declared.event.Happening.TheVariants.{ClientOpened, ClientBytes, ClientEnd, OriginBytes, OriginEnd, OriginFailed, Stopping}
use Rattle.hc_service.specs.declared.fault.StepFault.{StepFault}
use Rattle.hc_service.specs.declared.fault.StepFault.TheVariants.{MomentTooLarge}
use Rattle.hc_service.specs.Numbers.{is_later}
use Rattle.hc_service.specs.State.{State}
use Rattle.hc_service.specs.Follows.{opened_by, lost_by, one_opened, last_by}
use Rattle.hc_order.specs.declared.receiver.Receiver.{Receiver}
use Rattle.hc_order.specs.declared.receiver.Receiver.TheVariants.{Client, Origin}
use Rattle.hc_order.specs.Log.{Move}
use Rattle.hc_order.specs.Log.Move.{Before, Closed, Heard, Sent}

-- the link is that client's
abbrev pub is_its : ℕ → Receiver → Bool
is_its c (Client d) = d == c
is_its c (Origin f) = false

-- the link is that forward's
abbrev pub is_on : ℕ → Receiver → Bool
is_on f (Client c) = false
is_on f (Origin g) = g == f

-- the client opened the connection, and it wasn't closed since
abbrev pub is_connected : ℕ → List Move → Bool
is_connected c [] = false
is_connected c (Before beginning ∷ log) = false
is_connected c (Heard occurrence ∷ log) = opened_by c occurrence.event.of (is_connected c log)
is_connected c (Sent to octets ∷ log) = is_connected c log
is_connected c (Closed link ∷ log) = if is_its c link then false else is_connected c log

-- octets were sent on the forward, and since then it neither failed nor was closed
abbrev pub is_underway : ℕ → List Move → Bool
is_underway f [] = false
is_underway f (Before beginning ∷ log) = false
is_underway f (Heard occurrence ∷ log) = lost_by f occurrence.event.of (is_underway f log)
is_underway f (Sent to octets ∷ log) = if is_on f to then true else is_underway f log
is_underway f (Closed link ∷ log) = if is_on f link then false else is_underway f log

abbrev pub one_closed : Receiver → ℕ
one_closed (Client c) = 1
one_closed (Origin f) = 0

-- how many connections were opened
abbrev pub opened_in : List Move → ℕ
opened_in [] = 0
opened_in (Before beginning ∷ log) = 0
opened_in (Heard occurrence ∷ log) = opened_in log + one_opened occurrence.event.of
opened_in (Sent to octets ∷ log) = opened_in log
opened_in (Closed link ∷ log) = opened_in log

-- how many were closed
abbrev pub closed_in : List Move → ℕ
closed_in [] = 0
closed_in (Before beginning ∷ log) = 0
closed_in (Heard occurrence ∷ log) = closed_in log
closed_in (Sent to octets ∷ log) = closed_in log
closed_in (Closed link ∷ log) = one_closed link + closed_in log

-- the number of the connection that was opened last
abbrev pub last_opened : List Move → Option ℕ
last_opened [] = None
last_opened (Before beginning ∷ log) = beginning.last
last_opened (Heard occurrence ∷ log) = last_by occurrence.event.of (last_opened log)
last_opened (Sent to octets ∷ log) = last_opened log
last_opened (Closed link ∷ log) = last_opened log

-- what is open in a cache with room for so many connections is what the log leaves open
pub record Mirrors (room : ℕ) (s : State) (log : List Move) : Type 0 where
  pub connections : (c : ℕ) → is_some (get s.connections c) ≡ is_connected c log
  pub forwards : (f : ℕ) → is_some (get s.forwards f) ≡ is_underway f log
  pub count : len s.connections + closed_in log ≡ opened_in log
  pub last : s.numbers.connection ≡ last_opened log
  -- a connection of a later number isn't open
  pub fresh : (c : ℕ) → is_later c (last_opened log) ≡ true → is_connected c log ≡ false
  pub has_room : s.numbers.room ≡ room

-- by the log, it may happen next: a connection opens of a greater number than all before, and there is room for it; anything else happens at what is open, but for a stop, which may come at any time
abbrev pub MayHappen : ℕ → Happening → List Move → Type 0
MayHappen room (ClientOpened c) log = (is_later c (last_opened log) ≡ true) × (opened_in log < room + closed_in log)
MayHappen room (ClientBytes c octets) log = is_connected c log ≡ true
MayHappen room (ClientEnd c) log = is_connected c log ≡ true
MayHappen room (OriginBytes f octets) log = is_underway f log ≡ true
MayHappen room (OriginEnd f) log = is_underway f log ≡ true
MayHappen room (OriginFailed f) log = is_underway f log ≡ true
MayHappen room Stopping log = Unit {0}

-- each event may happen by the log before it
abbrev pub IsOrderly : ℕ → List Move → Type 0
IsOrderly room [] = Unit {0}
IsOrderly room (Before beginning ∷ log) = Unit {0}
IsOrderly room (Heard occurrence ∷ log) = MayHappen room occurrence.event.of log × IsOrderly room log
IsOrderly room (Sent to octets ∷ log) = IsOrderly room log
IsOrderly room (Closed link ∷ log) = IsOrderly room log

-- the fault of an event whose moment is too large to be told
abbrev pub moment_fault : Event → Option StepFault
moment_fault event = if nat_lt greatest_moment event.moment then Some MomentTooLarge else None
