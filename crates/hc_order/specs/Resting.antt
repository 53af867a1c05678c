-- Clients and forwards that have ended, and a cache at rest.
use Rattle.std.specs.Prelude.{◌≡◌, ℕ, ◌≤◌, ◌==◌, Bool, true, false, List, [], ◌∷◌, Some, None, Ok, Err, if◌then◌else◌}
use Rattle.std.specs.FinMap.{get, len}
use Rattle.std.specs.Option.{IsSome}
use Rattle.hc_service.specs.declared.event.Event.{Event}
use Rattle.hc_service.specs.declared.event.Happening.{Happening}
use Rattle.hc_service.specs.declared.event.Happening.TheVariants.{ClientEnd, OriginEnd, OriginFailed}
use Rattle.hc_service.specs.Follows.{forward_after}
use Rattle.hc_service.specs.Numbers.{is_later}
use Rattle.hc_service.specs.Runs.{StepResult}
use Rattle.hc_service.specs.State.{State, Connection}

-- ---- clients that have ended

-- each connection of which nothing more is read awaits a reply
abbrev pub AwaitWhereLeft : State → Type 0
AwaitWhereLeft s = (c : ℕ) (k : Connection) → get s.connections c ≡ Some k → k.leaves ≡ true → IsSome k.exchange

-- the client opened its connection and has ended: if the connection is open still, nothing more is read of it
pub record HasEnded (c : ℕ) (s : State) : Type 0 where
  pub was_opened : is_later c s.numbers.connection ≡ false
  pub is_left : (k : Connection) → get s.connections c ≡ Some k → k.leaves ≡ true

-- whether the client has ended behind an event: that is its end, or it had ended before
abbrev pub ended_behind : ℕ → Happening → Bool → Bool
ended_behind c (ClientEnd d) was = if d == c then true else was
ended_behind c other was = was

-- the same behind all events that were served
abbrev pub ended_behind_all : ℕ → List Event → List StepResult → Bool → Bool
ended_behind_all c (event ∷ events) (Ok actions ∷ results) was = ended_behind_all c events results (ended_behind c event.of was)
ended_behind_all c (event ∷ events) (Err step ∷ results) was = ended_behind_all c events results was
ended_behind_all c (event ∷ events) [] was = was
ended_behind_all c [] results was = was

-- ---- forwards that have ended

-- a forward of that number was sent, and isn't open any more
pub record IsOver (f : ℕ) (s : State) : Type 0 where
  pub was_sent : f ≤ s.numbers.forward
  pub is_closed : get s.forwards f ≡ None

-- whether a forward is open at its link behind an event: its end and its failure close it there
abbrev pub open_behind : ℕ → Happening → Bool → Bool
open_behind f (OriginEnd g) was = if g == f then false else was
open_behind f (OriginFailed g) was = if g == f then false else was
open_behind f other was = was

-- the same behind all events that were served, once what the cache did for them was carried out
abbrev pub open_behind_all : ℕ → List Event → List StepResult → Bool → Bool
open_behind_all f (event ∷ events) (Ok actions ∷ results) was =
    open_behind_all f events results (forward_after f actions.items (open_behind f event.of was))
open_behind_all f (event ∷ events) (Err step ∷ results) was = open_behind_all f events results was
open_behind_all f (event ∷ events) [] was = was
open_behind_all f [] results was = was

-- ---- a cache at rest

-- no forward is open
abbrev pub HasNoForward : State → Type 0
HasNoForward s = (f : ℕ) → get s.forwards f ≡ None

-- no request awaits its reply
abbrev pub HasNoExchange : State → Type 0
HasNoExchange s = (e : ℕ) → get s.exchanges e ≡ None

-- each client whose connection is open has ended
abbrev pub AllHaveEnded : State → Type 0
AllHaveEnded s = (c : ℕ) → IsSome (get s.connections c) → HasEnded c s

-- neither a connection nor a forward is open
abbrev pub IsAtRest : State → Type 0
IsAtRest s = (len s.connections ≡ 0) × (len s.forwards ≡ 0)
