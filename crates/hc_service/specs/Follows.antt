-- What is open at a cache's links, as its actions tell it.
use Rattle.std.specs.Prelude.{◌≡◌, ℕ, ◌+◌, ◌==◌, Bool, true, false, List, [], ◌∷◌, Option, Some, is_some, if◌then◌else◌}
use Rattle.std.specs.FinMap.{get, len}
use Rattle.hc_service.specs.declared.event.Happening.{Happening}
use Rattle.hc_service.specs.declared.event.Happening.TheVariants.{ClientOpened, OriginFailed}
use Rattle.hc_service.specs.declared.action.Action.{Action}
use Rattle.hc_service.specs.declared.action.Action.TheVariants as action
use Rattle.hc_service.specs.State.{State}

-- a connection is open behind actions: it was, and none of them closes it
abbrev pub connection_after : ℕ → List Action → Bool → Bool
connection_after c [] was = was
connection_after c (action.ToClient d octets ∷ actions) was = connection_after c actions was
connection_after c (action.CloseClient d ∷ actions) was = connection_after c actions (if d == c then false else was)
connection_after c (action.Forward f octets ∷ actions) was = connection_after c actions was
connection_after c (action.CloseForward f ∷ actions) was = connection_after c actions was
connection_after c (action.Record r ∷ actions) was = connection_after c actions was

-- a forward is: the last of them that is about it opens it, or none is and it was
abbrev pub forward_after : ℕ → List Action → Bool → Bool
forward_after f [] was = was
forward_after f (action.ToClient d octets ∷ actions) was = forward_after f actions was
forward_after f (action.CloseClient d ∷ actions) was = forward_after f actions was
forward_after f (action.Forward g octets ∷ actions) was = forward_after f actions (if g == f then true else was)
forward_after f (action.CloseForward g ∷ actions) was = forward_after f actions (if g == f then false else was)
forward_after f (action.Record r ∷ actions) was = forward_after f actions was

-- how many connections they close
abbrev pub closes_in : List Action → ℕ
closes_in [] = 0
closes_in (action.ToClient d octets ∷ actions) = closes_in actions
closes_in (action.CloseClient d ∷ actions) = 1 + closes_in actions
closes_in (action.Forward f octets ∷ actions) = closes_in actions
closes_in (action.CloseForward f ∷ actions) = closes_in actions
closes_in (action.Record r ∷ actions) = closes_in actions

-- what an event itself opens and ends
abbrev pub opened_by : ℕ → Happening → Bool → Bool
opened_by c (ClientOpened d) was = if d == c then true else was
opened_by c other was = was

abbrev pub lost_by : ℕ → Happening → Bool → Bool
lost_by f (OriginFailed g) was = if g == f then false else was
lost_by f other was = was

abbrev pub one_opened : Happening → ℕ
one_opened (ClientOpened d) = 1
one_opened other = 0

abbrev pub last_by : Happening → Option ℕ → Option ℕ
last_by (ClientOpened d) last = Some d
last_by other last = last

-- what is open behind an event is what was, but for what the event and the actions opened and closed
pub record Follows (happening : Happening) (s : State) (actions : List Action) (s' : State) : Type 0 where
  pub connections : (c : ℕ) → is_some (get s'.connections c) ≡ connection_after c actions (opened_by c happening (is_some (get s.connections c)))
  pub forwards : (f : ℕ) → is_some (get s'.forwards f) ≡ forward_after f actions (lost_by f happening (is_some (get s.forwards f)))
  pub count : len s'.connections + closes_in actions ≡ len s.connections + one_opened happening
  pub last : s'.numbers.connection ≡ last_by happening s.numbers.connection
  pub room : s'.numbers.room ≡ s.numbers.room
