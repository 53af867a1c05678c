-- How many octets a cache holds of what has come and isn't whole, and whether anybody awaits what comes.
use Rattle.std.specs.Prelude.{ℕ, Bool, ◌||◌, [], false, Option, option_and_then, option_map, unwrap_or}
use Rattle.std.specs.FinMap.{get}
use Rattle.hc_head.specs.declared.head.Target.{Target}
use Rattle.hc_head.specs.Methods.{is_unsafe}
use Rattle.hc_incoming.specs.Counts.{count_of}
use Rattle.hc_service.specs.declared.open.OpenForward.{OpenForward}
use Rattle.hc_service.specs.Reactions.{is_for_store}
use Rattle.hc_service.specs.State.{Awaited, Connection, State, exchange_for}

-- how many octets are unread of that connection, zero where it isn't open
abbrev pub held_of_client : ℕ → State → ℕ
held_of_client c s = count_of (unwrap_or (option_map (λ (k : Connection). k.unread) (get s.connections c)) [])

-- how many octets have come on that forward, zero where it isn't open
abbrev pub held_of_forward : ℕ → State → ℕ
held_of_forward f s = count_of (unwrap_or (option_map (λ (a : Awaited). a.received) (get s.forwards f)) [])

-- whether that forward is open for the store alone, so that no exchange awaits what comes on it
abbrev pub is_background : ℕ → State → Bool
is_background f s = unwrap_or (option_map (λ (a : Awaited). is_for_store a.forward.purpose) (get s.forwards f)) false

-- a forward goes on where nobody awaits what comes on it: it is for the store alone, or its request may have changed something at the origin, and what was stored of
-- that is invalidated by the response (RFC 9111 section 4.4)
abbrev pub goes_on : OpenForward → Bool
goes_on forward = is_for_store forward.purpose || is_unsafe forward.request.method

-- whether that forward is open, and is such a one
abbrev pub is_needed : ℕ → State → Bool
is_needed f s = unwrap_or (option_map (λ (a : Awaited). goes_on a.forward) (get s.forwards f)) false

-- what that forward asks for, if it is open
abbrev pub target_at : ℕ → State → Option Target
target_at f s = option_map (λ (a : Awaited). a.forward.target) (get s.forwards f)

-- the exchange for which that forward was sent, if it is open and was sent for one
abbrev pub exchange_of : ℕ → State → Option ℕ
exchange_of f s = option_and_then (λ (a : Awaited). exchange_for a.forward.purpose) (get s.forwards f)
