-- Clients that have left while their replies were awaited.
use Rattle.std.specs.Prelude.{ℕ, ◌||◌, Bool, true, Option, Some, None, if◌then◌else◌, nat_le}
use Rattle.hc_flow.specs.declared.readiness.Readiness.{Readiness}
use Rattle.hc_peers.specs.Tables.{is_there_and}
use Rattle.hc_peers.specs.declared.client.Client.{Client}

-- the first of the moments at which something was told stays
abbrev pub since_first : ℕ → Option ℕ → Option ℕ
since_first tick (Some since) = Some since
since_first tick None = Some tick

-- when a client has left: when the system first told that it has ended, or that its link has failed
abbrev pub left_behind : Readiness → ℕ → Option ℕ → Option ℕ
left_behind readiness tick before = if readiness.ended || readiness.failed then since_first tick before else before

-- whether a client had left by that tick, or isn't there at all
abbrev pub has_left : {S : Type 0} → ℕ → Option (Client S) → Bool
has_left by None = true
has_left by (Some client) = client.flow.failed || is_there_and client.left (λ since. nat_le since by)
