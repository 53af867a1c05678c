-- What is known of clients, but for whose turn it is.
use Rattle.std.specs.Prelude.{◌≡◌, ℕ, ◌&&◌, Bool, false, Option, Some, None, length, not, option_map}
use Rattle.std.specs.BTreeMap.{BTreeMap, get}
use Rattle.std.specs.Ordering.{nat_cmp}
use Rattle.hc_flow.specs.declared.outbox.Emptying.{Emptying}
use Rattle.hc_peers.specs.Tables.{is_there_and}
use Rattle.hc_flow.specs.Paces.{written}
use Rattle.hc_flow.specs.declared.pace.Pace.{Pace}
use Rattle.hc_peers.specs.declared.client.Client.{Client}
use Rattle.hc_flow.specs.Flows.{is_owed}

-- the client where it stands among the turns, or doesn't
abbrev pub turned : {S : Type 0} → (queued : Bool) → Client S → Client S
turned queued client = record client { queued = queued }

-- the client, as it is when it doesn't
abbrev pub unqueued : {S : Type 0} → Client S → Client S
unqueued client = turned false client

module _ {S : Type 0} where
  -- what is known of a client, if it is there
  abbrev pub known_at : ℕ → BTreeMap ℕ (Client S) → Option (Client S)
  known_at n table = option_map unqueued (get nat_cmp table n)

  -- how it is getting on
  abbrev pub pace_at : ℕ → BTreeMap ℕ (Client S) → Option Pace
  pace_at n table = option_map (λ client. client.pace) (known_at n table)

  -- whether it is there, and was cut off
  abbrev pub is_cut_at : ℕ → BTreeMap ℕ (Client S) → Bool
  is_cut_at n table = is_there_and (known_at n table) (λ client. client.cut)

  -- whether it is there, and its link has failed
  abbrev pub is_failed_at : ℕ → BTreeMap ℕ (Client S) → Bool
  is_failed_at n table = is_there_and (known_at n table) (λ client. client.flow.failed)

  -- whether it is there, and the cache hasn't closed its connection
  abbrev pub is_connected_at : ℕ → BTreeMap ℕ (Client S) → Bool
  is_connected_at n table = is_there_and (known_at n table) (λ client. not client.closed)

  -- the same, and it hasn't ended
  abbrev pub is_open_at : ℕ → BTreeMap ℕ (Client S) → Bool
  is_open_at n table = is_there_and (known_at n table) (λ client. not client.closed && not client.ended)

  -- whether it is there, and octets wait to be written to it
  abbrev pub is_owed_at : ℕ → BTreeMap ℕ (Client S) → Bool
  is_owed_at n table = is_there_and (known_at n table) (λ client. is_owed client.flow)

  abbrev pub held_by : Option (Client S) → ℕ
  held_by None = 0
  held_by (Some client) = length client.flow.outbox

  -- how many octets wait to be written to it
  abbrev pub held_at : ℕ → BTreeMap ℕ (Client S) → ℕ
  held_at n table = held_by (known_at n table)

  -- all clients are as they were, but for whose turn it is
  abbrev pub KeepsKnown : BTreeMap ℕ (Client S) → BTreeMap ℕ (Client S) → Type 0
  KeepsKnown before after = (n : ℕ) → known_at n after ≡ known_at n before

  -- how a client is getting on, and whether it was cut off, is as it was
  abbrev pub KeepsPace : ℕ → BTreeMap ℕ (Client S) → BTreeMap ℕ (Client S) → Type 0
  KeepsPace n before after = (pace_at n after ≡ pace_at n before) × (is_cut_at n after ≡ is_cut_at n before)

  -- a client is getting on by what it took of what was owed to it
  abbrev pub PaceWritten : Option Emptying → ℕ → (tick : ℕ) → BTreeMap ℕ (Client S) → BTreeMap ℕ (Client S) → Type 0
  PaceWritten (Some emptying) n tick before after = pace_at n after ≡ option_map (written emptying (held_at n before) (held_at n after) tick) (pace_at n before)
  PaceWritten None n tick before after = pace_at n after ≡ pace_at n before
