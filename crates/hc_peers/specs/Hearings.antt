-- Why a client is heard.
use Rattle.std.specs.Prelude.{◌≡◌, Bool, true, false, Option, Some, None, Result, Ok, Err}
use Rattle.std.specs.declared.alloc.AllocError.{AllocError}
use Rattle.hc_flow.specs.Hearings.{FailsOnly, HasFailed}
use Rattle.hc_flow.specs.declared.heard.Heard.{Heard}
use Rattle.hc_flow.specs.declared.heard.Heard.TheVariants.{Octets, End, Lost, Nothing}
use Rattle.hc_order.specs.declared.occurrence.Reason.TheVariants.{Peer, Stop, Late, Reset, Held, Displaced}
use Rattle.hc_peers.specs.declared.client.Client.{Client}
use Rattle.hc_peers.specs.declared.client.Hearing.{Hearing}

-- of one that is open, and hasn't ended: that it was cut off is told before all else, and then that its time is over
abbrev pub IsToldAtOnce : (is_cut is_late : Bool) → Result Heard AllocError → Type 0
IsToldAtOnce true is_late result = result ≡ Ok (End Held)
IsToldAtOnce false true result = result ≡ Ok (End Late)
IsToldAtOnce false false result = Unit {0}

-- it was known before that a client's link had failed, or its stream has failed by now
abbrev pub HasFailedAt : {S : Type 0} → (S → Type 0) → Option (Client S) → Option (Client S) → Type 0
HasFailedAt has_failed (Some before) (Some after) = HasFailed has_failed before.flow after.flow
HasFailedAt has_failed None after = ⊥
HasFailedAt has_failed (Some before) None = ⊥

-- a client is there, which has ended what it sends
abbrev pub HasEndedAt : {S : Type 0} → (S → Type 0) → Option (Client S) → Type 0
HasEndedAt has_ended None = ⊥
HasEndedAt has_ended (Some client) = has_ended client.flow.stream

-- a client is read: no stop ends it, and it gives way to nobody
abbrev pub IsRead : Hearing → Type 0
IsRead hearing = (hearing.stops ≡ false) × (hearing.gives_way ≡ false)

-- a client is read, and its own end is heard, unless a stop ends it, or it gives way; then its end is heard for that; or it is heard because its time is over, because it was cut off, or because its link has failed
abbrev pub IsHeardFor : Hearing → (is_cut : Bool) → (has_failed : Type 0) → Result Heard AllocError → Type 0
IsHeardFor hearing is_cut has_failed (Ok (Octets octets)) = IsRead hearing
IsHeardFor hearing is_cut has_failed (Ok (End Peer)) = IsRead hearing
IsHeardFor hearing is_cut has_failed (Ok (End Stop)) = hearing.stops ≡ true
IsHeardFor hearing is_cut has_failed (Ok (End Late)) = hearing.late ≡ true
IsHeardFor hearing is_cut has_failed (Ok (End Held)) = is_cut ≡ true
IsHeardFor hearing is_cut has_failed (Ok (End Displaced)) = hearing.gives_way ≡ true
IsHeardFor hearing is_cut has_failed (Ok (End Reset)) = has_failed
IsHeardFor hearing is_cut has_failed (Ok (End other)) = ⊥
IsHeardFor hearing is_cut has_failed (Ok (Lost reason)) = ⊥
IsHeardFor hearing is_cut has_failed (Ok Nothing) = Unit {0}
IsHeardFor hearing is_cut has_failed (Err refused) = Unit {0}

-- a client's link has failed only where that was known before, where its stream has failed by now, or on that ground
abbrev pub ClientFailsOnly : {S : Type 0} → (S → Type 0) → (ground : Type 0) → Option (Client S) → Option (Client S) → Type 0
ClientFailsOnly has_failed ground (Some before) (Some after) = FailsOnly has_failed ground before.flow after.flow
ClientFailsOnly has_failed ground None None = Unit {0}
ClientFailsOnly has_failed ground before after = ⊥
