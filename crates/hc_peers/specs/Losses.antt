-- Why a forward has no link any more.
use Rattle.std.specs.Prelude.{◌≡◌, Option, Some, None, Result, Ok, Err}
use Rattle.std.specs.declared.alloc.AllocError.{AllocError}
use Rattle.hc_peers.specs.declared.forward.Forward.{Forward}
use Rattle.hc_peers.specs.declared.forward.Reaching.{Reaching}
use Rattle.hc_peers.specs.declared.forward.Reaching.TheVariants as reaching
use Rattle.hc_peers.specs.Forwards.{ForwardFailsOnly}
use Rattle.hc_flow.specs.Hearings.{HasFailed}
use Rattle.hc_flow.specs.declared.heard.Heard.{Heard}
use Rattle.hc_flow.specs.declared.heard.Heard.TheVariants.{Octets, End, Lost, Nothing}
use Rattle.hc_order.specs.declared.occurrence.Reason.{Reason}
use Rattle.hc_order.specs.declared.occurrence.Reason.TheVariants.{Reset}

-- there is a link, at which the origin has ended what it sends
abbrev pub HasEnded : {S : Type 0} → (S → Type 0) → Reaching S → Type 0
HasEnded has_ended (reaching.Waiting request) = ⊥
HasEnded has_ended (reaching.Linked link) = has_ended link.flow.stream
HasEnded has_ended (reaching.Lost reason) = ⊥

-- the same of a forward that is there
abbrev pub HasEndedAt : {S : Type 0} → (S → Type 0) → Option (Forward S) → Type 0
HasEndedAt has_ended None = ⊥
HasEndedAt has_ended (Some forward) = HasEnded has_ended forward.reaching

-- where there was a link, it has failed; else that is the reason for which it was lost
abbrev pub IsReasonOfLoss : {S : Type 0} → Reaching S → Reason → Type 0
IsReasonOfLoss (reaching.Waiting request) reason = ⊥
IsReasonOfLoss (reaching.Linked link) reason = reason ≡ Reset
IsReasonOfLoss (reaching.Lost why) reason = reason ≡ why

-- the same, by what was kept of a forward
abbrev pub IsLostFor : {S : Type 0} → Option (Forward S) → Reason → Type 0
IsLostFor None reason = ⊥
IsLostFor (Some forward) reason = IsReasonOfLoss forward.reaching reason

-- that there is no link of a forward any more is told for the reason for which it was lost, or because its link has failed
abbrev pub IsLostBy : {S : Type 0} → (S → Type 0) → Reaching S → Reaching S → Result Heard AllocError → Type 0
IsLostBy has_failed (reaching.Linked before) (reaching.Linked after) (Ok (Lost reason)) = (reason ≡ Reset) × HasFailed has_failed before.flow after.flow
IsLostBy has_failed before after (Ok (Lost reason)) = IsReasonOfLoss before reason
IsLostBy has_failed before after (Ok (Octets octets)) = Unit {0}
IsLostBy has_failed before after (Ok (End reason)) = Unit {0}
IsLostBy has_failed before after (Ok Nothing) = Unit {0}
IsLostBy has_failed before after (Err refused) = Unit {0}

-- a loss is told for a reason that there was
abbrev pub IsLossOf : {S : Type 0} → Option (Forward S) → Result Heard AllocError → Type 0
IsLossOf kept (Ok (Lost reason)) = IsLostFor kept reason
IsLossOf kept (Ok (Octets octets)) = Unit {0}
IsLossOf kept (Ok (End reason)) = Unit {0}
IsLossOf kept (Ok Nothing) = Unit {0}
IsLossOf kept (Err refused) = Unit {0}

-- behind what was heard of it, one that is lost is there no more, and any other is reached as far as before
abbrev pub HearsAt : {S : Type 0} → (S → Type 0) → Option (Forward S) → Option (Forward S) → Result Heard AllocError → Type 0
HearsAt has_failed before after (Ok (Lost reason)) = after ≡ None
HearsAt has_failed before after (Ok (Octets octets)) = ForwardFailsOnly has_failed ⊥ before after
HearsAt has_failed before after (Ok (End reason)) = ForwardFailsOnly has_failed ⊥ before after
HearsAt has_failed before after (Ok Nothing) = ForwardFailsOnly has_failed ⊥ before after
HearsAt has_failed before after (Err refused) = ForwardFailsOnly has_failed (Unit {0}) before after
