-- The tests of a head.
use Rattle.std.proofs.Common.{ℕ, List, ◌≡◌, ◌≢◌, ◌∙◌, Err, ap, refl, sym, subst, inl, inr}
use Rattle.hc_incoming.specs.declared.troubles.Trouble.{Trouble}
use Rattle.hc_head.specs.declared.fault.HeadFault.{HeadFault}
use Rattle.hc_head.specs.declared.fault.HeadFault.TheVariants as heads
use Rattle.hc_head.specs.declared.head.RequestHead.{RequestHead}
use Rattle.hc_head.specs.Targets.{GivesTarget}
use Rattle.hc_framing.specs.declared.fault.FrameFault.{FrameFault}
use Rattle.hc_framing.specs.declared.fault.FrameFault.TheVariants as faults
use Rattle.hc_incoming.specs.Refusals.{IsRefusedFor, IsUnservedFor}
use Rattle.hc_incoming.specs.Requests.{IsRefused, IsUnserved, fault_status}
use Rattle.hc_incoming.specs.Troubles.{head_trouble, refusal_status, trouble_of}

-- any fault but refused memory says that there is no target
without_target : (fault : HeadFault) (head : RequestHead) → fault ≢ heads.Memory → GivesTarget (Err fault) head → IsUnserved head (refusal_status (head_trouble fault))
without_target heads.Syntax head not gives = absurd gives
without_target heads.TooManyFields head not gives = absurd gives
without_target heads.TooLong head not gives = absurd gives
without_target heads.Host head not gives = inl (record { none = λ target has. gives has.host has.has_host; status_is = refl })
without_target heads.Target head not gives = inl (record { none = λ target has. gives.1 has.form has.names; status_is = refl })
without_target heads.Memory head not gives = absurd (not refl)

-- a head that is refused for some trouble is refused with its status
unserved_for : (head : RequestHead) (trouble : Trouble) → IsUnservedFor head trouble → IsUnserved head (refusal_status trouble)
unserved_for head trouble (inl none) =
    subst (λ (t : Trouble). IsUnserved head (refusal_status t)) (sym none.trouble_is) (without_target none.fault head none.not_memory none.gives)
unserved_for head trouble (inr some) =
    inr (record { target = some.target; asks_for = some.asks_for; expects_some = some.expects_some; status_is = ap refusal_status some.trouble_is })

-- a fault has the status of what it tells
fault_told : (fault : FrameFault) → refusal_status (trouble_of fault) ≡ fault_status fault
fault_told (faults.Head heads.Syntax) = refl
fault_told (faults.Head heads.TooManyFields) = refl
fault_told (faults.Head heads.TooLong) = refl
fault_told (faults.Head heads.Host) = refl
fault_told (faults.Head heads.Target) = refl
fault_told (faults.Head heads.Memory) = refl
fault_told faults.BothLengths = refl
fault_told faults.BadLength = refl
fault_told faults.BadCoding = refl
fault_told faults.BadChunk = refl
fault_told faults.BodyTooLong = refl
fault_told faults.Truncated = refl
fault_told faults.Memory = refl
fault_told faults.Failed = refl

-- so are octets
pub refused_for : (octets : List ℕ) (trouble : Trouble) → IsRefusedFor octets trouble → IsRefused octets (refusal_status trouble)
refused_for octets trouble (inl faulty) = inl (record {
  fault = faulty.fault;
  not_memory = faulty.not_memory;
  stands = faulty.stands;
  passes = faulty.passes;
  status_is = ap refusal_status faulty.trouble_is ∙ fault_told faulty.fault;
})
refused_for octets trouble (inr fails) = inr (record { head = fails.head; has_come = fails.has_come; unserved = unserved_for fails.head trouble fails.unserved })
