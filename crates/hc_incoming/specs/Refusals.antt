-- Why what arrives on a client connection is refused: the fault that stands in it, or the test that its head fails.
use Rattle.std.specs.Prelude.{◌≡◌, ◌≢◌, ◌⊎◌, true, List, ℕ, Err}
use Rattle.hc_incoming.specs.declared.troubles.Trouble.{Trouble}
use Rattle.hc_incoming.specs.declared.troubles.Trouble.TheVariants.{Expectation}
use Rattle.hc_head.specs.declared.fault.HeadFault.{HeadFault}
use Rattle.hc_head.specs.declared.fault.HeadFault.TheVariants as heads
use Rattle.hc_head.specs.declared.head.RequestHead.{RequestHead}
use Rattle.hc_head.specs.declared.head.Target.{Target}
use Rattle.hc_head.specs.declared.head.TheConstants.Room.{RECEIVED}
use Rattle.hc_head.specs.Targets.{GivesTarget, HasTarget}
use Rattle.hc_framing.specs.declared.fault.FrameFault.{FrameFault}
use Rattle.hc_framing.specs.declared.fault.FrameFault.TheVariants as faults
use Rattle.hc_framing.specs.declared.kind.Kind.TheVariants.{Request}
use Rattle.hc_framing.specs.Faults.{StandsIn}
use Rattle.hc_framing.specs.Messages.{request_form}
use Rattle.hc_incoming.specs.Requests.{HasHead, PassesTests, expects}
use Rattle.hc_incoming.specs.Troubles.{head_trouble, trouble_of}

-- its Host line or its target is wrong, and that is told
pub record HasNoTargetFor (head : RequestHead) (trouble : Trouble) : Type 0 where
  pub fault : HeadFault
  pub not_memory : fault ≢ heads.Memory
  pub gives : GivesTarget (Err fault) head
  pub trouble_is : trouble ≡ head_trouble fault

-- it asks for a target, and expects something
pub record ExpectsFor (head : RequestHead) (trouble : Trouble) : Type 0 where
  pub target : Target
  pub asks_for : HasTarget head target
  pub expects_some : expects head ≡ true
  pub trouble_is : trouble ≡ Expectation

-- the head is refused for that
abbrev pub IsUnservedFor : RequestHead → Trouble → Type 0
IsUnservedFor head trouble = HasNoTargetFor head trouble ⊎ ExpectsFor head trouble

-- the fault stands in the octets that is told, in those of a head that passes its tests
pub record IsFaultyFor (octets : List ℕ) (trouble : Trouble) : Type 0 where
  pub fault : FrameFault
  pub not_memory : fault ≢ faults.Memory
  pub stands : StandsIn request_form Request fault octets RECEIVED
  pub passes : PassesTests octets
  pub trouble_is : trouble ≡ trouble_of fault

-- a head has come that fails the test that is told
pub record FailsTestFor (octets : List ℕ) (trouble : Trouble) : Type 0 where
  pub head : RequestHead
  pub has_come : HasHead octets head
  pub unserved : IsUnservedFor head trouble

-- the octets are refused for that, whatever follows them
abbrev pub IsRefusedFor : List ℕ → Trouble → Type 0
IsRefusedFor octets trouble = IsFaultyFor octets trouble ⊎ FailsTestFor octets trouble
