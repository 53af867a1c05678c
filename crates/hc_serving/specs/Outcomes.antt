-- What a fault behind which nobody is served any more is to whoever asked for it.
use Rattle.std.specs.Prelude.{◌≡◌, ◌<◌, ℕ, ◌+◌, ◌-◌, ◌^◌, min}
use Rattle.hc_crowd.specs.declared.limits.Limits.{Limits}
use Rattle.hc_service.specs.declared.fault.StepFault.TheVariants.{MomentTooLarge}
use Rattle.hc_drive.specs.declared.fault.DriveFault.{DriveFault}
use Rattle.hc_drive.specs.declared.fault.DriveFault.TheVariants as drive
use Rattle.hc_drive.specs.declared.fault.ServingFault.{ServingFault}
use Rattle.hc_drive.specs.declared.fault.ServingFault.TheVariants.{Clients, Recorder, Core}
use Rattle.hc_serving.specs.declared.fault.ServeFault.{ServeFault}
use Rattle.hc_serving.specs.declared.fault.ServeFault.TheVariants as serve

-- a listener that gives no client, a recorder that fails, and a moment that can't be told are told as such; any other fault is want of memory
abbrev pub MeansFor : ServingFault → ServeFault → Type 0
MeansFor Clients (serve.Listener place reason) = Unit {0}
MeansFor Clients other = ⊥
MeansFor Recorder (serve.Record reason) = Unit {0}
MeansFor Recorder other = ⊥
MeansFor (Core MomentTooLarge) serve.Clock = Unit {0}
MeansFor (Core MomentTooLarge) other = ⊥
MeansFor (Core step) serve.Memory = Unit {0}
MeansFor (Core step) other = ⊥

-- a recorder that fails is told as such; any other fault is want of memory, since a crowd tells no moment that can't be told
abbrev pub EndsFor : DriveFault → ServeFault → Type 0
EndsFor drive.Recorder (serve.Record reason) = Unit {0}
EndsFor drive.Recorder other = ⊥
EndsFor (drive.Core step) serve.Memory = Unit {0}
EndsFor (drive.Core step) other = ⊥
EndsFor drive.Client serve.Memory = Unit {0}
EndsFor drive.Client other = ⊥

-- ---- before anybody is served

abbrev sum_at_most : (first second : ℕ) → ℕ
sum_at_most first second = min (first + second) (2 ^ 64 - 1)

-- so many files may be open within those limits: each link, those of 64 clients who are turned away, and 32 beside
abbrev pub files_wanted : Limits → ℕ
files_wanted limits = sum_at_most (sum_at_most (sum_at_most limits.connections limits.origin_connections) 64) 32

-- the system lets fewer files be open than may be wanted, and both numbers are told
abbrev pub IsTooLow : Limits → ServeFault → Type 0
IsTooLow limits (serve.OpenFiles limit wanted) = (wanted ≡ files_wanted limits) × (limit < wanted)
IsTooLow limits other = ⊥

-- ---- while clients are served

-- the system lets nobody be served any more
abbrev pub IsBrokenDown : ServeFault → Type 0
IsBrokenDown (serve.Poll reason) = Unit {0}
IsBrokenDown (serve.Monotonic reason) = Unit {0}
IsBrokenDown other = ⊥
