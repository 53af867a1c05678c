-- A world that tells anything.
use Rattle.std.proofs.Common.{Bool, true, Option, Some, None, IfSome, refl}
use Rattle.hc_flow.specs.declared.readiness.Readiness.{Readiness}
use Rattle.hc_order.specs.declared.receiver.Receiver.{Receiver}
use Rattle.hc_attended.specs.declared.world.Ready.{Ready}
use Rattle.hc_attended.specs.declared.world.Ready.TheVariants.{Clients, Guest, Link}
use Rattle.hc_attended.specs.Worlds.{IsTold}

abbrev anything : Receiver → Readiness → Bool
anything link readiness = true

is_told : (ready : Ready) → IsTold anything ready
is_told Clients = tt
is_told (Guest n readiness) = tt
is_told (Link link readiness) = refl

-- where a world may tell anything of a link, it tells that
pub any_is_told : (ready : Option Ready) → IfSome ready (IsTold (λ link readiness. true))
any_is_told None = tt
any_is_told (Some ready) = is_told ready
