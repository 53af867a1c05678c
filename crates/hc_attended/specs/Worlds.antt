-- What comes from the world.
use Rattle.std.specs.Prelude.{◌≡◌, ℕ, Bool, true, List, []}
use Rattle.hc_flow.specs.declared.readiness.Readiness.{Readiness}
use Rattle.hc_order.specs.declared.receiver.Receiver.{Receiver}
use Rattle.hc_attended.specs.declared.world.Accepted.{Accepted}
use Rattle.hc_attended.specs.declared.world.Accepted.TheVariants.{Client, Later, Full}
use Rattle.hc_attended.specs.declared.world.Ready.{Ready}
use Rattle.hc_attended.specs.declared.world.Ready.TheVariants.{Clients, Guest, Link}

-- nothing was read from a client's link yet, nor written to it
abbrev pub IsFreshlyAccepted : {S : Type 0} → (S → List ℕ → Type 0) → (S → List ℕ → Type 0) → Accepted S → Type 0
IsFreshlyAccepted has_given has_got (Client stream) = has_given stream [] × has_got stream []
IsFreshlyAccepted has_given has_got Later = Unit {0}
IsFreshlyAccepted has_given has_got Full = Unit {0}

-- what became ready at a link is what the world tells of it
abbrev pub IsTold : (tells_of : Receiver → Readiness → Bool) → Ready → Type 0
IsTold tells_of Clients = Unit {0}
IsTold tells_of (Guest n readiness) = Unit {0}
IsTold tells_of (Link link readiness) = tells_of link readiness ≡ true
