-- What is owed to a client whose connection is closed.
use Rattle.std.specs.Prelude.{◌≡◌, ◌⊎◌, true, false, Option, Some, None}
use Rattle.hc_flow.specs.Hearings.{FailsOnly}
use Rattle.hc_peers.specs.Clients.{may_go}
use Rattle.hc_peers.specs.Tables.{is_there_and}
use Rattle.hc_peers.specs.declared.client.Client.{Client}

-- its link is as it was, or it has gone, since all that was owed had been written, or was lost
abbrev pub LetsGo : {S : Type 0} → (before after : Option (Client S)) → Type 0
LetsGo before after = (after ≡ before) ⊎ ((after ≡ None) × (is_there_and before may_go ≡ true))

-- nothing is lost of what is owed to a client unless its stream fails
pub record KeepsOwed {S : Type 0} (has_failed : S → Type 0) (before after : Client S) : Type 0 where
  pub closed : after.closed ≡ before.closed
  pub fails : FailsOnly has_failed ⊥ before.flow after.flow
  pub waits : after.flow.failed ≡ false → after.flow.outbox ≡ before.flow.outbox

-- its link is there still, and has failed by nothing but its stream; or it has gone, since all that was owed had been written, or was lost by that
abbrev pub KeepsTail : {S : Type 0} → (S → Type 0) → (before after : Option (Client S)) → Type 0
KeepsTail has_failed None after = after ≡ None
KeepsTail has_failed (Some before) (Some after) = FailsOnly has_failed ⊥ before.flow after.flow
KeepsTail {S} has_failed (Some before) None = (between : Client S) × KeepsOwed has_failed before between × (may_go between ≡ true)
