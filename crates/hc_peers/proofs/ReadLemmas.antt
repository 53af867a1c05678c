-- A client of which was read.
use Rattle.std.proofs.Common.{◌≡◌, ℕ, Bool, false, ◌||◌, List, subst, sym}
use Rattle.hc_flow.specs.declared.flow.Flow.{Flow}
use Rattle.hc_flow.specs.Flows.{FlowGave, FlowOwes}
use Rattle.hc_flow.specs.Passing.{Gave}
use Rattle.hc_order.specs.Passages.{Passage}
use Rattle.hc_peers.specs.declared.client.Client.{Client}
use Rattle.hc_peers.specs.Clients.{IsClient}

-- no octets came of it
pub still_client : {S : Type 0} (has_given has_got : S → List ℕ → Type 0) (client : Client S) (flow : Flow S) (passage : Passage) → client.closed ≡ false
    → IsClient has_given has_got client passage
    → ((sent : List ℕ) → FlowOwes has_got client.flow sent → FlowOwes has_got flow sent) → ((heard : List ℕ) → FlowGave has_given client.flow heard → FlowGave has_given flow heard)
    → IsClient has_given has_got (record { flow = flow; ended = client.ended; closed = client.closed; cut = client.cut; waits = client.waits; queued = client.queued; left = client.left; pace = client.pace }) passage
still_client has_given has_got client flow passage here is owes gave = record {
  opened = is.opened;
  ended = is.ended;
  gave = subst (λ (b : Bool). Gave has_given flow.stream (b || flow.failed) passage.heard) (sym here)
      (gave passage.heard (subst (λ (b : Bool). Gave has_given client.flow.stream (b || client.flow.failed) passage.heard) here is.gave));
  owes = owes passage.sent is.owes;
}
