-- What is kept of a client's link, behind what passes there.
use Rattle.std.proofs.Common.{◌≡◌, ℕ, Bool, true, not, ◌||◌, List, ◌++◌, sym, ap, ◌∙◌, subst}
use Rattle.hc_flow.specs.Flows.{FlowGave, FlowOwes}
use Rattle.hc_flow.specs.Passing.{Gave}
use Rattle.hc_order.specs.Passages.{Passage, closing}
use Rattle.hc_peers.specs.declared.client.Client.{Client}
use Rattle.hc_peers.specs.Clients.{IsClient}
use Rattle.hc_flow.proofs.FlowLemmas.{gave_closed, gave_more, gave_still}

module _ {S : Type 0} (has_given has_got : S → List ℕ → Type 0) where
  module _ (client client' : Client S) where
    -- the flow goes on, and nothing passes that the cache knows of
    pub goes_on : client'.closed ≡ client.closed → client'.ended ≡ client.ended → ((heard : List ℕ) → FlowGave has_given client.flow heard → FlowGave has_given client'.flow heard)
        → ((sent : List ℕ) → FlowOwes has_got client.flow sent → FlowOwes has_got client'.flow sent) → (passage : Passage) → IsClient has_given has_got client passage → IsClient has_given has_got client' passage
    goes_on closed ended gives owes passage is = record {
      opened = is.opened ∙ ap not (sym closed);
      ended = is.ended ∙ sym ended;
      gave =
          subst (λ (b : Bool). Gave has_given client'.flow.stream (b || client'.flow.failed) passage.heard) (sym closed)
          (gave_still has_given client.flow.stream client'.flow.stream client.flow.failed client'.flow.failed gives client.closed passage.heard is.gave);
      owes = owes passage.sent is.owes;
    }

    -- what more it gave is dropped, since it is closed
    pub drops : client.closed ≡ true → client'.closed ≡ client.closed → client'.ended ≡ client.ended → (more : List ℕ)
        → ((heard : List ℕ) → FlowGave has_given client.flow heard → FlowGave has_given client'.flow (heard ++ more))
        → ((sent : List ℕ) → FlowOwes has_got client.flow sent → FlowOwes has_got client'.flow sent) → (passage : Passage) → IsClient has_given has_got client passage → IsClient has_given has_got client' passage
    drops is_so closed ended more gives owes passage is = record {
      opened = is.opened ∙ ap not (sym closed);
      ended = is.ended ∙ sym ended;
      gave =
          subst (λ (b : Bool). Gave has_given client'.flow.stream (b || client'.flow.failed) passage.heard) (sym (closed ∙ is_so))
          (gave_more has_given client.flow.stream client'.flow.stream client.flow.failed client'.flow.failed more gives passage.heard
          (subst (λ (b : Bool). Gave has_given client.flow.stream (b || client.flow.failed) passage.heard) is_so is.gave));
      owes = owes passage.sent is.owes;
    }

    -- its connection is closed
    pub is_closed : client'.closed ≡ true → client'.ended ≡ client.ended → ((heard : List ℕ) → FlowGave has_given client.flow heard → FlowGave has_given client'.flow heard)
        → ((sent : List ℕ) → FlowOwes has_got client.flow sent → FlowOwes has_got client'.flow sent) → (passage : Passage) → IsClient has_given has_got client passage
        → IsClient has_given has_got client' (closing passage)
    is_closed closed ended gives owes passage is = record {
      opened = ap not (sym closed);
      ended = is.ended ∙ sym ended;
      gave =
          subst (λ (b : Bool). Gave has_given client'.flow.stream (b || client'.flow.failed) passage.heard) (sym closed)
          (gave_closed has_given client'.flow.stream (client.closed || client'.flow.failed) client'.flow.failed passage.heard
          (gave_still has_given client.flow.stream client'.flow.stream client.flow.failed client'.flow.failed gives client.closed passage.heard is.gave));
      owes = owes passage.sent is.owes;
    }
