-- What is kept of forwards, behind what passes there.
use Rattle.std.proofs.Common.{◌≡◌, ℕ, Bool, false, List, [], ◌++◌, Some, is_some, sym, ap, ◌∙◌, subst, Result, Ok, Err}
use Rattle.std.specs.declared.alloc.AllocError.{AllocError}
use Rattle.hc_flow.specs.Flows.{FlowGave, FlowOwes}
use Rattle.hc_flow.specs.Hearings.{GivesHeard, KeepsHeard, is_end}
use Rattle.hc_flow.specs.declared.heard.Heard.{Heard}
use Rattle.hc_flow.specs.declared.heard.Heard.TheVariants.{Octets, End, Lost, Nothing}
use Rattle.hc_order.specs.Passages.{Passage}
use Rattle.hc_peers.specs.declared.forward.Forward.{Forward}
use Rattle.hc_peers.specs.declared.forward.Reaching.{Reaching}
use Rattle.hc_peers.specs.declared.forward.Reaching.TheVariants as reaching
use Rattle.hc_peers.specs.declared.origin_link.OriginLink.{OriginLink}
use Rattle.hc_peers.specs.Forwards.{HasUnusedLink, IsForward, IsLinked, IsReached, IsUnused, progress_at}
use Rattle.hc_peers.specs.Times.{IsTimed}

-- ---- what is heard at a link

-- a link that is known to work has given more, and owes what it owed
module _ {S : Type 0} (has_given has_got : S → List ℕ → Type 0) (before after : OriginLink S) (works : is_some after.spare ≡ false)
    (owes : (sent : List ℕ) → FlowOwes has_got before.flow sent → FlowOwes has_got after.flow sent) (sent : List ℕ) where
  pub linked_on : (now heard : List ℕ) → FlowGave has_given after.flow now → IsLinked has_given has_got before sent heard → IsLinked has_given has_got after sent now
  linked_on now heard gave is = record { gave = gave; owes = owes sent is.owes; unused = λ request kept. let some = ap is_some kept in absurd (cc) }

  pub linked_heard : (result : Result Heard AllocError) (heard : List ℕ) → GivesHeard (FlowGave has_given after.flow) result heard → IsLinked has_given has_got before sent heard
      → GivesHeard (IsLinked has_given has_got after sent) result heard
  linked_heard (Ok (Octets octets)) heard gave is = linked_on (heard ++ octets) heard gave is
  linked_heard (Ok (End reason)) heard gave is = linked_on heard heard gave is
  linked_heard (Ok (Lost reason)) heard gave is = linked_on heard heard gave is
  linked_heard (Ok Nothing) heard gave is = linked_on heard heard gave is
  linked_heard (Err refused) heard gave is = linked_on heard heard gave is

-- ---- a forward

module _ {S : Type 0} (has_given has_got : S → List ℕ → Type 0) (forward : Forward S) where
  module _ (link : OriginLink S) (linked : forward.reaching ≡ reaching.Linked link) where
    reached_there : (sent heard : List ℕ) → IsReached has_given has_got forward.reaching sent heard → IsLinked has_given has_got link sent heard
    reached_there sent heard = subst (λ (r : Reaching S). IsReached has_given has_got r sent heard) linked

    -- the link was unused, and the request waits again
    module _ (request : List ℕ) (back : (sent heard : List ℕ) → IsLinked has_given has_got link sent heard → IsUnused has_given has_got link × (heard ≡ []) × (sent ≡ request))
        (passage : Passage) (is : IsForward has_given has_got forward passage) where
      had : IsUnused has_given has_got link × (passage.heard ≡ []) × (passage.sent ≡ request)
      had = back passage.sent passage.heard (reached_there passage.sent passage.heard is.reached)

      pub was_unused : HasUnusedLink has_given has_got forward.reaching
      was_unused = subst (HasUnusedLink has_given has_got) (sym linked) had.0

      pub waits_again : IsForward has_given has_got (record forward { reaching = reaching.Waiting request }) passage
      waits_again = record { opened = is.opened; ended = is.ended; reached = (had.1, had.2); timed = tt }

    module _ (link' : OriginLink S) (begun : link'.progress.begun ≡ link.progress.begun) where
      timed_on : IsTimed forward.begun (progress_at forward.reaching) → forward.begun ≡ Some link'.progress.begun
      timed_on timed = subst (λ (r : Reaching S). IsTimed forward.begun (progress_at r)) linked timed ∙ ap Some (sym begun)

      -- its link goes on, and nothing passes that the cache knows of
      pub goes_on : ((sent heard : List ℕ) → IsLinked has_given has_got link sent heard → IsLinked has_given has_got link' sent heard)
          → (queued : Bool) (passage : Passage) → IsForward has_given has_got forward passage
          → IsForward has_given has_got (record forward { reaching = reaching.Linked link'; queued = queued }) passage
      goes_on keeps queued passage is = record {
        opened = is.opened;
        ended = is.ended;
        reached = keeps passage.sent passage.heard (reached_there passage.sent passage.heard is.reached);
        timed = timed_on is.timed;
      }

      -- something is heard there
      module _ (unended : forward.ended ≡ false) (ended : Bool) where
        pub hears_on : (heard : Heard) → ended ≡ is_end heard
            → ((sent before : List ℕ) → IsLinked has_given has_got link sent before → GivesHeard (IsLinked has_given has_got link' sent) (Ok heard) before)
            → (passage : Passage) → IsForward has_given has_got forward passage
            → KeepsHeard (IsForward has_given has_got (record forward { reaching = reaching.Linked link'; ended = ended })) (Ok heard) passage
        hears_on (Octets octets) ends keeps passage is = record {
          opened = is.opened;
          ended = is.ended ∙ unended ∙ sym ends;
          reached = keeps passage.sent passage.heard (reached_there passage.sent passage.heard is.reached);
          timed = timed_on is.timed;
        }
        hears_on (End reason) ends keeps passage is = record {
          opened = is.opened;
          ended = sym ends;
          reached = keeps passage.sent passage.heard (reached_there passage.sent passage.heard is.reached);
          timed = timed_on is.timed;
        }
        hears_on (Lost reason) ends keeps passage is = record {
          opened = is.opened;
          ended = is.ended ∙ unended ∙ sym ends;
          reached = keeps passage.sent passage.heard (reached_there passage.sent passage.heard is.reached);
          timed = timed_on is.timed;
        }
        hears_on Nothing ends keeps passage is = record {
          opened = is.opened;
          ended = is.ended ∙ unended ∙ sym ends;
          reached = keeps passage.sent passage.heard (reached_there passage.sent passage.heard is.reached);
          timed = timed_on is.timed;
        }
