-- For which reason forwards have no link any more.
use Rattle.std.proofs.Common.{◌≡◌, ◌∙◌, ℕ, Bool, true, false, Option, Some, None, option_map, option_and_then, refl, sym, ap, subst, true≢false}
use Rattle.std.specs.BTreeMap.{get, is_at}
use Rattle.std.specs.Cmp.{unsigned_tied}
use Rattle.std.specs.Ordering.{nat_cmp}
use Rattle.hc_order.specs.declared.occurrence.Reason.{Reason}
use Rattle.hc_order.specs.declared.occurrence.Reason.TheVariants.{Late, Reset}
use Rattle.hc_order.specs.declared.receiver.Receiver.{Receiver}
use Rattle.hc_order.specs.declared.receiver.Receiver.TheVariants.{Client, Origin}
use Rattle.hc_peers.proofs.TableLemmas.{same_number}
use Rattle.hc_peers.specs.declared.forward.Forward.{Forward}
use Rattle.hc_peers.specs.declared.peers.Peers.{Peers}
use Rattle.hc_peers.specs.Forwards.{lost_at, reason_of, turned}
use Rattle.hc_peers.specs.Peers.{ChangesOnly, QueuesOf}

module _ {S : Type 0} where
  reason_turned : (queued : Bool) (kept : Option (Forward S)) → option_and_then (λ forward. reason_of forward.reaching) (option_map (turned queued) kept) ≡ option_and_then (λ forward. reason_of forward.reaching) kept
  reason_turned queued None = refl
  reason_turned queued (Some forward) = refl

  loss_of_turned : (b : Bool) (queued : Bool) (g f : ℕ) (before after : Peers S) → is_at (nat_cmp g) f ≡ b → QueuesOf queued (Origin g) before after → ChangesOnly (Origin g) before after
      → lost_at f after.forwards.links ≡ lost_at f before.forwards.links
  loss_of_turned true queued g f before after same queues only =
      subst (λ (n : ℕ). lost_at n after.forwards.links ≡ lost_at n before.forwards.links) (same_number g f (sym (unsigned_tied g f) ∙ same))
      (ap (option_and_then (λ forward. reason_of forward.reaching)) queues ∙ reason_turned queued (get nat_cmp before.forwards.links g))
  loss_of_turned false queued g f before after other queues only = ap (option_and_then (λ forward. reason_of forward.reaching)) (only.1 f other)

  -- whose turn it is says nothing of that
  pub loss_stays : (queued : Bool) (link : Receiver) (before after : Peers S) → QueuesOf queued link before after → ChangesOnly link before after
      → (f : ℕ) → lost_at f after.forwards.links ≡ lost_at f before.forwards.links
  loss_stays queued (Client n) before after queues only f = ap (λ (peers : Peers S). lost_at f peers.forwards.links) only.0
  loss_stays queued (Origin g) before after queues only f = loss_of_turned (is_at (nat_cmp g) f) queued g f before after refl queues only

abbrev is_late_reason : Reason → Bool
is_late_reason Late = true
is_late_reason other = false

abbrev late_by : Option Reason → Bool
late_by None = false
late_by (Some reason) = is_late_reason reason

-- what was lost since no link could be made wasn't lost for its time
pub no_time : {V : Type 0} (kept : Option V) → option_map (λ _. Reset) kept ≡ Some Late → ⊥
no_time None is = true≢false (sym (ap late_by is))
no_time (Some value) is = true≢false (sym (ap late_by is))
