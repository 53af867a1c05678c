-- What is held is as before, or as it was weighed.
use Rattle.std.proofs.Common.{◌≡◌, ◌⊎◌, ℕ, List, inl, inr}
use Rattle.hc_agenda.specs.Loads.{most_held}
use Rattle.hc_agenda.specs.declared.holding.Holding.{Holding}
use Rattle.hc_order.specs.declared.receiver.Receiver.{Receiver}
use Rattle.hc_peers.specs.declared.peers.Peers.{Peers}
use Rattle.hc_peers.specs.Keeping.{KeepsWithin}
use Rattle.hc_crowd.specs.Held.{HoldsAsWeighed}
use Rattle.hc_crowd.specs.Lightening.{IsBounded}

module _ {S : Type 0} {has_given has_got : S → List ℕ → Type 0} {most : ℕ} {holds : Receiver → ℕ → Type 0} where
  pub as_weighed : (limit : ℕ) (before after : Holding) (first peers lightened : Peers S) → KeepsWithin has_given has_got most first peers
      → ((lightened ≡ peers) × (after ≡ before)) ⊎ IsBounded holds limit (most_held after) peers lightened → HoldsAsWeighed has_given has_got most holds limit first before after
  as_weighed limit before after first peers lightened told (inl same) = inl same.1
  as_weighed limit before after first peers lightened told (inr bounded) = inr (record { weighed = peers; lightened = lightened; told = told; bounded = bounded })
