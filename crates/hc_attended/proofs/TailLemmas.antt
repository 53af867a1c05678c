-- A client whose connection is closed keeps what is owed to it.
use Rattle.std.proofs.Common.{◌≡◌, ◌⊎◌, ◌∙◌, ℕ, Bool, true, false, Option, Some, None, Result, Ok, Err, IsErr, inl, inr, option_map, refl, ap, sym, subst, true≢false}
use Rattle.std.specs.BTreeMap.{get}
use Rattle.std.specs.Ordering.{nat_cmp}
use Rattle.std.specs.declared.alloc.AllocError.{AllocError}
use Rattle.hc_flow.specs.Hearings.{HasFailed}
use Rattle.hc_flow.specs.declared.flow.Flow.{Flow}
use Rattle.hc_flow.specs.declared.heard.Heard.{Heard}
use Rattle.hc_peers.specs.Hearings.{ClientFailsOnly}
use Rattle.hc_peers.specs.declared.client.Client.{Client}
use Rattle.hc_peers.specs.declared.peers.Peers.{Peers}
use Rattle.hc_peers.specs.Behind.{Behind, ClientIsDropped}
use Rattle.hc_peers.specs.Known.{known_at, unqueued}
use Rattle.hc_attended.specs.Tails.{KeepsTail, LetsGo}

module _ {S : Type 0} (has_failed : S → Type 0) where
  -- nothing of it has failed but by its stream, and then it has gone perhaps
  kept_so : (over : Bool) (before between after : Option (Client S)) → Behind (ClientIsDropped over) before between → ClientFailsOnly has_failed ⊥ (option_map unqueued before) (option_map unqueued between)
      → LetsGo (option_map unqueued between) after → KeepsTail has_failed (option_map unqueued before) after
  kept_so over None None after dropped fails (inl same) = same
  kept_so over None None after dropped fails (inr gone) = gone.0
  kept_so over None (Some between) after dropped fails goes = absurd fails
  kept_so over (Some before) None after dropped fails goes = absurd fails
  kept_so over (Some before) (Some between) after dropped fails (inl same) = subst (KeepsTail has_failed (Some (unqueued before))) (sym same) fails
  kept_so over (Some before) (Some between) after dropped fails (inr gone) =
      subst (KeepsTail has_failed (Some (unqueued before))) (sym gone.0)
      (unqueued between, record { closed = ap (λ (client : Client S). client.closed) dropped.rest; fails = fails; waits = dropped.waits }, gone.1)

  pub tail_kept : (n : ℕ) (over : Bool) (before between : Peers S) (after : Option (Client S)) → Behind (ClientIsDropped over) (get nat_cmp before.clients.links n) (get nat_cmp between.clients.links n)
      → ClientFailsOnly has_failed ⊥ (known_at n before.clients.links) (known_at n between.clients.links) → LetsGo (known_at n between.clients.links) after
      → KeepsTail has_failed (known_at n before.clients.links) after
  tail_kept n over before between after dropped fails goes = kept_so over (get nat_cmp before.clients.links n) (get nat_cmp between.clients.links n) after dropped fails goes

  abbrev heard_well : Heard → Result Heard AllocError
  heard_well heard = Ok heard

  no_ground : (late : Bool) (heard : Heard) (before after : Flow S) → late ≡ false → HasFailed has_failed before after ⊎ ((late ≡ true) ⊎ IsErr (heard_well heard)) → HasFailed has_failed before after ⊎ ⊥
  no_ground late heard before after is (inl failed) = inl failed
  no_ground late heard before after is (inr (inl over)) = absurd (true≢false (sym over ∙ is))
  no_ground late heard before after is (inr (inr refused)) = absurd (true≢false (sym refused))

  -- where its time isn't over, nothing that is owed to a client is lost by a hearing, unless memory is refused
  pub tail_or_refused : (late : Bool) (result : Result Heard AllocError) (before after : Option (Client S)) → late ≡ false → ClientFailsOnly has_failed ((late ≡ true) ⊎ IsErr result) before after
      → IsErr result ⊎ KeepsTail has_failed before after
  tail_or_refused late (Err refused) before after is fails = inl refl
  tail_or_refused late (Ok heard) None None is fails = inr refl
  tail_or_refused late (Ok heard) None (Some after) is fails = absurd fails
  tail_or_refused late (Ok heard) (Some before) None is fails = absurd fails
  tail_or_refused late (Ok heard) (Some before) (Some after) is fails = inr (λ failed. no_ground late heard before.flow after.flow is (fails failed))
