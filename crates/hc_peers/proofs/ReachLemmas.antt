-- How far the origin was reached for a forward, behind what was heard of it, and which links have failed.
use Rattle.std.proofs.Common.{◌≡◌, ℕ, ◌⊎◌, inl, inr, true, false, Option, Some, None, Ok, option_map, sym, subst}
use Rattle.std.specs.BTreeMap.{BTreeMap, WritesThrough, get}
use Rattle.std.specs.Ordering.{nat_cmp}
use Rattle.hc_flow.specs.Hearings.{FailsOnly, is_lost}
use Rattle.hc_flow.specs.declared.heard.Heard.{Heard}
use Rattle.hc_flow.specs.declared.heard.Heard.TheVariants.{Octets, End, Lost, Nothing}
use Rattle.hc_peers.specs.declared.client.Client.{Client}
use Rattle.hc_peers.specs.declared.forward.Forward.{Forward}
use Rattle.hc_peers.specs.declared.forward.Reaching.{Reaching}
use Rattle.hc_peers.specs.declared.forward.Reaching.TheVariants.{Waiting, Linked}
use Rattle.hc_peers.specs.declared.forward.Reaching.TheVariants as reaching
use Rattle.hc_peers.specs.Forwards.{ForwardFailsOnly, StaysReached}
use Rattle.hc_peers.specs.Hearings.{ClientFailsOnly}
use Rattle.hc_peers.specs.Known.{known_at, unqueued}
use Rattle.hc_peers.specs.Losses.{HearsAt}
use Rattle.hc_peers.proofs.TableLemmas.{lent_at}

no_other : {P : Type 0} → P ⊎ (false ≡ true) → P ⊎ ⊥
no_other (inl is) = inl is
no_other (inr never) = absurd (cc)

module _ {S : Type 0} (has_failed : S → Type 0) where
  -- on no ground it has failed
  groundless : (before after : Reaching S) → StaysReached has_failed (false ≡ true) before after → StaysReached has_failed ⊥ before after
  groundless (Waiting before) (Waiting after) stays = stays
  groundless (Waiting before) (Linked after) stays = stays
  groundless (Waiting before) (reaching.Lost after) stays = stays
  groundless (Linked before) (Waiting after) stays = stays
  groundless (Linked before) (Linked after) stays = λ failed. no_other (stays failed)
  groundless (Linked before) (reaching.Lost after) stays = stays
  groundless (reaching.Lost before) (Waiting after) stays = stays
  groundless (reaching.Lost before) (Linked after) stays = stays
  groundless (reaching.Lost before) (reaching.Lost after) stays = stays

  on : (before after : Option (Forward S)) (heard : Heard) → false ≡ is_lost heard → ForwardFailsOnly has_failed ⊥ before after → HearsAt has_failed before after (Ok heard)
  on before after (Octets octets) works stays = stays
  on before after (End reason) works stays = stays
  on before after (Lost reason) works stays = absurd (cc)
  on before after Nothing works stays = stays

  -- one that is lost is there no more
  pub hears_loss : (before after : Option (Forward S)) (heard : Heard) → true ≡ is_lost heard → after ≡ None → HearsAt has_failed before after (Ok heard)
  hears_loss before after (Octets octets) is gone = absurd (cc)
  hears_loss before after (End reason) is gone = absurd (cc)
  hears_loss before after (Lost reason) is gone = gone
  hears_loss before after Nothing is gone = absurd (cc)

  module _ (table table' : BTreeMap ℕ (Forward S)) (k : ℕ) (forward forward' : Forward S) (there : Some forward ≡ get nat_cmp table k) (wrote : WritesThrough nat_cmp (nat_cmp k) table forward' table') where
    fails_only : (ground : Type 0) → StaysReached has_failed ground forward.reaching forward'.reaching → ForwardFailsOnly has_failed ground (get nat_cmp table k) (get nat_cmp table' k)
    fails_only ground stays =
        subst (λ (before : Option (Forward S)). ForwardFailsOnly has_failed ground before (get nat_cmp table' k)) there
        (subst (λ (after : Option (Forward S)). ForwardFailsOnly has_failed ground (Some forward) after) (sym (lent_at table table' k forward forward' there wrote)) stays)

    -- any other is reached as far as before
    pub hears_on : (heard : Heard) → false ≡ is_lost heard → StaysReached has_failed (false ≡ true) forward.reaching forward'.reaching → HearsAt has_failed (get nat_cmp table k) (get nat_cmp table' k) (Ok heard)
    hears_on heard works stays = on (get nat_cmp table k) (get nat_cmp table' k) heard works (fails_only ⊥ (groundless forward.reaching forward'.reaching stays))

-- a client's link has failed as it did where it is lent
pub client_fails : {S : Type 0} (has_failed : S → Type 0) (table table' : BTreeMap ℕ (Client S)) (k : ℕ) (client client' : Client S) → Some client ≡ get nat_cmp table k
    → WritesThrough nat_cmp (nat_cmp k) table client' table' → (ground : Type 0) → FailsOnly has_failed ground client.flow client'.flow
    → ClientFailsOnly has_failed ground (known_at k table) (known_at k table')
client_fails {S = S} has_failed table table' k client client' there wrote ground fails =
    subst (λ (before : Option (Client S)). ClientFailsOnly has_failed ground (option_map unqueued before) (known_at k table')) there
    (subst (λ (after : Option (Client S)). ClientFailsOnly has_failed ground (option_map unqueued (Some client)) (option_map unqueued after)) (sym (lent_at table table' k client client' there wrote)) fails)
