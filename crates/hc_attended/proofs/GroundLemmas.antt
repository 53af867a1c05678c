-- Who fails, and on which ground.
use Rattle.std.proofs.Common.{◌≡◌, ◌∙◌, ◌||◌, ℕ, Bool, true, false, Option, Some, None, Result, Ok, Err, IfSome, option_map, inl, refl, ap, sym, subst}
use Rattle.std.specs.BTreeMap.{get}
use Rattle.std.specs.Ordering.{nat_cmp}
use Rattle.std.specs.declared.alloc.AllocError.{AllocError}
use Rattle.hc_flow.specs.declared.heard.Heard.{Heard}
use Rattle.hc_flow.specs.declared.heard.Heard.TheVariants.{Octets, End, Nothing, Lost as Lose}
use Rattle.hc_order.specs.declared.occurrence.Reason.{Reason}
use Rattle.hc_order.specs.declared.receiver.Receiver.{Receiver}
use Rattle.hc_order.specs.declared.receiver.Receiver.TheVariants.{Client as to_client, Origin as to_origin}
use Rattle.hc_peers.specs.declared.client.Client.{Client}
use Rattle.hc_peers.specs.declared.forward.Forward.{Forward}
use Rattle.hc_peers.specs.declared.forward.Reaching.TheVariants.{Lost}
use Rattle.hc_peers.specs.declared.peers.Peers.{Peers}
use Rattle.hc_peers.specs.Behind.{Behind, ClientIsLost, ForwardIsLost}
use Rattle.hc_peers.specs.Forwards.{ForwardFailsOnly, turned}
use Rattle.hc_peers.specs.Hearings.{ClientFailsOnly}
use Rattle.hc_peers.specs.Known.{KeepsKnown, known_at, unqueued}
use Rattle.hc_peers.specs.Losses.{HearsAt}
use Rattle.hc_peers.specs.Peers.{ChangesSent, QueuesOf, SendsTo}
use Rattle.hc_peers.specs.declared.table.Table.{Table}
use Rattle.hc_attended.specs.Grounds.{FailsNoClient, IsCutOff, KeepsOtherThan, KeepsServed}

module _ {S : Type 0} (has_failed : S → Type 0) (ground : Type 0) where
  -- whose turn it is says nothing of a client
  pub client_fails_known : (n : ℕ) (before between after : Peers S) → ClientFailsOnly has_failed ground (known_at n before.clients.links) (known_at n between.clients.links)
      → KeepsKnown between.clients.links after.clients.links → ClientFailsOnly has_failed ground (known_at n before.clients.links) (known_at n after.clients.links)
  client_fails_known n before between after fails known =
      subst (λ (client : Option (Client S)). ClientFailsOnly has_failed ground (known_at n before.clients.links) client) (sym (known n)) fails

  -- nor of a forward
  turned_too : (queued : Bool) (before between : Option (Forward S)) → ForwardFailsOnly has_failed ground before between → ForwardFailsOnly has_failed ground before (option_map (turned queued) between)
  turned_too queued None None fails = fails
  turned_too queued (Some before) (Some between) fails = fails
  turned_too queued None (Some between) fails = absurd fails
  turned_too queued (Some before) None fails = absurd fails

  pub forward_fails_turned : (queued : Bool) (before between after : Option (Forward S)) → ForwardFailsOnly has_failed ground before between → after ≡ option_map (turned queued) between
      → ForwardFailsOnly has_failed ground before after
  forward_fails_turned queued before between after fails turns = subst (λ (forward : Option (Forward S)). ForwardFailsOnly has_failed ground before forward) (sym turns) (turned_too queued before between fails)

  turned_first : (queued : Bool) (before after : Option (Forward S)) → ForwardFailsOnly has_failed ground (option_map (turned queued) before) after → ForwardFailsOnly has_failed ground before after
  turned_first queued None None fails = fails
  turned_first queued (Some before) (Some after) fails = fails
  turned_first queued None (Some after) fails = absurd fails
  turned_first queued (Some before) None fails = absurd fails

  pub forward_fails_begun : (queued : Bool) (before between after : Option (Forward S)) → between ≡ option_map (turned queued) before → ForwardFailsOnly has_failed ground between after
      → ForwardFailsOnly has_failed ground before after
  forward_fails_begun queued before between after turns fails = turned_first queued before after (subst (λ (forward : Option (Forward S)). ForwardFailsOnly has_failed ground forward after) turns fails)

module _ {S : Type 0} (has_failed : S → Type 0) where
  fails_as_heard : (ground : Type 0) (first last : Bool) (before begun heard after : Option (Forward S)) → begun ≡ option_map (turned first) before → after ≡ option_map (turned last) heard
      → ForwardFailsOnly has_failed ground begun heard → ForwardFailsOnly has_failed ground before after
  fails_as_heard ground first last before begun heard after begins turns fails =
      forward_fails_turned has_failed ground last before heard after (forward_fails_begun has_failed ground first before begun heard begins fails) turns

  -- so it is behind what was heard of a forward
  pub heard_at : (result : Result Heard AllocError) (first last : Bool) (before begun heard after : Option (Forward S)) → begun ≡ option_map (turned first) before → after ≡ option_map (turned last) heard
      → HearsAt has_failed begun heard result → HearsAt has_failed before after result
  heard_at (Ok (Lose reason)) first last before begun heard after begins turns gone = turns ∙ ap (option_map (turned last)) gone
  heard_at (Ok (Octets octets)) first last before begun heard after begins turns fails = fails_as_heard ⊥ first last before begun heard after begins turns fails
  heard_at (Ok (End reason)) first last before begun heard after begins turns fails = fails_as_heard ⊥ first last before begun heard after begins turns fails
  heard_at (Ok Nothing) first last before begun heard after begins turns fails = fails_as_heard ⊥ first last before begun heard after begins turns fails
  heard_at (Err refused) first last before begun heard after begins turns fails = fails_as_heard (Unit {0}) first last before begun heard after begins turns fails

  -- what is sent to a client doesn't fail it
  pub sends_safely : (to : Receiver) (tick : ℕ) (before between after : Peers S) → KeepsServed before between → SendsTo has_failed to tick between after → FailsNoClient has_failed to before after
  sends_safely (to_client n) tick before between after same sends =
      subst (λ (t : Table (Client S)). ClientFailsOnly has_failed ⊥ (known_at n t.links) (known_at n after.clients.links)) same.0 sends.1
  sends_safely (to_origin f) tick before between after same sends = tt

  -- and changes nothing of others
  pub sends_alone : (to : Receiver) (before between after : Peers S) → KeepsServed before between → ChangesSent to between after → KeepsOtherThan to before after
  sends_alone (to_client n) before between after same only =
      (λ m other. only.1 m other ∙ ap (λ (t : Table (Client S)). get nat_cmp t.links m) same.0, ap (λ (p : Peers S). p.forwards) only.0 ∙ same.1)
  sends_alone (to_origin f) before between after same only =
      (ap (λ (p : Peers S). p.clients) only.0 ∙ same.0, λ m other. only.1 m other ∙ ap (λ (t : Table (Forward S)). get nat_cmp t.links m) same.1)

  pub served_alone : (to : Receiver) (before after : Peers S) → KeepsServed before after → KeepsOtherThan to before after
  served_alone (to_client n) before after same = (λ m other. ap (λ (t : Table (Client S)). get nat_cmp t.links m) same.0, same.1)
  served_alone (to_origin f) before after same = (same.0, λ m other. ap (λ (t : Table (Forward S)). get nat_cmp t.links m) same.1)

  known_stays : (client : Option (Client S)) → ClientFailsOnly has_failed ⊥ client client
  known_stays None = tt
  known_stays (Some client) = λ failed. inl (inl failed)

  -- where nothing is sent nobody fails
  pub sends_nothing : (to : Receiver) (before after : Peers S) → KeepsServed before after → FailsNoClient has_failed to before after
  sends_nothing (to_client n) before after same =
      subst (λ (t : Table (Client S)). ClientFailsOnly has_failed ⊥ (known_at n before.clients.links) (known_at n t.links)) (sym same.0) (known_stays (known_at n before.clients.links))
  sends_nothing (to_origin f) before after same = tt

-- ---- who was cut off

or_cut : (cut : Bool) → (cut || true) ≡ true
or_cut true = refl
or_cut false = refl

module _ {S : Type 0} where
  marked : (before after : Option (Client S)) → Behind (ClientIsLost true) before after → IfSome (option_map unqueued after) (λ client. client.cut ≡ true)
  marked None None lost = tt
  marked (Some before) (Some after) lost = ap (λ (client : Client S). client.cut) lost.rest ∙ or_cut before.cut
  marked None (Some after) lost = absurd lost
  marked (Some before) None lost = absurd lost

  -- a client is marked so, whosever turn it is
  pub client_cut : (n : ℕ) (before between after : Peers S) → Behind (ClientIsLost true) (get nat_cmp before.clients.links n) (get nat_cmp between.clients.links n)
      → KeepsKnown between.clients.links after.clients.links → IsCutOff (to_client n) after
  client_cut n before between after lost known =
      subst (λ (there : Option (Client S)). IfSome there (λ client. client.cut ≡ true)) (sym (known n)) (marked (get nat_cmp before.clients.links n) (get nat_cmp between.clients.links n) lost)

  lost_so : (reason : Reason) (before between after : Option (Forward S)) → Behind (ForwardIsLost reason) before between → after ≡ option_map (turned true) between
      → IfSome (option_map (turned false) after) (λ forward. forward.reaching ≡ Lost reason)
  lost_so reason None None after lost turns = subst (λ (there : Option (Forward S)). IfSome (option_map (turned false) there) (λ forward. forward.reaching ≡ Lost reason)) (sym turns) tt
  lost_so reason (Some before) (Some between) after lost turns =
      subst (λ (there : Option (Forward S)). IfSome (option_map (turned false) there) (λ forward. forward.reaching ≡ Lost reason)) (sym turns) (ap (λ (forward : Forward S). forward.reaching) lost.rest)
  lost_so reason None (Some between) after lost turns = absurd lost
  lost_so reason (Some before) None after lost turns = absurd lost

  -- a forward has no link any more, for that reason
  pub forward_lost : (reason : Reason) (f : ℕ) (before between after : Peers S) → Behind (ForwardIsLost reason) (get nat_cmp before.forwards.links f) (get nat_cmp between.forwards.links f)
      → QueuesOf true (to_origin f) between after → IfSome (option_map (turned false) (get nat_cmp after.forwards.links f)) (λ forward. forward.reaching ≡ Lost reason)
  forward_lost reason f before between after lost turns = lost_so reason (get nat_cmp before.forwards.links f) (get nat_cmp between.forwards.links f) (get nat_cmp after.forwards.links f) lost turns
