-- Who isn't cut off stays.
use Rattle.std.proofs.Common.{append_assoc, append-nil, arith, ◌≡◌, ◌==◌, ℕ, Bool, true, false, ◌||◌, List, [], ◌∷◌, ◌++◌, Option, Some, IfSome, option_map, refl, sym, ap, subst, ◌∙◌, true≢false}
use Rattle.std.proofs.lemmas.Bool.Decides.{nat_tests}
use Rattle.std.specs.BTreeMap.{get}
use Rattle.std.specs.Cmp.{unsigned_tied}
use Rattle.std.specs.Ordering.{nat_cmp}
use Rattle.hc_order.specs.declared.occurrence.Reason.TheVariants.{Held}
use Rattle.hc_order.specs.declared.receiver.Receiver.{Receiver}
use Rattle.hc_order.specs.declared.receiver.Receiver.TheVariants.{Client, Origin}
use Rattle.hc_order.specs.Passages.{is_at}
use Rattle.hc_agenda.specs.declared.reckoning.Heaviest.{Heaviest}
use Rattle.hc_agenda.specs.declared.reckoning.Load.{Load}
use Rattle.hc_peers.specs.Forwards.{turned}
use Rattle.hc_peers.specs.Known.{unqueued}
use Rattle.hc_peers.specs.Peers.{ChangesOnly}
use Rattle.hc_peers.specs.declared.peers.Peers.{Peers}
use Rattle.hc_agenda.specs.Loads.{TakesHeaviest}
use Rattle.hc_peers.specs.Forwards.{has_link, is_waiting}
use Rattle.hc_peers.specs.declared.client.Client.{Client as KeptClient}
use Rattle.hc_peers.specs.declared.forward.Forward.{Forward}
use Rattle.hc_peers.specs.declared.forward.Reaching.TheVariants.{Lost}
use Rattle.hc_attended.specs.Grounds.{IsCutOff}
use Rattle.hc_crowd.specs.Lightening.{AddsLoads, AreLoadsOf, IsLoadOf, LightenSoFar, OthersStay, StaysAt, is_among, weighed_clients, weighed_forwards}

same_number : (n m : ℕ) → (n == m) ≡ true → n ≡ m
same_number n m is = grind (arith, nat_tests)

-- a link at that place is that one
same_link : (link one : Receiver) → is_at link one ≡ true → link ≡ one
same_link (Client n) (Client m) is = ap Client (sym (same_number m n is))
same_link (Origin n) (Origin m) is = ap Origin (sym (same_number m n is))
same_link (Client n) (Origin m) is = absurd (true≢false (sym is))
same_link (Origin n) (Client m) is = absurd (true≢false (sym is))

neither : (a b : Bool) → (a || b) ≡ false → (a ≡ false) × (b ≡ false)
neither true b e = cc
neither false b e = (refl, e)

module _ {S : Type 0} where
  -- what changes one link alone leaves all others
  pub others_stay : (one : Receiver) (before after : Peers S) → ChangesOnly one before after → OthersStay one before after
  others_stay (Client d) before after only (Client n) other = ap (option_map unqueued) (only.1 n (unsigned_tied d n ∙ other))
  others_stay (Client d) before after only (Origin f) other = ap (λ (peers : Peers S). option_map (turned false) (get nat_cmp peers.forwards.links f)) only.0
  others_stay (Origin g) before after only (Client n) other = ap (λ (peers : Peers S). option_map unqueued (get nat_cmp peers.clients.links n)) only.0
  others_stay (Origin g) before after only (Origin f) other = ap (option_map (turned false)) (only.1 f (unsigned_tied g f ∙ other))

  -- one change behind another
  pub stays_then : (link : Receiver) (before between after : Peers S) → StaysAt link before between → StaysAt link between after → StaysAt link before after
  stays_then (Client n) before between after one other = other ∙ one
  stays_then (Origin f) before between after one other = other ∙ one

  pub stays_same : (link : Receiver) (peers : Peers S) → StaysAt link peers peers
  stays_same (Client n) peers = refl
  stays_same (Origin f) peers = refl

  pub others_then : (one : Receiver) (before between after : Peers S) → OthersStay one before between → OthersStay one between after → OthersStay one before after
  others_then one before between after first second link other = stays_then link before between after (first link other) (second link other)

  -- nobody was cut off yet
  pub none_yet : (most : ℕ) (loads : List Load) (peers : Peers S) → LightenSoFar most loads loads peers peers
  none_yet most loads peers = record {
    taken = [];
    takes = refl;
    cut = λ link among. absurd (true≢false (sym among));
    others = λ link none. stays_same link peers;
  }

  -- who was cut off stays so, where nothing more happens to it
  stays_cut : (link : Receiver) (before after : Peers S) → StaysAt link before after → IsCutOff link before → IsCutOff link after
  stays_cut (Client n) before after same cut = subst (λ (there : Option (KeptClient S)). IfSome there (λ client. client.cut ≡ true)) (sym same) cut
  stays_cut (Origin f) before after same cut = subst (λ (there : Option (Forward S)). IfSome there (λ forward. forward.reaching ≡ Lost Held)) (sym same) cut

  -- the links that were cut off, and one more
  cut_too : (b : Bool) (link one : Receiver) (among : Bool) (between after : Peers S) → is_at link one ≡ b → (b || among) ≡ true → (among ≡ true → IsCutOff link between) → IsCutOff one after
      → OthersStay one between after → IsCutOff link after
  cut_too true link one among between after here is before now others = subst (λ (l : Receiver). IsCutOff l after) (sym (same_link link one here)) now
  cut_too false link one among between after here is before now others = stays_cut link between after (others link here) (before is)

  -- one more was cut off
  pub one_more : (most : ℕ) (heaviest : Heaviest) (loads mid left : List Load) (before between after : Peers S) → LightenSoFar most loads mid before between
      → TakesHeaviest most (Some heaviest) mid left → IsCutOff heaviest.load.link after → OthersStay heaviest.load.link between after → LightenSoFar most loads left before after
  one_more most heaviest loads mid left before between after so_far takes cut now = record {
    taken = heaviest ∷ so_far.taken;
    takes = (mid, so_far.takes, takes);
    cut = λ link among. cut_too (is_at link heaviest.load.link) link heaviest.load.link (is_among link so_far.taken) between after refl among (so_far.cut link) cut now;
    others = λ link other. let both = neither (is_at link heaviest.load.link) (is_among link so_far.taken) other in
        stays_then link before between after (so_far.others link both.1) (now link both.0);
  }

  -- ---- the links that are weighed

  -- one that was cut off is passed over
  pub passes_cut : (n : ℕ) (client : KeptClient S) (rest : List (ℕ × KeptClient S)) → client.cut ≡ true → weighed_clients ((n, client) ∷ rest) ≡ weighed_clients rest
  passes_cut n client rest is = rw is refl

  pub weighs_client : (n : ℕ) (client : KeptClient S) (rest : List (ℕ × KeptClient S)) → client.cut ≡ false → weighed_clients ((n, client) ∷ rest) ≡ Client n ∷ weighed_clients rest
  weighs_client n client rest is = rw is refl

  -- so is a forward that has no link any more
  pub passes_lost : (f : ℕ) (forward : Forward S) (rest : List (ℕ × Forward S)) → (is_waiting forward.reaching || has_link forward.reaching) ≡ false
      → weighed_forwards ((f, forward) ∷ rest) ≡ weighed_forwards rest
  passes_lost f forward rest is = rw is refl

  pub weighs_forward : (f : ℕ) (forward : Forward S) (rest : List (ℕ × Forward S)) → (is_waiting forward.reaching || has_link forward.reaching) ≡ true
      → weighed_forwards ((f, forward) ∷ rest) ≡ Origin f ∷ weighed_forwards rest
  weighs_forward f forward rest is = rw is refl

  module _ (holds : Receiver → ℕ → Type 0) (peers : Peers S) where
    pub adds_none : (before : List Load) → AddsLoads holds peers [] before before
    adds_none before = record { loads = []; are = refl; added = sym (append-nil before) }

    -- one load, and then those of the other links
    pub adds_then : (link : Receiver) (links : List Receiver) (load : Load) (before mid after : List Load) → IsLoadOf holds peers link load → mid ≡ before ++ load ∷ []
        → AddsLoads holds peers links mid after → AddsLoads holds peers (link ∷ links) before after
    adds_then link links load before mid after is here more = record {
      loads = load ∷ more.loads;
      are = (is, more.are);
      added = more.added ∙ ap (λ (l : List Load). l ++ more.loads) here ∙ append_assoc before (load ∷ []) more.loads;
    }

    -- the loads of some links, and of others behind them
    both_loads : (links others : List Receiver) (loads more : List Load) → AreLoadsOf holds peers links loads → AreLoadsOf holds peers others more → AreLoadsOf holds peers (links ++ others) (loads ++ more)
    both_loads [] others loads more are then_are = rw are then_are
    both_loads (link ∷ links) others [] more are then_are = elim are [ ]
    both_loads (link ∷ links) others (load ∷ loads) more are then_are = (are.0, both_loads links others loads more are.1 then_are)

    pub adds_both : (links others : List Receiver) (before mid after : List Load) → AddsLoads holds peers links before mid → AddsLoads holds peers others mid after
        → AddsLoads holds peers (links ++ others) before after
    adds_both links others before mid after one other = record {
      loads = one.loads ++ other.loads;
      are = both_loads links others one.loads other.loads one.are other.are;
      added = other.added ∙ ap (λ (l : List Load). l ++ other.loads) one.added ∙ append_assoc before one.loads other.loads;
    }
