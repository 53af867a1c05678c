-- A client's link, or a forward's, is lent and written to: what that means for all links together.
use Rattle.std.proofs.Common.{◌≡◌, ℕ, ◌==◌, Bool, true, false, ◌&&◌, not, ◌+◌, ◌≤◌, cond, List, ◌∷◌, Some, None, Result, Ok, Err, refl, sym, subst, arith}
use Rattle.std.specs.BTreeMap.{BTreeMap, Updates, WritesThrough, get}
use Rattle.std.specs.Ordering.{nat_cmp}
use Rattle.std.specs.declared.alloc.AllocError.{AllocError}
use Rattle.hc_service.specs.declared.event.Happening.TheVariants.{ClientBytes, ClientEnd, OriginBytes, OriginEnd, OriginFailed}
use Rattle.hc_flow.specs.Hearings.{IsHeardInTurn, IsHeardOpen, KeepsHeard, KeepsSent, is_lost}
use Rattle.hc_flow.specs.Passing.{Stays}
use Rattle.hc_flow.specs.declared.heard.Heard.{Heard}
use Rattle.hc_flow.specs.declared.heard.Heard.TheVariants.{Octets, End, Lost, Nothing}
use Rattle.hc_links.specs.Telling.{TellsIfOk, TellsSent, occurs}
use Rattle.hc_order.proofs.PassageLemmas.{client_is_open, origin_is_open}
use Rattle.hc_order.specs.declared.occurrence.Reason.{Reason}
use Rattle.hc_order.specs.declared.occurrence.Reason.TheVariants.{Peer, Replies, Reads, Stop, Late, Reset, Held, Displaced, Abandoned}
use Rattle.hc_order.specs.declared.receiver.Receiver.TheVariants.{Client as to_client, Origin as to_origin}
use Rattle.hc_order.specs.Log.{Move}
use Rattle.hc_order.specs.Log.Move.{Closed, Heard as Told, Sent}
use Rattle.hc_order.specs.Mirrors.{is_connected, is_underway}
use Rattle.hc_order.specs.Passages.{Passage, closing, ending, hearing, passage_of, sending}
use Rattle.hc_peers.specs.declared.client.Client.{Client}
use Rattle.hc_peers.specs.declared.forward.Forward.{Forward}
use Rattle.hc_peers.specs.declared.peers.Peers.{Peers}
use Rattle.hc_peers.specs.Clients.{AreClients, IsClient, IsClientAt}
use Rattle.hc_agenda.specs.Places.{has_place}
use Rattle.hc_peers.specs.Lingering.{is_lingering}
use Rattle.hc_peers.specs.Forwards.{AreForwards, IsForward, IsForwardAt, has_link}
use Rattle.hc_peers.specs.Heard.{HeardInTurn, IsAnswerOf, MayBeHeard, NoAnswer, told}
use Rattle.hc_peers.specs.Keeping.{Hears, KeepsPeers}
use Rattle.hc_peers.specs.Peers.{ArePeers, Bounds, HasFewLinks}
use Rattle.hc_peers.specs.Shown.{ShowNoMore}
use Rattle.hc_peers.proofs.LinkLemmas.{lent_unlinked, taken_out}
use Rattle.hc_peers.proofs.PlaceLemmas.{few_linked, few_still, same_clients, same_guests, same_places}
use Rattle.hc_peers.proofs.ShownLemmas.{lent_shown}
use Rattle.hc_peers.proofs.TableLemmas as tables

-- ---- why it is heard when it is

in_turn_for : (k : ℕ) (awaited : Bool) (reason : Reason) → IsHeardInTurn awaited (Ok (End reason)) → HeardInTurn (IsAnswerOf k awaited) (told (to_client k) (Ok (End reason)))
in_turn_for k awaited Peer free = (refl, sym free)
in_turn_for k awaited Stop free = (refl, sym free)
in_turn_for k awaited Replies free = tt
in_turn_for k awaited Reads free = tt
in_turn_for k awaited Late free = tt
in_turn_for k awaited Reset free = tt
in_turn_for k awaited Held free = tt
in_turn_for k awaited Displaced free = (refl, sym free)
in_turn_for k awaited Abandoned free = tt

client_in_turn : (k : ℕ) (awaited : Bool) (result : Result Heard AllocError) → IsHeardInTurn awaited result → HeardInTurn (IsAnswerOf k awaited) (told (to_client k) result)
client_in_turn k awaited (Ok (Octets octets)) free = (refl, sym free)
client_in_turn k awaited (Ok (End reason)) free = in_turn_for k awaited reason free
client_in_turn k awaited (Ok (Lost reason)) free = tt
client_in_turn k awaited (Ok Nothing) free = tt
client_in_turn k awaited (Err refused) free = tt

forward_in_turn : (k : ℕ) (result : Result Heard AllocError) → HeardInTurn NoAnswer (told (to_origin k) result)
forward_in_turn k (Ok (Octets octets)) = tt
forward_in_turn k (Ok (End reason)) = tt
forward_in_turn k (Ok (Lost reason)) = tt
forward_in_turn k (Ok Nothing) = tt
forward_in_turn k (Err refused) = tt

client_may : (k most : ℕ) (log : List Move) (is_ended : Bool) (result : Result Heard AllocError) → IsHeardOpen (is_connected k log) is_ended result → MayBeHeard most (told (to_client k) result) log
client_may k most log is_ended (Ok (Octets octets)) is = is.0
client_may k most log is_ended (Ok (End reason)) is = is.0
client_may k most log is_ended (Ok (Lost reason)) is = tt
client_may k most log is_ended (Ok Nothing) is = tt
client_may k most log is_ended (Err refused) is = tt

forward_may : (k most : ℕ) (log : List Move) (is_ended : Bool) (result : Result Heard AllocError) → IsHeardOpen (is_underway k log) is_ended result → MayBeHeard most (told (to_origin k) result) log
forward_may k most log is_ended (Ok (Octets octets)) is = is.0
forward_may k most log is_ended (Ok (End reason)) is = is.0
forward_may k most log is_ended (Ok (Lost reason)) is = is.0
forward_may k most log is_ended (Ok Nothing) is = tt
forward_may k most log is_ended (Err refused) is = tt

-- ---- a client's link

module _ {S : Type 0} (has_given has_got : S → List ℕ → Type 0) (old : Peers S) (table' : BTreeMap ℕ (Client S)) (k : ℕ) (client client' : Client S) (there : Some client ≡ get nat_cmp old.clients.links k)
    (wrote : WritesThrough nat_cmp (nat_cmp k) old.clients.links client' table') where
  abbrev with_client : Peers S
  with_client = record old { clients = record { links = table' } }

  lent : (n : ℕ) → get nat_cmp table' n ≡ cond (k == n) (Some client') (get nat_cmp old.clients.links n)
  lent = tables.lent (IsClientAt has_given has_got) old.clients.links table' k client client' there wrote

  few : (bounds : Bounds) → HasFewLinks bounds old → HasFewLinks bounds with_client
  few bounds =
      few_still bounds old with_client (omega (arith, wrote.2)) (same_guests old) (λ f linked. linked) (λ f lingers. lingers) (same_places old.places)

  its : (log : List Move) → AreClients has_given has_got old.clients.links log → IsClientAt has_given has_got (Some client) (passage_of (to_client k) log)
  its log are = tables.at_number (IsClientAt has_given has_got) to_client old.clients.links k (Some client) (sym there) log are

  -- what passed there stays
  module _ (keeps : (passage : Passage) → IsClient has_given has_got client passage → IsClient has_given has_got client' passage) where
    pub client_told : (bounds : Bounds) (log : List Move) → ArePeers has_given has_got bounds old log → ArePeers has_given has_got bounds with_client log
    client_told bounds log t = record {
      clients = tables.lent_stays (IsClientAt has_given has_got) old.clients.links table' k client client' there wrote to_client keeps log t.clients;
      forwards = t.forwards;
      guests = t.guests;
      last = t.last;
      count = t.count;
      few = few bounds t.few;
    }

    pub client_kept : Stays (has_got client.flow.stream) (has_got client'.flow.stream) → KeepsPeers has_given has_got old with_client
    client_kept stays = record {
      tells = client_told;
      shown = λ log s. (lent_shown has_got old.clients.links table' k client client' there wrote stays log s.0, s.1);
    }

  pub client_shown : Stays (has_got client.flow.stream) (has_got client'.flow.stream) → (log : List Move) → ShowNoMore has_got old log → ShowNoMore has_got with_client log
  client_shown stays log s = (lent_shown has_got old.clients.links table' k client client' there wrote stays log s.0, s.1)

  -- its connection is closed, and so many are counted still
  pub client_closes : (connected : ℕ) → ((opened closed : ℕ) → opened ≤ old.connected + closed → opened ≤ connected + (1 + closed))
      → ((passage : Passage) → IsClient has_given has_got client passage → IsClient has_given has_got client' (closing passage))
      → (bounds : Bounds) (log : List Move) → ArePeers has_given has_got bounds old log
      → ArePeers has_given has_got bounds (record old { clients = record { links = table' }; connected = connected }) (Closed (to_client k) ∷ log)
  client_closes connected count keeps bounds log t = record {
    clients = tables.moved (IsClientAt has_given has_got) to_client old.clients.links table' k (Some client') lent log (Closed (to_client k) ∷ log) closing (λ n. refl)
        (keeps (passage_of (to_client k) log) (its log t.clients)) t.clients;
    forwards = t.forwards;
    guests = t.guests;
    last = t.last;
    count = count _ _ t.count;
    few = few_still bounds old (record old { clients = record { links = table' }; connected = connected }) (omega (arith, wrote.2)) (same_guests old) (λ f linked. linked) (λ f lingers. lingers)
        (same_places old.places) t.few;
  }

  -- octets are sent there
  pub client_sent : {T : Type 0} (result : Result T AllocError) (octets : List ℕ) → ((passage : Passage) → IsClient has_given has_got client passage → KeepsSent (IsClient has_given has_got client') result octets passage)
      → (bounds : Bounds) (log : List Move) → ArePeers has_given has_got bounds old log → TellsSent (ArePeers has_given has_got bounds with_client) result (to_client k) octets log
  client_sent (Ok done) octets keeps bounds log t = record {
    clients = tables.moved (IsClientAt has_given has_got) to_client old.clients.links table' k (Some client') lent log (Sent (to_client k) octets ∷ log) (sending octets) (λ n. refl)
        (keeps (passage_of (to_client k) log) (its log t.clients)) t.clients;
    forwards = t.forwards;
    guests = t.guests;
    last = t.last;
    count = t.count;
    few = few bounds t.few;
  }
  client_sent (Err refused) octets keeps bounds log t = client_told keeps bounds log t

  -- something is heard there
  module _ (result : Result Heard AllocError) (awaited : Bool) (in_turn : IsHeardInTurn awaited result)
      (keeps : (passage : Passage) → IsClient has_given has_got client passage → KeepsHeard (IsClient has_given has_got client') result passage)
      (open_there : (passage : Passage) → IsClient has_given has_got client passage → IsHeardOpen passage.is_open passage.is_ended result)
      (stays : Stays (has_got client.flow.stream) (has_got client'.flow.stream)) where
    pub client_hears : Hears has_given has_got (IsAnswerOf k awaited) (told (to_client k) result) old with_client
    client_hears = record {
      tells = tells result keeps;
      may = λ most bounds log t.
          client_may k most log (passage_of (to_client k) log).is_ended result
          (subst (λ (b : Bool). IsHeardOpen b (passage_of (to_client k) log).is_ended result) (client_is_open k log) (open_there (passage_of (to_client k) log) (its log t.clients)));
      in_turn = client_in_turn k awaited result in_turn;
      shown = client_shown stays;
    }
      where
        tells : (r : Result Heard AllocError) → ((passage : Passage) → IsClient has_given has_got client passage → KeepsHeard (IsClient has_given has_got client') r passage)
            → (bounds : Bounds) (log : List Move) → ArePeers has_given has_got bounds old log → TellsIfOk (ArePeers has_given has_got bounds with_client) (told (to_client k) r) log
        tells (Ok (Octets octets)) on bounds log t = λ moment. record {
          clients = tables.moved (IsClientAt has_given has_got) to_client old.clients.links table' k (Some client') lent log (Told (occurs moment (ClientBytes k octets) Peer) ∷ log) (hearing octets) (λ n. refl)
              (on (passage_of (to_client k) log) (its log t.clients)) t.clients;
          forwards = t.forwards;
          guests = t.guests;
          last = t.last;
          count = omega (arith, t.count);
          few = few bounds t.few;
        }
        tells (Ok (End reason)) on bounds log t = λ moment. record {
          clients = tables.moved (IsClientAt has_given has_got) to_client old.clients.links table' k (Some client') lent log (Told (occurs moment (ClientEnd k) reason) ∷ log) ending (λ n. refl)
              (on (passage_of (to_client k) log) (its log t.clients)) t.clients;
          forwards = t.forwards;
          guests = t.guests;
          last = t.last;
          count = omega (arith, t.count);
          few = few bounds t.few;
        }
        tells (Ok (Lost reason)) on bounds log t = client_told on bounds log t
        tells (Ok Nothing) on bounds log t = client_told on bounds log t
        tells (Err refused) on bounds log t = client_told on bounds log t

-- ---- a forward is taken out

module _ {S : Type 0} (has_given has_got : S → List ℕ → Type 0) (old : Peers S) (table' : BTreeMap ℕ (Forward S)) (k : ℕ) (updates : Updates nat_cmp old.forwards.links table' k None) where
  abbrev without_forward : Peers S
  without_forward = record old { forwards = record { links = table' } }

  gone_few : (bounds : Bounds) → HasFewLinks bounds old → HasFewLinks bounds without_forward
  gone_few bounds =
      few_still bounds old without_forward (same_clients old.clients) (same_guests old) (taken_out old.forwards.links table' k updates) (λ f lingers. lingers) (same_places old.places)

  -- it has failed
  forward_lost : (reason : Reason) (bounds : Bounds) (log : List Move) → ArePeers has_given has_got bounds old log
      → TellsIfOk (ArePeers has_given has_got bounds without_forward) (told (to_origin k) (Ok (Lost reason))) log
  forward_lost reason bounds log t = λ moment. record {
    clients = t.clients;
    forwards = tables.moved (IsForwardAt has_given has_got) to_origin old.forwards.links table' k None (tables.put old.forwards.links table' k None updates) log
        (Told (occurs moment (OriginFailed k) reason) ∷ log) closing (λ n. refl) refl t.forwards;
    guests = t.guests;
    last = t.last;
    count = omega (arith, t.count);
    few = gone_few bounds t.few;
  }

-- ---- a forward's link

module _ {S : Type 0} (has_given has_got : S → List ℕ → Type 0) (old : Peers S) (table' : BTreeMap ℕ (Forward S)) (k : ℕ) (forward forward' : Forward S)
    (there : Some forward ≡ get nat_cmp old.forwards.links k) (wrote : WritesThrough nat_cmp (nat_cmp k) old.forwards.links forward' table') where
  abbrev with_forward : Peers S
  with_forward = record old { forwards = record { links = table' } }

  forward_lent : (n : ℕ) → get nat_cmp table' n ≡ cond (k == n) (Some forward') (get nat_cmp old.forwards.links n)
  forward_lent = tables.lent (IsForwardAt has_given has_got) old.forwards.links table' k forward forward' there wrote

  forward_its : (log : List Move) → AreForwards has_given has_got old.forwards.links log → IsForwardAt has_given has_got (Some forward) (passage_of (to_origin k) log)
  forward_its log are = tables.at_number (IsForwardAt has_given has_got) to_origin old.forwards.links k (Some forward) (sym there) log are

  -- it gains no link
  module _ (linked : has_link forward'.reaching ≡ true → has_link forward.reaching ≡ true) where
    forward_few : (bounds : Bounds) → HasFewLinks bounds old → HasFewLinks bounds with_forward
    forward_few bounds =
        few_still bounds old with_forward (same_clients old.clients) (same_guests old)
        (lent_unlinked old.forwards.links table' k forward forward' there wrote linked) (λ f lingers. lingers) (same_places old.places)

    -- what passed there stays
    pub forward_told : ((passage : Passage) → IsForward has_given has_got forward passage → IsForward has_given has_got forward' passage)
        → (bounds : Bounds) (log : List Move) → ArePeers has_given has_got bounds old log → ArePeers has_given has_got bounds with_forward log
    forward_told keeps bounds log t = record {
      clients = t.clients;
      forwards = tables.lent_stays (IsForwardAt has_given has_got) old.forwards.links table' k forward forward' there wrote to_origin keeps log t.forwards;
      guests = t.guests;
      last = t.last;
      count = t.count;
      few = forward_few bounds t.few;
    }

    pub forward_kept : ((passage : Passage) → IsForward has_given has_got forward passage → IsForward has_given has_got forward' passage) → KeepsPeers has_given has_got old with_forward
    forward_kept keeps = record { tells = forward_told keeps; shown = λ log s. s }

    -- something is heard there, but for that it has failed
    pub forward_tells : (heard : Heard) → false ≡ is_lost heard → ((passage : Passage) → IsForward has_given has_got forward passage → KeepsHeard (IsForward has_given has_got forward') (Ok heard) passage)
        → (bounds : Bounds) (log : List Move) → ArePeers has_given has_got bounds old log → TellsIfOk (ArePeers has_given has_got bounds with_forward) (told (to_origin k) (Ok heard)) log
    forward_tells (Octets octets) works keeps bounds log t = λ moment. record {
      clients = t.clients;
      forwards = tables.moved (IsForwardAt has_given has_got) to_origin old.forwards.links table' k (Some forward') forward_lent log (Told (occurs moment (OriginBytes k octets) Peer) ∷ log) (hearing octets) (λ n. refl)
          (keeps (passage_of (to_origin k) log) (forward_its log t.forwards)) t.forwards;
      guests = t.guests;
      last = t.last;
      count = omega (arith, t.count);
      few = forward_few bounds t.few;
    }
    forward_tells (End reason) works keeps bounds log t = λ moment. record {
      clients = t.clients;
      forwards = tables.moved (IsForwardAt has_given has_got) to_origin old.forwards.links table' k (Some forward') forward_lent log (Told (occurs moment (OriginEnd k) reason) ∷ log) ending (λ n. refl)
          (keeps (passage_of (to_origin k) log) (forward_its log t.forwards)) t.forwards;
      guests = t.guests;
      last = t.last;
      count = omega (arith, t.count);
      few = forward_few bounds t.few;
    }
    forward_tells (Lost reason) works keeps bounds log t = absurd (cc)
    forward_tells Nothing works keeps bounds log t = forward_told keeps bounds log t

    -- it has failed, and is taken out
    pub forward_gone : (heard : Heard) → true ≡ is_lost heard → ((passage : Passage) → IsForward has_given has_got forward passage → KeepsHeard (IsForward has_given has_got forward') (Ok heard) passage)
        → (table'' : BTreeMap ℕ (Forward S)) → Updates nat_cmp table' table'' k None → (bounds : Bounds) (log : List Move) → ArePeers has_given has_got bounds old log
        → TellsIfOk (ArePeers has_given has_got bounds (record old { forwards = record { links = table'' } })) (told (to_origin k) (Ok heard)) log
    forward_gone (Octets octets) is keeps table'' updates bounds log t = absurd (cc)
    forward_gone (End reason) is keeps table'' updates bounds log t = absurd (cc)
    forward_gone (Lost reason) is keeps table'' updates bounds log t = forward_lost has_given has_got with_forward table'' k updates reason bounds log (forward_told keeps bounds log t)
    forward_gone Nothing is keeps table'' updates bounds log t = absurd (cc)

  -- it may gain a link, where it has a place in which none lingers
  pub forward_linked : true ≡ (has_place k old.places && not (is_lingering k old.lingering)) → ((passage : Passage) → IsForward has_given has_got forward passage → IsForward has_given has_got forward' passage)
      → KeepsPeers has_given has_got old with_forward
  forward_linked own keeps = record {
    tells = λ bounds log t. record {
      clients = t.clients;
      forwards = tables.lent_stays (IsForwardAt has_given has_got) old.forwards.links table' k forward forward' there wrote to_origin keeps log t.forwards;
      guests = t.guests;
      last = t.last;
      count = t.count;
      few = few_linked bounds old t.few k (record { links = table' }) (tables.lent_others old.forwards.links table' k forward forward' there wrote) own;
    };
    shown = λ log s. s;
  }

  pub forward_opens : (result : Result Heard AllocError) → ((passage : Passage) → IsForward has_given has_got forward passage → IsHeardOpen passage.is_open passage.is_ended result)
      → (bounds : Bounds) (log : List Move) → ArePeers has_given has_got bounds old log → IsHeardOpen (is_underway k log) (passage_of (to_origin k) log).is_ended result
  forward_opens result open_there bounds log t =
      subst (λ (b : Bool). IsHeardOpen b (passage_of (to_origin k) log).is_ended result) (origin_is_open k log)
      (open_there (passage_of (to_origin k) log) (forward_its log t.forwards))

-- what is heard of a forward, behind what is told of it
pub forward_hears : {S : Type 0} (has_given has_got : S → List ℕ → Type 0) (old new : Peers S) (k : ℕ) (result : Result Heard AllocError)
    → ((bounds : Bounds) (log : List Move) → ArePeers has_given has_got bounds old log → IsHeardOpen (is_underway k log) (passage_of (to_origin k) log).is_ended result)
    → ((bounds : Bounds) (log : List Move) → ArePeers has_given has_got bounds old log → TellsIfOk (ArePeers has_given has_got bounds new) (told (to_origin k) result) log)
    → ((log : List Move) → ShowNoMore has_got old log → ShowNoMore has_got new log) → Hears has_given has_got NoAnswer (told (to_origin k) result) old new
forward_hears has_given has_got old new k result opens tells shown = record {
  tells = tells;
  may = λ most bounds log t. forward_may k most log (passage_of (to_origin k) log).is_ended result (opens bounds log t);
  in_turn = forward_in_turn k result;
  shown = shown;
}
