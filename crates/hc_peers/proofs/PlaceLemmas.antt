-- Links, and their places at the origin.
use Rattle.std.proofs.Common.{◌≡◌, ℕ, ◌+◌, ◌==◌, ◌≤◌, Bool, true, false, ◌&&◌, ◌||◌, not, List, refl, sym, ap, ◌∙◌, subst, arith}
use Rattle.std.specs.BTreeMap.{is_at}
use Rattle.std.specs.Cmp.{unsigned_tied}
use Rattle.std.specs.Ordering.{nat_cmp}
use Rattle.hc_agenda.specs.declared.places.Places.{Places}
use Rattle.hc_agenda.specs.Places.{HasPlaceLeft, KeepsPlaces, has_place, places_given, places_in_all}
use Rattle.hc_peers.specs.declared.lingerer.Lingerer.{Lingerer}
use Rattle.hc_peers.specs.Lingering.{GainsNoLingerer, is_lingering}
use Rattle.hc_peers.specs.Tables.{KeepsOthers}
use Rattle.hc_peers.specs.declared.client.Client.{Client}
use Rattle.hc_peers.specs.declared.forward.Forward.{Forward}
use Rattle.hc_peers.specs.declared.peers.Peers.{Peers}
use Rattle.hc_peers.specs.declared.table.Table.{Table}
use Rattle.hc_peers.specs.Forwards.{GainsNoLink, is_linked, is_linked_at}
use Rattle.hc_peers.specs.Clients.{GainsNone}
use Rattle.hc_peers.specs.Keeping.{KeepsPeers}
use Rattle.hc_peers.specs.Peers.{Bounds, GainsNoGuest, HasFewLinks}
use Rattle.hc_peers.proofs.TableLemmas.{same_number}

-- ---- links stay few

-- there are no more clients' links than there are
pub same_clients : {S : Type 0} (clients : Table (Client S)) → GainsNone clients clients
same_clients clients = omega arith

-- nor more guests' links, or links of those who were turned away
pub same_guests : {S : Type 0} (peers : Peers S) → GainsNoGuest peers peers
same_guests peers = (omega arith, omega arith)

-- nothing changes at the places
pub same_places : (places : Places) → KeepsPlaces places places
same_places places = record { all = refl; given = refl; same = λ f. refl }

-- no link comes to those that are there
pub few_still : {S : Type 0} (bounds : Bounds) (old new : Peers S) → GainsNone old.clients new.clients → GainsNoGuest old new → GainsNoLink old.forwards new.forwards → GainsNoLingerer old.lingering new.lingering
    → KeepsPlaces old.places new.places → HasFewLinks bounds old → HasFewLinks bounds new
few_still bounds old new clients guests forwards lingering places few = record {
  clients = omega (arith, clients, guests.0, few.clients);
  turned_away = omega (arith, guests.1, few.turned_away);
  places = places.all ∙ few.places;
  given = omega (arith, places.given, few.given);
  linked = λ f linked. places.same f ∙ few.linked f (forwards f linked);
  lingering = λ f lingers. places.same f ∙ few.lingering f (lingering f lingers);
  apart = λ f linked lingers. few.apart f (forwards f linked) (lingering f lingers);
}

-- ---- one link comes, or one place is given or freed

-- what holds at k, and at all others, holds everywhere
at_other : (b : Bool) (k f : ℕ) (P : ℕ → Type 0) → (k == f) ≡ b → P k → ((k == f) ≡ false → P f) → P f
at_other true k f P is its others = subst P (same_number k f is) its
at_other false k f P is its others = others is

everywhere : (k f : ℕ) (P : ℕ → Type 0) → P k → (is_at (nat_cmp k) f ≡ false → P f) → P f
everywhere k f P its others = at_other (k == f) k f P refl its (λ differ. others (unsigned_tied k f ∙ differ))

never : {P : Type 0} (b : Bool) → b ≡ false → b ≡ true → P
never true is other = absurd (cc)
never false is other = absurd (cc)

both : (a b : Bool) → true ≡ (a && b) → (a ≡ true) × (b ≡ true)
both true true is = (refl, refl)
both true false is = absurd (cc)
both false b is = absurd (cc)

neither : (a b : Bool) → false ≡ (a || b) → (a ≡ false) × (b ≡ false)
neither true b is = absurd (cc)
neither false true is = absurd (cc)
neither false false is = (refl, refl)

not_so : {P : Type 0} (b : Bool) → not b ≡ true → b ≡ true → P
not_so true is other = absurd (cc)
not_so false is other = absurd (cc)

module _ {S : Type 0} (bounds : Bounds) (old : Peers S) (few : HasFewLinks bounds old) (k : ℕ) where
  -- a forward with a place, in which none lingers, gets a link
  pub few_linked : (forwards : Table (Forward S)) → KeepsOthers k old.forwards.links forwards.links → true ≡ (has_place k old.places && not (is_lingering k old.lingering))
      → HasFewLinks bounds (record old { forwards = forwards })
  few_linked forwards others own =
      let its = both (has_place k old.places) (not (is_lingering k old.lingering)) own in
      let as_before : (f : ℕ) → is_at (nat_cmp k) f ≡ false → is_linked f forwards ≡ true → is_linked f old.forwards ≡ true =
      λ f differ linked. ap is_linked_at (sym (others f differ)) ∙ linked in record {
        clients = few.clients;
        turned_away = few.turned_away;
        places = few.places;
        given = few.given;
        linked = λ f. everywhere k f (λ (n : ℕ). is_linked n forwards ≡ true → has_place n old.places ≡ true) (λ linked. its.0)
            (λ differ linked. few.linked f (as_before f differ linked));
        lingering = few.lingering;
        apart = λ f. everywhere k f (λ (n : ℕ). is_linked n forwards ≡ true → is_lingering n old.lingering ≡ true → ⊥) (λ linked. not_so (is_lingering k old.lingering) its.1)
            (λ differ linked. few.apart f (as_before f differ linked));
      }

  -- the link of a forward with a place, and without another link, lingers
  pub few_lingering : (lingering : Table (Lingerer S)) → ((f : ℕ) → is_at (nat_cmp k) f ≡ false → is_lingering f lingering ≡ is_lingering f old.lingering)
      → true ≡ (has_place k old.places && not (is_linked k old.forwards)) → HasFewLinks bounds (record old { lingering = lingering })
  few_lingering lingering others own =
      let its = both (has_place k old.places) (not (is_linked k old.forwards)) own in record {
        clients = few.clients;
        turned_away = few.turned_away;
        places = few.places;
        given = few.given;
        linked = few.linked;
        lingering = λ f. everywhere k f (λ (n : ℕ). is_lingering n lingering ≡ true → has_place n old.places ≡ true) (λ lingers. its.0)
            (λ differ lingers. few.lingering f (sym (others f differ) ∙ lingers));
        apart = λ f. everywhere k f (λ (n : ℕ). is_linked n old.forwards ≡ true → is_lingering n lingering ≡ true → ⊥)
            (λ linked lingers. not_so (is_linked k old.forwards) its.1 linked)
            (λ differ linked lingers. few.apart f linked (sym (others f differ) ∙ lingers));
      }

  -- a place is freed in which there is no link
  pub few_freed : (places : Places) → places_in_all places ≡ places_in_all old.places → places_given places ≤ places_given old.places
      → ((f : ℕ) → is_at (nat_cmp k) f ≡ false → has_place f places ≡ has_place f old.places) → false ≡ (is_linked k old.forwards || is_lingering k old.lingering)
      → HasFewLinks bounds (record old { places = places })
  few_freed places all fewer others empty =
      let its = neither (is_linked k old.forwards) (is_lingering k old.lingering) empty in record {
        clients = few.clients;
        turned_away = few.turned_away;
        places = all ∙ few.places;
        given = omega (arith, fewer, few.given);
        linked = λ f. everywhere k f (λ (n : ℕ). is_linked n old.forwards ≡ true → has_place n places ≡ true) (never (is_linked k old.forwards) its.0)
            (λ differ linked. others f differ ∙ few.linked f linked);
        lingering = λ f. everywhere k f (λ (n : ℕ). is_lingering n old.lingering ≡ true → has_place n places ≡ true) (never (is_lingering k old.lingering) its.1)
            (λ differ lingers. others f differ ∙ few.lingering f lingers);
        apart = few.apart;
      }

-- a place is given, where one is left
pub few_given : {S : Type 0} (bounds : Bounds) (old : Peers S) (places : Places) → places_in_all places ≡ places_in_all old.places → places_given places ≤ places_given old.places + 1
    → HasPlaceLeft old.places → ((f : ℕ) → has_place f old.places ≡ true → has_place f places ≡ true) → HasFewLinks bounds old → HasFewLinks bounds (record old { places = places })
few_given bounds old places all one_more left kept few = record {
  clients = few.clients;
  turned_away = few.turned_away;
  places = all ∙ few.places;
  given = omega (arith, one_more, left, few.places);
  linked = λ f linked. kept f (few.linked f linked);
  lingering = λ f lingers. kept f (few.lingering f lingers);
  apart = few.apart;
}

-- the places change, or the links that linger, and links stay few
pub placed : {S : Type 0} (has_given has_got : S → List ℕ → Type 0) (old : Peers S) (places : Places) (lingering : Table (Lingerer S))
    → ((bounds : Bounds) → HasFewLinks bounds old → HasFewLinks bounds (record old { places = places; lingering = lingering }))
    → KeepsPeers has_given has_got old (record old { places = places; lingering = lingering })
placed has_given has_got old places lingering few = record {
  tells = λ bounds log t. record { clients = t.clients; forwards = t.forwards; guests = t.guests; last = t.last; count = t.count; few = few bounds t.few };
  shown = λ log s. s;
}
