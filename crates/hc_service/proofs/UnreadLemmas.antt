-- What is unread stays what came behind the last whole request.
use Rattle.std.proofs.Common.{◌≡◌, ℕ, zero, suc, ◌<◌, ◌≤◌, Bool, true, false, cond, List, [], ◌++◌, length, drop, Option, Some, None, refl, sym, ap, ◌∙◌, subst, arith, ⊎_elim, length-drop}
use Rattle.std.specs.FinMap.{get, insert, remove}
use Rattle.std.proofs.lemmas.Bool.{cases_Bool, eq-eqb, ne_eqb}
use Rattle.std.proofs.lemmas.List.{drop-append-le}
use Rattle.hc_head.specs.declared.head.RequestHead.{RequestHead}
use Rattle.hc_head.specs.declared.head.Target.{Target}
use Rattle.hc_framing.specs.declared.message.Message.{Message}
use Rattle.hc_framing.specs.FramingLaws.{request_laws}
use Rattle.hc_framing.specs.Messages.{BeginsBody}
use Rattle.hc_framing.proofs.BodyLemmas.{body-append, body_within}
use Rattle.hc_incoming.specs.Requests.{IsRequest}
use Rattle.hc_service.specs.Numbers.{is_later}
use Rattle.hc_service.specs.State.{Table, Connection, Awaited, new_connection}
use Rattle.hc_service.specs.Turns.{after_client_octets, after_request, after_reply, after_leaving, after_origin_octets}
use Rattle.hc_service.specs.Choices.{OnTest}
use Rattle.hc_service.specs.Agreement.{AreRequestsThen, HasLeft, IsReadOf, AreReceived}
use Rattle.hc_service.specs.Runs.{with_octets}
use Rattle.hc_service.proofs.TableLemmas.{was_put, was_left}
use Rattle.hc_service.proofs.LinkLemmas.{none_some}

-- ---- requests

request_within : (octets : List ℕ) (message : Message RequestHead) (target : Target) (size : ℕ) → IsRequest octets message target size → size ≤ length octets
request_within octets message target size r =
    let p = r.begins.begins in
    omega (arith, p.len_is, body_within p.frame (drop p.head_len octets) message.body p.body_len p.body, length-drop p.head_len octets, request_laws.within octets p.head p.head_len p.begins)

-- a request that begins octets begins them whatever follows
request_more : (octets more : List ℕ) (message : Message RequestHead) (target : Target) (size : ℕ) → IsRequest octets message target size → IsRequest (octets ++ more) message target size
request_more octets more message target size r =
    let p = r.begins.begins in
    record {
      begins = record {
        begins = record {
          head = p.head;
          head_len = p.head_len;
          begins = request_laws.goes_on octets more p.head p.head_len p.begins;
          frame = p.frame;
          framed = p.framed;
          body_len = p.body_len;
          body = subst (λ (o : List ℕ). BeginsBody p.frame o message.body p.body_len) (sym (drop-append-le p.head_len octets more (request_laws.within octets p.head p.head_len p.begins)))
              (body-append p.frame (drop p.head_len octets) more message.body p.body_len p.body);
          head_is = p.head_is;
          len_is = p.len_is;
        };
        octets_fit = r.begins.octets_fit;
        fields_fit = r.begins.fields_fit;
      };
      served = r.served;
    }

-- more octets come behind the rest
requests_more : (count : ℕ) (octets rest more : List ℕ) → AreRequestsThen count octets rest → AreRequestsThen count (octets ++ more) (rest ++ more)
requests_more zero octets rest more are = ap (λ (o : List ℕ). o ++ more) are
requests_more (suc count) octets rest more are =
    let message = are.0 in let target = are.1 in let size = are.2 in (
      message,
      target,
      size,
      request_more octets more message target size are.3,
      subst (λ (o : List ℕ). AreRequestsThen count o (rest ++ more)) (sym (drop-append-le size octets more (request_within octets message target size are.3)))
          (requests_more count (drop size octets) rest more are.4),
    )

-- one request more is read
requests_next : (count : ℕ) (octets rest : List ℕ) (message : Message RequestHead) (target : Target) (size : ℕ) → AreRequestsThen count octets rest → IsRequest rest message target size
    → AreRequestsThen (suc count) octets (drop size rest)
requests_next zero octets rest message target size are r =
    (message, target, size, subst (λ (o : List ℕ). IsRequest o message target size) (sym are) r, ap (drop size) are)
requests_next (suc count) octets rest message target size are r =
    (are.0, are.1, are.2, are.3, requests_next count (drop are.2 octets) rest message target size are.4 r)

-- ---- connections

-- where more can be read, what is unread is the rest
rest_of : (octets : List ℕ) (k : Connection) → k.leaves ≡ false → IsReadOf octets k → (count : ℕ) × AreRequestsThen count octets k.unread
rest_of octets k stays is = subst (λ (b : Bool). OnTest b (HasLeft k) ((count : ℕ) × AreRequestsThen count octets k.unread)) stays is

left_of : (octets : List ℕ) (k : Connection) → k.leaves ≡ true → IsReadOf octets k → HasLeft k
left_of octets k leaves is = subst (λ (b : Bool). OnTest b (HasLeft k) ((count : ℕ) × AreRequestsThen count octets k.unread)) leaves is

-- a connection without an open exchange can be read on
idle_stays : (octets : List ℕ) (k : Connection) → k.exchange ≡ None → IsReadOf octets k → k.leaves ≡ false
idle_stays octets k idle is =
    ⊎_elim
    (λ (leaves : k.leaves ≡ true). let l = left_of octets k leaves is in absurd (none_some k.exchange l.exchange idle l.awaits))
    (λ (stays : k.leaves ≡ false). stays)
    (cases_Bool k.leaves)

-- octets come
pub read_octets : (octets more : List ℕ) (k : Connection) → IsReadOf octets k → IsReadOf (octets ++ more) (after_client_octets more k)
read_octets octets more k is =
    ⊎_elim
    (λ (leaves : k.leaves ≡ true). subst (IsReadOf (octets ++ more)) (sym (ap (λ (b : Bool). cond b k (record { unread = k.unread ++ more; exchange = k.exchange; leaves = k.leaves })) leaves))
    (subst (λ (b : Bool). OnTest b (HasLeft k) ((count : ℕ) × AreRequestsThen count (octets ++ more) k.unread)) (sym leaves) (left_of octets k leaves is)))
    (λ (stays : k.leaves ≡ false). subst (IsReadOf (octets ++ more)) (sym (ap (λ (b : Bool). cond b k (record { unread = k.unread ++ more; exchange = k.exchange; leaves = k.leaves })) stays))
    (let rest = rest_of octets k stays is in
    subst (λ (b : Bool). OnTest b (HasLeft (record { unread = k.unread ++ more; exchange = k.exchange; leaves = k.leaves })) ((count : ℕ) × AreRequestsThen count (octets ++ more) (k.unread ++ more)))
    (sym stays) (rest.0, requests_more rest.0 octets k.unread more rest.1)))
    (cases_Bool k.leaves)

-- a request is read
module _ (octets : List ℕ) (k : Connection) (idle : k.exchange ≡ None) (is : IsReadOf octets k) where
  stays_open : k.leaves ≡ false
  stays_open = idle_stays octets k idle is

  pub read_request : (e : ℕ) (message : Message RequestHead) (target : Target) (size : ℕ) → IsRequest k.unread message target size → IsReadOf octets (after_request e (drop size k.unread) k)
  read_request e message target size r =
      let rest = rest_of octets k stays_open is in
      subst (λ (b : Bool). OnTest b (HasLeft (after_request e (drop size k.unread) k)) ((count : ℕ) × AreRequestsThen count octets (drop size k.unread)))
      (sym stays_open) (suc rest.0, requests_next rest.0 octets k.unread message target size rest.1 r)

  pub read_replied : (message : Message RequestHead) (target : Target) (size : ℕ) → IsRequest k.unread message target size → IsReadOf octets (after_reply (drop size k.unread) k)
  read_replied message target size r =
      let rest = rest_of octets k stays_open is in
      subst (λ (b : Bool). OnTest b (HasLeft (after_reply (drop size k.unread) k)) ((count : ℕ) × AreRequestsThen count octets (drop size k.unread)))
      (sym stays_open) (suc rest.0, requests_next rest.0 octets k.unread message target size rest.1 r)

-- an exchange has its reply, and the connection stays
pub read_answered : (octets : List ℕ) (k : Connection) → k.leaves ≡ false → IsReadOf octets k → IsReadOf octets (after_reply k.unread k)
read_answered octets k stays is =
    subst (λ (b : Bool). OnTest b (HasLeft (after_reply k.unread k)) ((count : ℕ) × AreRequestsThen count octets k.unread)) (sym stays) (rest_of octets k stays is)

-- nothing more is read
pub read_left : (octets : List ℕ) (k : Connection) (e : ℕ) → k.exchange ≡ Some e → IsReadOf octets (after_leaving k)
read_left octets k e awaits = record { none_unread = refl; exchange = e; awaits = awaits }

-- ---- all links

module _ (last : Option ℕ) (F : ℕ) (ks : Table Connection) (fs : Table Awaited) (client_octets origin_octets : ℕ → List ℕ) (a : AreReceived last F ks fs client_octets origin_octets) where
  -- a connection opens
  pub received_opened : (c : ℕ) → is_later c last ≡ true → ((d : ℕ) → is_later d (Some c) ≡ true → is_later d last ≡ true) → AreReceived (Some c) F (insert ks c new_connection) fs client_octets origin_octets
  received_opened c first behind = record {
    connections_are = λ d k is.
        ⊎_elim
        (λ (p : (c ≡ d) × (new_connection ≡ k)). subst (IsReadOf (client_octets d)) p.1 (0, ap client_octets (sym p.0) ∙ a.later_connections c first))
        (λ (p : (c ≡ d → ⊥) × (get ks d ≡ Some k)). a.connections_are d k p.1)
        (was_put ks c new_connection d k is);
    forwards_are = a.forwards_are;
    later_connections = λ d is. a.later_connections d (behind d is);
    later_forwards = a.later_forwards;
  }

  -- a connection goes on
  pub received_same : (c : ℕ) (k : Connection) → IsReadOf (client_octets c) k → AreReceived last F (insert ks c k) fs client_octets origin_octets
  received_same c k is_read = record {
    connections_are = λ d q is.
        ⊎_elim
        (λ (p : (c ≡ d) × (k ≡ q)). subst (λ (n : ℕ). IsReadOf (client_octets n) q) p.0 (subst (IsReadOf (client_octets c)) p.1 is_read))
        (λ (p : (c ≡ d → ⊥) × (get ks d ≡ Some q)). a.connections_are d q p.1)
        (was_put ks c k d q is);
    forwards_are = a.forwards_are;
    later_connections = a.later_connections;
    later_forwards = a.later_forwards;
  }

  -- octets come on it
  pub received_from_client : (c : ℕ) (octets : List ℕ) (k : Connection) → IsReadOf (client_octets c) k → (is_later c last ≡ true → ⊥) → AreReceived last F (insert ks c (after_client_octets octets k)) fs (with_octets c octets client_octets) origin_octets
  received_from_client c octets k is_read known = record {
    connections_are = λ d q is.
        ⊎_elim
        (λ (p : (c ≡ d) × (after_client_octets octets k ≡ q)). subst (λ (n : ℕ). IsReadOf (with_octets c octets client_octets n) q) p.0
        (subst (λ (o : List ℕ). IsReadOf o q) (sym (ap (λ (b : Bool). cond b (client_octets c ++ octets) (client_octets c)) (eq-eqb c c refl)))
        (subst (IsReadOf (client_octets c ++ octets)) p.1 (read_octets (client_octets c) octets k is_read))))
        (λ (p : (c ≡ d → ⊥) × (get ks d ≡ Some q)). subst (λ (o : List ℕ). IsReadOf o q) (sym (elsewhere d (λ same. p.0 (sym same)))) (a.connections_are d q p.1))
        (was_put ks c (after_client_octets octets k) d q is);
    forwards_are = a.forwards_are;
    later_connections = λ d is. elsewhere d (λ same. known (subst (λ (n : ℕ). is_later n last ≡ true) same is)) ∙ a.later_connections d is;
    later_forwards = a.later_forwards;
  }
    where
      elsewhere : (d : ℕ) → (d ≡ c → ⊥) → with_octets c octets client_octets d ≡ client_octets d
      elsewhere d other = ap (λ (b : Bool). cond b (client_octets d ++ octets) (client_octets d)) (ne_eqb d c other)

  -- it closes
  pub received_out : (c : ℕ) → AreReceived last F (remove ks c) fs client_octets origin_octets
  received_out c = record {
    connections_are = λ d q is. a.connections_are d q (was_left ks c d q is).1;
    forwards_are = a.forwards_are;
    later_connections = a.later_connections;
    later_forwards = a.later_forwards;
  }

  -- a forward is sent
  pub received_sent : (f : ℕ) (b : Awaited) → b.received ≡ [] → F < f → AreReceived last f ks (insert fs f b) client_octets origin_octets
  received_sent f b none further = record {
    connections_are = a.connections_are;
    forwards_are = λ d z is.
        ⊎_elim
        (λ (p : (f ≡ d) × (b ≡ z)). sym (ap (λ (z : Awaited). z.received) p.1) ∙ none ∙ sym (ap origin_octets (sym p.0) ∙ a.later_forwards f further))
        (λ (p : (f ≡ d → ⊥) × (get fs d ≡ Some z)). a.forwards_are d z p.1)
        (was_put fs f b d z is);
    later_connections = a.later_connections;
    later_forwards = λ d is. a.later_forwards d (omega arith);
  }

  -- octets come on it
  pub received_from_origin : (f : ℕ) (octets : List ℕ) (b : Awaited) → get fs f ≡ Some b → (F < f → ⊥) → AreReceived last F ks (insert fs f (after_origin_octets octets b)) client_octets (with_octets f octets origin_octets)
  received_from_origin f octets b is_open known = record {
    connections_are = a.connections_are;
    forwards_are = λ d z is.
        ⊎_elim
        (λ (p : (f ≡ d) × (after_origin_octets octets b ≡ z)). sym (ap (λ (z : Awaited). z.received) p.1) ∙ ap (λ (o : List ℕ). o ++ octets) (a.forwards_are f b is_open)
        ∙ sym (ap (λ (n : ℕ). with_octets f octets origin_octets n) (sym p.0) ∙ ap (λ (b : Bool). cond b (origin_octets f ++ octets) (origin_octets f)) (eq-eqb f f refl)))
        (λ (p : (f ≡ d → ⊥) × (get fs d ≡ Some z)). a.forwards_are d z p.1 ∙ sym (elsewhere d (λ same. p.0 (sym same))))
        (was_put fs f (after_origin_octets octets b) d z is);
    later_connections = a.later_connections;
    later_forwards = λ d is. elsewhere d (λ same. known (subst (λ (n : ℕ). F < n) same is)) ∙ a.later_forwards d is;
  }
    where
      elsewhere : (d : ℕ) → (d ≡ f → ⊥) → with_octets f octets origin_octets d ≡ origin_octets d
      elsewhere d other = ap (λ (b : Bool). cond b (origin_octets d ++ octets) (origin_octets d)) (ne_eqb d f other)

  -- it ends
  pub received_ended : (f : ℕ) → AreReceived last F ks (remove fs f) client_octets origin_octets
  received_ended f = record {
    connections_are = a.connections_are;
    forwards_are = λ d z is. a.forwards_are d z (was_left fs f d z is).1;
    later_connections = a.later_connections;
    later_forwards = a.later_forwards;
  }
