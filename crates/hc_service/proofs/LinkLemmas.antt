-- The open exchanges stay those of the connections.
use Rattle.std.proofs.Common.{◌≡◌, ℕ, ◌<◌, Bool, true, false, List, Option, Some, None, refl, sym, ap, ◌∙◌, subst, arith, ⊎_elim}
use Rattle.std.specs.FinMap.{get, insert, remove}
use Rattle.std.proofs.lemmas.Bool.{ltb-true, lt-ltb, cases_eq}
use Rattle.hc_head.specs.declared.head.RequestHead.{RequestHead}
use Rattle.hc_rules.specs.Laws.{IsForwardable}
use Rattle.hc_service.specs.declared.open.OpenExchange.{OpenExchange}
use Rattle.hc_service.specs.Numbers.{is_later}
use Rattle.hc_service.specs.State.{Table, Connection, new_connection}
use Rattle.hc_service.specs.Turns.{after_request, after_reply, replied}
use Rattle.hc_service.specs.Agreement.{AwaitsOn, HasItsExchange, AreLinked}
use Rattle.hc_service.proofs.TableLemmas.{get_same, get_other, get_left, was_put, was_left}

pub none_some : {X : Type 0} (o : Option X) (x : X) → o ≡ None → o ≡ Some x → ⊥
none_some o x none some = no (sym none ∙ some)
  where
    no : None ≡ Some x → ⊥
    no e = cc

pub one_of : {X : Type 0} (o : Option X) (x y : X) → o ≡ Some x → o ≡ Some y → x ≡ y
one_of o x y a b = cc

-- a number behind the last connection is behind all before
pub later_behind : (c d : ℕ) (last : Option ℕ) → is_later c last ≡ true → is_later d (Some c) ≡ true → is_later d last ≡ true
later_behind c d None first second = refl
later_behind c d (Some last) first second =
    let one : last < c = ltb-true last c first in
    let two : c < d = ltb-true c d second in
    lt-ltb last d (omega arith)

not_later : (c : ℕ) → is_later c (Some c) ≡ true → ⊥
not_later c is = let lt : c < c = ltb-true c c is in absurd (omega arith)

module _ (last : Option ℕ) (ks : Table Connection) (xs : Table OpenExchange) (l : AreLinked last ks xs) where
  -- where an exchange is open, no other connection is meant
  awaits_elsewhere : (c : ℕ) (k : Connection) → get ks c ≡ Some k → (e : ℕ) (x : OpenExchange) (w : AwaitsOn ks e x) → (k.exchange ≡ Some e → ⊥) → c ≡ x.connection → ⊥
  awaits_elsewhere c k at e x w none same = none (ap (λ (q : Connection). q.exchange) (one_of (get ks c) k w.connection at (ap (get ks) same ∙ w.is_open)) ∙ w.awaits)

  -- a connection stays with its request
  pub linked_same : (c : ℕ) (k k' : Connection) → get ks c ≡ Some k → k'.exchange ≡ k.exchange → AreLinked last (insert ks c k') xs
  linked_same c k k' at same = record {
    on_connections = λ e x is.
        let w = l.on_connections e x is in
        ⊎_elim
        (λ (here : c ≡ x.connection). record {
          connection = k';
          is_open = subst (λ (d : ℕ). get (insert ks c k') d ≡ Some k') here (get_same ks c k');
          awaits = same ∙ ap (λ (q : Connection). q.exchange) (one_of (get ks c) k w.connection at (ap (get ks) here ∙ w.is_open)) ∙ w.awaits;
          forwardable = w.forwardable;
        })
        (λ (there : c ≡ x.connection → ⊥). record {
          connection = w.connection;
          is_open = get_other ks c k' x.connection there ∙ w.is_open;
          awaits = w.awaits;
          forwardable = w.forwardable;
        })
        (cases_eq c x.connection);
    busy = λ d e q is at_e.
        ⊎_elim
        (λ (p : (c ≡ d) × (k' ≡ q)). l.busy d e k (ap (get ks) (sym p.0) ∙ at) (sym same ∙ ap (λ (q : Connection). q.exchange) p.1 ∙ at_e))
        (λ (p : (c ≡ d → ⊥) × (get ks d ≡ Some q)). l.busy d e q p.1 at_e)
        (was_put ks c k' d q is);
    later = λ d is. get_other ks c k' d (λ e. none_some (get ks c) k (ap (get ks) e ∙ l.later d is) at) ∙ l.later d is;
  }

  -- a connection without a request goes
  pub linked_out : (c : ℕ) (k : Connection) → get ks c ≡ Some k → k.exchange ≡ None → AreLinked last (remove ks c) xs
  linked_out c k at idle = record {
    on_connections = λ e x is.
        let w = l.on_connections e x is in
        record {
          connection = w.connection;
          is_open = get_left ks c x.connection (awaits_elsewhere c k at e x w (none_some k.exchange e idle)) ∙ w.is_open;
          awaits = w.awaits;
          forwardable = w.forwardable;
        };
    busy = λ d e q is at_e. l.busy d e q (was_left ks c d q is).1 at_e;
    later = λ d is. get_left ks c d (λ e. none_some (get ks c) k (ap (get ks) e ∙ l.later d is) at) ∙ l.later d is;
  }

  -- a connection opens
  pub linked_opened : (c : ℕ) → is_later c last ≡ true → AreLinked (Some c) (insert ks c new_connection) xs
  linked_opened c first = record {
    on_connections = λ e x is.
        let w = l.on_connections e x is in
        record {
          connection = w.connection;
          is_open = get_other ks c new_connection x.connection (λ same. none_some (get ks c) w.connection (l.later c first) (ap (get ks) same ∙ w.is_open)) ∙ w.is_open;
          awaits = w.awaits;
          forwardable = w.forwardable;
        };
    busy = λ d e q is at_e.
        ⊎_elim
        (λ (p : (c ≡ d) × (new_connection ≡ q)). absurd (none_some q.exchange e (sym (ap (λ (q : Connection). q.exchange) p.1)) at_e))
        (λ (p : (c ≡ d → ⊥) × (get ks d ≡ Some q)). l.busy d e q p.1 at_e)
        (was_put ks c new_connection d q is);
    later = λ d is.
        get_other ks c new_connection d (λ same. not_later c (subst (λ (n : ℕ). is_later n (Some c) ≡ true) (sym same) is))
        ∙ l.later d (later_behind c d last first is);
  }

  -- a request has its reply at once
  pub linked_replied : (closes : Bool) (c : ℕ) (behind : List ℕ) (k : Connection) → get ks c ≡ Some k → k.exchange ≡ None → AreLinked last (replied closes c behind k ks) xs
  linked_replied true c behind k at idle = linked_out c k at idle
  linked_replied false c behind k at idle = linked_same c k (after_reply behind k) at (sym idle)

  -- an exchange is open
  pub linked_asked : (c e : ℕ) (behind : List ℕ) (k : Connection) (x : OpenExchange) → get ks c ≡ Some k → k.exchange ≡ None → get xs e ≡ None → x.connection ≡ c
      → IsForwardable x.request x.target → AreLinked last (insert ks c (after_request e behind k)) (insert xs e x)
  linked_asked c e behind k x at idle fresh its may = record {
    on_connections = λ e' x' is.
        ⊎_elim
        (λ (p : (e ≡ e') × (x ≡ x')). subst (λ (n : ℕ). AwaitsOn (insert ks c (after_request e behind k)) n x') p.0
        (subst (AwaitsOn (insert ks c (after_request e behind k)) e) p.1 (record {
          connection = after_request e behind k;
          is_open = subst (λ (d : ℕ). get (insert ks c (after_request e behind k)) d ≡ Some (after_request e behind k)) (sym its) (get_same ks c (after_request e behind k));
          awaits = refl;
          forwardable = may;
        })))
        (λ (p : (e ≡ e' → ⊥) × (get xs e' ≡ Some x')).
        let w = l.on_connections e' x' p.1 in
        record {
          connection = w.connection;
          is_open = get_other ks c (after_request e behind k) x'.connection (awaits_elsewhere c k at e' x' w (none_some k.exchange e' idle)) ∙ w.is_open;
          awaits = w.awaits;
          forwardable = w.forwardable;
        })
        (was_put xs e x e' x' is);
    busy = λ d e' q is at_e.
        ⊎_elim
        (λ (p : (c ≡ d) × (after_request e behind k ≡ q)).
        let same : e ≡ e' = some_same e e' (ap (λ (q : Connection). q.exchange) p.1 ∙ at_e) in
        record { exchange = x; is_open = subst (λ (n : ℕ). get (insert xs e x) n ≡ Some x) same (get_same xs e x); is_its = its ∙ p.0 })
        (λ (p : (c ≡ d → ⊥) × (get ks d ≡ Some q)).
        let b = l.busy d e' q p.1 at_e in
        record {
          exchange = b.exchange;
          is_open = get_other xs e x e' (λ same. none_some (get xs e) b.exchange fresh (ap (get xs) same ∙ b.is_open)) ∙ b.is_open;
          is_its = b.is_its;
        })
        (was_put ks c (after_request e behind k) d q is);
    later = λ d is. get_other ks c (after_request e behind k) d (λ same. none_some (get ks c) k (ap (get ks) same ∙ l.later d is) at) ∙ l.later d is;
  }
    where
      some_same : (a b : ℕ) → Some a ≡ Some b → a ≡ b
      some_same a b e = cc

  -- an exchange changes that stays on its connection
  pub linked_released : (e : ℕ) (x y : OpenExchange) → get xs e ≡ Some x → y.connection ≡ x.connection → y.request ≡ x.request → y.target ≡ x.target → AreLinked last ks (insert xs e y)
  linked_released e x y there same_connection same_request same_goal = record {
    on_connections = λ e' x' is.
        ⊎_elim
        (λ (p : (e ≡ e') × (y ≡ x')).
        let w = l.on_connections e x there in
        subst (λ (n : ℕ). AwaitsOn ks n x') p.0
        (subst (AwaitsOn ks e) p.1 (record {
          connection = w.connection;
          is_open = ap (get ks) same_connection ∙ w.is_open;
          awaits = w.awaits;
          forwardable = subst (λ (r : RequestHead). IsForwardable r y.target) (sym same_request) (subst (IsForwardable x.request) (sym same_goal) w.forwardable);
        })))
        (λ (p : (e ≡ e' → ⊥) × (get xs e' ≡ Some x')). l.on_connections e' x' p.1)
        (was_put xs e y e' x' is);
    busy = λ d e' q is at_e.
        let b = l.busy d e' q is at_e in
        ⊎_elim
        (λ (same : e ≡ e'). record {
          exchange = y;
          is_open = subst (λ (n : ℕ). get (insert xs e y) n ≡ Some y) same (get_same xs e y);
          is_its = same_connection ∙ ap (λ (z : OpenExchange). z.connection) (one_of (get xs e) x b.exchange there (ap (get xs) same ∙ b.is_open)) ∙ b.is_its;
        })
        (λ (other : e ≡ e' → ⊥). record { exchange = b.exchange; is_open = get_other xs e y e' other ∙ b.is_open; is_its = b.is_its })
        (cases_eq e e');
    later = l.later;
  }

  -- an exchange has its reply
  module _ (e : ℕ) (x : OpenExchange) (k : Connection) (awaits : get xs e ≡ Some x) (at : get ks x.connection ≡ Some k) where
    its_exchange : k.exchange ≡ Some e
    its_exchange =
        let w = l.on_connections e x awaits in
        ap (λ (q : Connection). q.exchange) (one_of (get ks x.connection) k w.connection at w.is_open) ∙ w.awaits

    others_await : (ks' : Table Connection) → ((d : ℕ) → (x.connection ≡ d → ⊥) → get ks' d ≡ get ks d) → (e' : ℕ) (x' : OpenExchange) → get (remove xs e) e' ≡ Some x' → AwaitsOn ks' e' x'
    others_await ks' keeps e' x' is =
        let left = was_left xs e e' x' is in
        let w = l.on_connections e' x' left.1 in
        record {
          connection = w.connection;
          is_open = keeps x'.connection (awaits_elsewhere x.connection k at e' x' w (λ (s : k.exchange ≡ Some e'). left.0 (one_of k.exchange e e' its_exchange s))) ∙ w.is_open;
          awaits = w.awaits;
          forwardable = w.forwardable;
        }

    others_busy : (d e' : ℕ) (q : Connection) → (x.connection ≡ d → ⊥) → get ks d ≡ Some q → q.exchange ≡ Some e' → HasItsExchange (remove xs e) d e'
    others_busy d e' q other at_d at_e =
        let b = l.busy d e' q at_d at_e in
        record {
          exchange = b.exchange;
          is_open = get_left xs e e' (λ same. other (ap (λ (y : OpenExchange). y.connection) (one_of (get xs e) x b.exchange awaits (ap (get xs) same ∙ b.is_open)) ∙ b.is_its)) ∙ b.is_open;
          is_its = b.is_its;
        }

    not_later_than : (d : ℕ) → is_later d last ≡ true → x.connection ≡ d → ⊥
    not_later_than d is same = none_some (get ks x.connection) k (ap (get ks) same ∙ l.later d is) at

    pub linked_answered : (closes : Bool) (behind : List ℕ) → AreLinked last (replied closes x.connection behind k ks) (remove xs e)
    linked_answered true behind = record {
      on_connections = others_await (remove ks x.connection) (get_left ks x.connection);
      busy = λ d e' q is at_e. let left = was_left ks x.connection d q is in others_busy d e' q left.0 left.1 at_e;
      later = λ d is. get_left ks x.connection d (not_later_than d is) ∙ l.later d is;
    }
    linked_answered false behind = record {
      on_connections = others_await (insert ks x.connection (after_reply behind k)) (get_other ks x.connection (after_reply behind k));
      busy = λ d e' q is at_e.
          ⊎_elim
          (λ (p : (x.connection ≡ d) × (after_reply behind k ≡ q)). absurd (none_some q.exchange e' (sym (ap (λ (q : Connection). q.exchange) p.1)) at_e))
          (λ (p : (x.connection ≡ d → ⊥) × (get ks d ≡ Some q)). others_busy d e' q p.0 p.1 at_e)
          (was_put ks x.connection (after_reply behind k) d q is);
      later = λ d is. get_other ks x.connection (after_reply behind k) d (not_later_than d is) ∙ l.later d is;
    }
