-- What is open stays what the records leave open.
use Rattle.std.proofs.Common.{◌≡◌, ℕ, ◌+◌, ◌<◌, Bool, true, false, cond, List, ◌∷◌, length, Option, Some, None, nat_eq, refl, sym, ap, ◌∙◌, subst, arith, ⊎_elim}
use Rattle.std.specs.Prelude.{codes}
use Rattle.std.specs.Option.{option_map}
use Rattle.std.specs.FinMap.{get, insert, remove}
use Rattle.std.proofs.lemmas.Bool.{cases_eq, eq-eqb, ne_eqb}
use Rattle.hc_head.specs.declared.head.RequestHead.{RequestHead}
use Rattle.hc_head.specs.declared.head.ResponseHead.{ResponseHead}
use Rattle.hc_head.specs.declared.head.Target.{Target}
use Rattle.hc_framing.specs.declared.message.Message.{Message}
use Rattle.hc_transcript.specs.Items.{Item, ClientRequest, OriginRequest, ClientReply, Exchange}
use Rattle.hc_transcript.specs.History.{exchange_of, forward_of, cause_of}
use Rattle.hc_service.specs.declared.cases.Cause.{Cause}
use Rattle.hc_service.specs.declared.open.ForwardKind.{ForwardKind}
use Rattle.hc_service.specs.declared.open.ForwardKind.TheVariants.{Plain}
use Rattle.hc_service.specs.declared.open.OpenExchange.{OpenExchange}
use Rattle.hc_service.specs.declared.open.OpenForward.{OpenForward}
use Rattle.hc_service.specs.declared.open.Purpose.{Purpose}
use Rattle.hc_service.specs.declared.open.Purpose.TheVariants as purpose
use Rattle.hc_service.specs.State.{Table, Awaited, exchange_for}
use Rattle.hc_service.specs.Turns.{sent_forward, after_origin_octets}
use Rattle.hc_service.specs.Agreement.{IsSeenExchange, AsksFor, KeepsPurpose, AreAsked, seen_forward}
use Rattle.hc_service.proofs.TableLemmas.{get_same, get_other, get_out, get_gone, get_left, was_put, was_left}
use Rattle.hc_service.proofs.LinkLemmas.{none_some}

seen_as : (e : ℕ) (o p : Option OpenExchange) (s t : Option Exchange) → o ≡ p → s ≡ t → IsSeenExchange e p t → IsSeenExchange e o s
seen_as e o p s t one two is = subst (λ (o : Option OpenExchange). IsSeenExchange e o s) (sym one) (subst (IsSeenExchange e p) (sym two) is)

-- nothing is there still
none_left : {X : Type 0} (t : Table X) (n m : ℕ) → get t m ≡ None → get (remove t n) m ≡ None
none_left t n m none = get_out t n m ∙ either (nat_eq n m) (get t m) none
  where
    either : {X : Type 0} (b : Bool) (o : Option X) → o ≡ None → cond b None o ≡ None
    either true o none = refl
    either false o none = none

-- the exchange that a forward is for is open
for_open : (xs : Table OpenExchange) (forward : OpenForward) (e : ℕ) (p : Purpose) → KeepsPurpose xs p forward → exchange_for p ≡ Some e → (x : OpenExchange) × (get xs e ≡ Some x)
for_open xs forward e purpose.Background keeps is = absurd (cc)
for_open xs forward e (purpose.Reply d why kind) keeps is =
    let same : d ≡ e = cc in (keeps.exchange, subst (λ (n : ℕ). get xs n ≡ Some keeps.exchange) same keeps.is_open)

keeps_more : (xs : Table OpenExchange) (e : ℕ) (x : OpenExchange) → get xs e ≡ None → (forward : OpenForward) (p : Purpose) → KeepsPurpose xs p forward → KeepsPurpose (insert xs e x) p forward
keeps_more xs e x fresh forward purpose.Background keeps = keeps
keeps_more xs e x fresh forward (purpose.Reply d why kind) keeps = record {
  exchange = keeps.exchange;
  is_open = get_other xs e x d (λ same. none_some (get xs e) keeps.exchange fresh (ap (get xs) same ∙ keeps.is_open)) ∙ keeps.is_open;
  asks_for = keeps.asks_for;
}

keeps_less : (xs : Table OpenExchange) (e : ℕ) (forward : OpenForward) (p : Purpose) → (exchange_for p ≡ Some e → ⊥) → KeepsPurpose xs p forward → KeepsPurpose (remove xs e) p forward
keeps_less xs e forward purpose.Background other keeps = keeps
keeps_less xs e forward (purpose.Reply d why kind) other keeps = record {
  exchange = keeps.exchange;
  is_open = get_left xs e d (λ same. other (ap Some (sym same))) ∙ keeps.is_open;
  asks_for = keeps.asks_for;
}

keeps_others : (xs : Table OpenExchange) (e : ℕ) (x : OpenExchange) (forward : OpenForward) (p : Purpose) → (exchange_for p ≡ Some e → ⊥) → KeepsPurpose xs p forward → KeepsPurpose (insert xs e x) p forward
keeps_others xs e x forward purpose.Background other keeps = keeps
keeps_others xs e x forward (purpose.Reply d why kind) other keeps = record {
  exchange = keeps.exchange;
  is_open = get_other xs e x d (λ same. other (ap Some (sym same))) ∙ keeps.is_open;
  asks_for = keeps.asks_for;
}

-- a forward that opens has the exchange that it is for as its cause, and the others keep theirs
cause_put : (f : ℕ) (cause : Option ℕ) (t : ℕ) (m : Message RequestHead) (g : Target) (fs : Table Awaited) (a : Awaited) (items : List Item)
    → ((d : ℕ) (b : Awaited) → get fs d ≡ Some b → cause_of d items ≡ exchange_for b.forward.purpose) → cause ≡ exchange_for a.forward.purpose
    → (d : ℕ) (b : Awaited) → get (insert fs f a) d ≡ Some b → cause_of d (OriginRequest f t m g cause ∷ items) ≡ exchange_for b.forward.purpose
cause_put f cause t m g fs a items causes is_for d b is =
    ⊎_elim
    (λ (p : (f ≡ d) × (a ≡ b)). rw (eq-eqb f d p.0) (is_for ∙ ap (λ (b : Awaited). exchange_for b.forward.purpose) p.1))
    (λ (p : (f ≡ d → ⊥) × (get fs d ≡ Some b)). rw (ne_eqb f d p.0) (causes d b p.1))
    (was_put fs f a d b is)

module _ (E F : ℕ) (xs : Table OpenExchange) (fs : Table Awaited) (items : List Item) (k : AreAsked E F xs fs items) where
  -- a request has its reply at once
  pub asked_alone : (e t u : ℕ) (q : Message RequestHead) (g : Target) (a : Message ResponseHead) → E < e → AreAsked e F xs fs (ClientReply e u a ∷ ClientRequest e t q g ∷ items)
  asked_alone e t u q g a later = record {
    exchanges_are = λ d.
        ⊎_elim
        (λ (same : e ≡ d). seen_as d (get xs d) None (exchange_of d (ClientReply e u a ∷ ClientRequest e t q g ∷ items)) None
        (k.later_exchanges d (omega arith)) (rw (eq-eqb e d same) refl) refl)
        (λ (other : e ≡ d → ⊥). seen_as d (get xs d) (get xs d) (exchange_of d (ClientReply e u a ∷ ClientRequest e t q g ∷ items)) (exchange_of d items)
        refl (rw (ne_eqb e d other) refl) (k.exchanges_are d))
        (cases_eq e d);
    forwards_are = k.forwards_are;
    purposes = k.purposes;
    causes = k.causes;
    alone = k.alone;
    later_exchanges = λ d is. k.later_exchanges d (omega arith);
    later_forwards = k.later_forwards;
    no_exchange = k.no_exchange;
    no_forward = k.no_forward;
  }

  -- a request goes to the origin, and awaits its reply
  module _ (c e f t : ℕ) (q m : Message RequestHead) (g : Target) (why : Cause) (kind : ForwardKind) (newer : E < e) (further : F < f)
      (asks : AsksFor (record { connection = c; request = q.head; target = g; waits_for = None }) why kind (sent_forward m.head g t (purpose.Reply e why kind)).forward) where
    abbrev x : OpenExchange
    x = record { connection = c; request = q.head; target = g; waits_for = None }

    abbrev a : Awaited
    a = sent_forward m.head g t (purpose.Reply e why kind)

    fresh : get xs e ≡ None
    fresh = k.later_exchanges e newer

    pub asked_sent : AreAsked e f (insert xs e x) (insert fs f a) (OriginRequest f t m g (Some e) ∷ ClientRequest e t q g ∷ items)
    asked_sent = record {
      exchanges_are = λ d.
          ⊎_elim
          (λ (same : e ≡ d). subst (λ (n : ℕ). IsSeenExchange n (get (insert xs e x) n) (exchange_of n (OriginRequest f t m g (Some e) ∷ ClientRequest e t q g ∷ items))) same
          (seen_as e (get (insert xs e x) e) (Some x) (exchange_of e (OriginRequest f t m g (Some e) ∷ ClientRequest e t q g ∷ items)) _
          (get_same xs e x) (rw (eq-eqb e e refl) refl) (length items + 1, refl)))
          (λ (other : e ≡ d → ⊥). seen_as d (get (insert xs e x) d) (get xs d) (exchange_of d (OriginRequest f t m g (Some e) ∷ ClientRequest e t q g ∷ items)) (exchange_of d items)
          (get_other xs e x d other) (rw (ne_eqb e d other) refl) (k.exchanges_are d))
          (cases_eq e d);
      forwards_are = λ d.
          ⊎_elim
          (λ (same : f ≡ d). rw (eq-eqb f d same) (sym (ap (option_map seen_forward) (ap (get (insert fs f a)) (sym same) ∙ get_same fs f a))))
          (λ (other : f ≡ d → ⊥). rw (ne_eqb f d other) (k.forwards_are d ∙ sym (ap (option_map seen_forward) (get_other fs f a d other))))
          (cases_eq f d);
      purposes = λ d b is.
          ⊎_elim
          (λ (p : (f ≡ d) × (a ≡ b)). subst (λ (b : Awaited). KeepsPurpose (insert xs e x) b.forward.purpose b.forward) p.1 (record { exchange = x; is_open = get_same xs e x; asks_for = asks }))
          (λ (p : (f ≡ d → ⊥) × (get fs d ≡ Some b)). keeps_more xs e x fresh b.forward b.forward.purpose (k.purposes d b p.1))
          (was_put fs f a d b is);
      causes = λ d b is. cause_put f (Some e) t m g fs a (ClientRequest e t q g ∷ items) k.causes refl d b is;
      alone = λ d h n b z is_b is_z for_b for_z.
          ⊎_elim
          (λ (p : (f ≡ d) × (a ≡ b)). ⊎_elim
          (λ (r : (f ≡ h) × (a ≡ z)). sym p.0 ∙ r.0)
          (λ (r : (f ≡ h → ⊥) × (get fs h ≡ Some z)). absurd (taken z h r.1 (for_z ∙ sym_new n b p.1 for_b)))
          (was_put fs f a h z is_z))
          (λ (p : (f ≡ d → ⊥) × (get fs d ≡ Some b)). ⊎_elim
          (λ (r : (f ≡ h) × (a ≡ z)). absurd (taken b d p.1 (for_b ∙ sym_new n z r.1 for_z)))
          (λ (r : (f ≡ h → ⊥) × (get fs h ≡ Some z)). k.alone d h n b z p.1 r.1 for_b for_z)
          (was_put fs f a h z is_z))
          (was_put fs f a d b is_b);
      later_exchanges = λ d is. get_other xs e x d (λ same. absurd (omega arith)) ∙ k.later_exchanges d (omega arith);
      later_forwards = λ d is. get_other fs f a d (λ same. absurd (omega arith)) ∙ k.later_forwards d (omega arith);
      no_exchange = get_other xs e x 0 (λ same. absurd (omega arith)) ∙ k.no_exchange;
      no_forward = get_other fs f a 0 (λ same. absurd (omega arith)) ∙ k.no_forward;
    }
      where
        -- no forward was for the new exchange
        taken : (z : Awaited) (h : ℕ) → get fs h ≡ Some z → exchange_for z.forward.purpose ≡ Some e → ⊥
        taken z h is for_e =
            let awaits = for_open xs z.forward e z.forward.purpose (k.purposes h z is) for_e in
            none_some (get xs e) awaits.0 fresh awaits.1

        sym_new : (n : ℕ) (b : Awaited) → a ≡ b → exchange_for b.forward.purpose ≡ Some n → Some n ≡ Some e
        sym_new n b same is = sym (ap (λ (b : Awaited). exchange_for b.forward.purpose) same ∙ is)

  -- a request waits for the forward of another one
  pub asked_joined : (e t : ℕ) (q : Message RequestHead) (g : Target) (x : OpenExchange) → E < e → x.request ≡ q.head → x.target ≡ g
      → AreAsked e F (insert xs e x) fs (ClientRequest e t q g ∷ items)
  asked_joined e t q g x newer same_request same_goal = record {
    exchanges_are = λ d.
        ⊎_elim
        (λ (same : e ≡ d). subst (λ (n : ℕ). IsSeenExchange n (get (insert xs e x) n) (exchange_of n (ClientRequest e t q g ∷ items))) same
        (seen_as e (get (insert xs e x) e) (Some x) (exchange_of e (ClientRequest e t q g ∷ items)) _
        (get_same xs e x) (rw (eq-eqb e e refl) refl)
        (length items + 1, λ i. Some (record { number = e; position = length items + 1; request = sym same_request i; target = sym same_goal i }))))
        (λ (other : e ≡ d → ⊥). seen_as d (get (insert xs e x) d) (get xs d) (exchange_of d (ClientRequest e t q g ∷ items)) (exchange_of d items)
        (get_other xs e x d other) (rw (ne_eqb e d other) refl) (k.exchanges_are d))
        (cases_eq e d);
    forwards_are = k.forwards_are;
    purposes = λ d b is. keeps_more xs e x (k.later_exchanges e newer) b.forward b.forward.purpose (k.purposes d b is);
    causes = k.causes;
    alone = k.alone;
    later_exchanges = λ d is. get_other xs e x d (λ same. absurd (omega arith)) ∙ k.later_exchanges d (omega arith);
    later_forwards = k.later_forwards;
    no_exchange = get_other xs e x 0 (λ same. absurd (omega arith)) ∙ k.no_exchange;
    no_forward = k.no_forward;
  }

  -- none was for an exchange that wasn't open yet
  pub none_for_new : (e : ℕ) → E < e → (g : ℕ) (a : Awaited) → get fs g ≡ Some a → exchange_for a.forward.purpose ≡ Some e → ⊥
  none_for_new e newer g a is for_e =
      let awaits = for_open xs a.forward e a.forward.purpose (k.purposes g a is) for_e in
      none_some (get xs e) awaits.0 (k.later_exchanges e newer) awaits.1

  -- an exchange that no forward is for
  module _ (e : ℕ) (none : (g : ℕ) (a : Awaited) → get fs g ≡ Some a → exchange_for a.forward.purpose ≡ Some e → ⊥) where
    -- it has its reply
    pub asked_shared : (t : ℕ) (reply : Message ResponseHead) → AreAsked E F (remove xs e) fs (ClientReply e t reply ∷ items)
    asked_shared t reply = record {
      exchanges_are = λ d.
          ⊎_elim
          (λ (same : e ≡ d). seen_as d (get (remove xs e) d) None (exchange_of d (ClientReply e t reply ∷ items)) None
          (ap (get (remove xs e)) (sym same) ∙ get_gone xs e) (ap (λ (b : Bool). cond b None (exchange_of d items)) (eq-eqb e d same)) refl)
          (λ (other : e ≡ d → ⊥). seen_as d (get (remove xs e) d) (get xs d) (exchange_of d (ClientReply e t reply ∷ items)) (exchange_of d items)
          (get_left xs e d other) (ap (λ (b : Bool). cond b None (exchange_of d items)) (ne_eqb e d other)) (k.exchanges_are d))
          (cases_eq e d);
      forwards_are = k.forwards_are;
      purposes = λ d b is. keeps_less xs e b.forward b.forward.purpose (none d b is) (k.purposes d b is);
      causes = k.causes;
      alone = k.alone;
      later_exchanges = λ d is. none_left xs e d (k.later_exchanges d is);
      later_forwards = k.later_forwards;
      no_exchange = none_left xs e 0 k.no_exchange;
      no_forward = k.no_forward;
    }

    -- it waits no more
    pub asked_released : (x y : OpenExchange) → get xs e ≡ Some x → y.request ≡ x.request → y.target ≡ x.target → AreAsked E F (insert xs e y) fs items
    asked_released x y there same_request same_goal = record {
      exchanges_are = λ d.
          ⊎_elim
          (λ (same : e ≡ d). subst (λ (n : ℕ). IsSeenExchange n (get (insert xs e y) n) (exchange_of n items)) same
          (seen_as e (get (insert xs e y) e) (Some y) (exchange_of e items) (exchange_of e items) (get_same xs e y) refl
          (now (subst (λ (o : Option OpenExchange). IsSeenExchange e o (exchange_of e items)) there (k.exchanges_are e)))))
          (λ (other : e ≡ d → ⊥). seen_as d (get (insert xs e y) d) (get xs d) (exchange_of d items) (exchange_of d items) (get_other xs e y d other) refl (k.exchanges_are d))
          (cases_eq e d);
      forwards_are = k.forwards_are;
      purposes = λ d b is. keeps_others xs e y b.forward b.forward.purpose (none d b is) (k.purposes d b is);
      causes = k.causes;
      alone = k.alone;
      later_exchanges = λ d is. get_other xs e y d (λ same. none_some (get xs e) x (ap (get xs) same ∙ k.later_exchanges d is) there) ∙ k.later_exchanges d is;
      later_forwards = k.later_forwards;
      no_exchange = get_other xs e y 0 (λ same. none_some (get xs e) x (ap (get xs) same ∙ k.no_exchange) there) ∙ k.no_exchange;
      no_forward = k.no_forward;
    }
      where
        now : IsSeenExchange e (Some x) (exchange_of e items) → IsSeenExchange e (Some y) (exchange_of e items)
        now seen = (seen.0, seen.1 ∙ (λ i. Some (record { number = e; position = seen.0; request = sym same_request i; target = sym same_goal i })))

  -- another forward is opened, which is for nobody, or for a request for which none other is
  pub asked_more : (f t : ℕ) (m : Message RequestHead) (g : Target) (p : Purpose) → F < f → KeepsPurpose xs p (sent_forward m.head g t p).forward
      → ((h n : ℕ) (z : Awaited) → get fs h ≡ Some z → exchange_for z.forward.purpose ≡ Some n → exchange_for p ≡ Some n → ⊥)
      → AreAsked E f xs (insert fs f (sent_forward m.head g t p)) (OriginRequest f t m g (exchange_for p) ∷ items)
  asked_more f t m g p further keeps taken = record {
    exchanges_are = k.exchanges_are;
    forwards_are = λ d.
        ⊎_elim
        (λ (same : f ≡ d). rw (eq-eqb f d same) (sym (ap (option_map seen_forward) (ap (get (insert fs f a)) (sym same) ∙ get_same fs f a))))
        (λ (other : f ≡ d → ⊥). rw (ne_eqb f d other) (k.forwards_are d ∙ sym (ap (option_map seen_forward) (get_other fs f a d other))))
        (cases_eq f d);
    purposes = λ d b is.
        ⊎_elim
        (λ (q : (f ≡ d) × (a ≡ b)). subst (λ (b : Awaited). KeepsPurpose xs b.forward.purpose b.forward) q.1 keeps)
        (λ (q : (f ≡ d → ⊥) × (get fs d ≡ Some b)). k.purposes d b q.1)
        (was_put fs f a d b is);
    causes = λ d b is. cause_put f (exchange_for p) t m g fs a items k.causes refl d b is;
    alone = λ d h n b z is_b is_z for_b for_z.
        ⊎_elim
        (λ (q : (f ≡ d) × (a ≡ b)). ⊎_elim
        (λ (r : (f ≡ h) × (a ≡ z)). sym q.0 ∙ r.0)
        (λ (r : (f ≡ h → ⊥) × (get fs h ≡ Some z)). absurd (taken h n z r.1 for_z (of_new n b q.1 for_b)))
        (was_put fs f a h z is_z))
        (λ (q : (f ≡ d → ⊥) × (get fs d ≡ Some b)). ⊎_elim
        (λ (r : (f ≡ h) × (a ≡ z)). absurd (taken d n b q.1 for_b (of_new n z r.1 for_z)))
        (λ (r : (f ≡ h → ⊥) × (get fs h ≡ Some z)). k.alone d h n b z q.1 r.1 for_b for_z)
        (was_put fs f a h z is_z))
        (was_put fs f a d b is_b);
    later_exchanges = k.later_exchanges;
    later_forwards = λ d is. get_other fs f a d (λ same. absurd (omega arith)) ∙ k.later_forwards d (omega arith);
    no_exchange = k.no_exchange;
    no_forward = get_other fs f a 0 (λ same. absurd (omega arith)) ∙ k.no_forward;
  }
    where
      a : Awaited
      a = sent_forward m.head g t p

      of_new : (n : ℕ) (b : Awaited) → a ≡ b → exchange_for b.forward.purpose ≡ Some n → exchange_for p ≡ Some n
      of_new n b same is = ap (λ (b : Awaited). exchange_for b.forward.purpose) same ∙ is

  -- octets come on a forward
  pub asked_received : (f : ℕ) (octets : List ℕ) (a : Awaited) → get fs f ≡ Some a → AreAsked E F xs (insert fs f (after_origin_octets octets a)) items
  asked_received f octets a is_open = record {
    exchanges_are = k.exchanges_are;
    forwards_are = λ d.
        ⊎_elim
        (λ (same : f ≡ d). k.forwards_are d ∙ ap (option_map seen_forward) (ap (get fs) (sym same) ∙ is_open)
        ∙ sym (ap (option_map seen_forward) (ap (get (insert fs f (after_origin_octets octets a))) (sym same) ∙ get_same fs f (after_origin_octets octets a))))
        (λ (other : f ≡ d → ⊥). k.forwards_are d ∙ sym (ap (option_map seen_forward) (get_other fs f (after_origin_octets octets a) d other)))
        (cases_eq f d);
    purposes = λ d b is. let w = was d b is in subst (λ (o : OpenForward). KeepsPurpose xs o.purpose o) w.2 (k.purposes d w.0 w.1);
    causes = λ d b is. let w = was d b is in k.causes d w.0 w.1 ∙ ap (λ (o : OpenForward). exchange_for o.purpose) w.2;
    alone = λ d h n b z is_b is_z for_b for_z.
        let w = was d b is_b in
        let v = was h z is_z in
        k.alone d h n w.0 v.0 w.1 v.1 (ap (λ (o : OpenForward). exchange_for o.purpose) w.2 ∙ for_b) (ap (λ (o : OpenForward). exchange_for o.purpose) v.2 ∙ for_z);
    later_exchanges = k.later_exchanges;
    later_forwards = λ d is. get_other fs f (after_origin_octets octets a) d (λ same. none_some (get fs f) a (ap (get fs) same ∙ k.later_forwards d is) is_open) ∙ k.later_forwards d is;
    no_exchange = k.no_exchange;
    no_forward = get_other fs f (after_origin_octets octets a) 0 (λ same. none_some (get fs f) a (ap (get fs) same ∙ k.no_forward) is_open) ∙ k.no_forward;
  }
    where
      -- each forward was there with the same request
      was : (d : ℕ) (b : Awaited) → get (insert fs f (after_origin_octets octets a)) d ≡ Some b → (z : Awaited) × (get fs d ≡ Some z) × (z.forward ≡ b.forward)
      was d b is =
          ⊎_elim
          (λ (p : (f ≡ d) × (after_origin_octets octets a ≡ b)). (a, ap (get fs) (sym p.0) ∙ is_open, ap (λ (b : Awaited). b.forward) p.1))
          (λ (p : (f ≡ d → ⊥) × (get fs d ≡ Some b)). (b, p.1, refl))
          (was_put fs f (after_origin_octets octets a) d b is)

  -- a forward ends, with a record that opens and closes nothing else
  module _ (f : ℕ) (a : Awaited) (item : Item) (is_open : get fs f ≡ Some a) (opens_none : (e : ℕ) → exchange_of e (item ∷ items) ≡ exchange_of e items)
      (closes : (d : ℕ) → forward_of d (item ∷ items) ≡ cond (nat_eq f d) None (forward_of d items))
      (forgets : (d : ℕ) → cause_of d (item ∷ items) ≡ cond (nat_eq f d) None (cause_of d items)) where
    cause_left : (d : ℕ) (b : Awaited) → get (remove fs f) d ≡ Some b → cause_of d (item ∷ items) ≡ exchange_for b.forward.purpose
    cause_left d b is =
        let w = was_left fs f d b is in
        forgets d ∙ ap (λ (b : Bool). cond b None (cause_of d items)) (ne_eqb f d w.0) ∙ k.causes d b w.1

    forwards_left : (d : ℕ) → cond (nat_eq f d) None (forward_of d items) ≡ option_map seen_forward (get (remove fs f) d)
    forwards_left d =
        ⊎_elim
        (λ (same : f ≡ d). ap (λ (b : Bool). cond b None (forward_of d items)) (eq-eqb f d same)
        ∙ sym (ap (option_map seen_forward) (ap (get (remove fs f)) (sym same) ∙ get_gone fs f)))
        (λ (other : f ≡ d → ⊥). ap (λ (b : Bool). cond b None (forward_of d items)) (ne_eqb f d other)
        ∙ k.forwards_are d ∙ sym (ap (option_map seen_forward) (get_left fs f d other)))
        (cases_eq f d)

    -- it was for nobody
    pub asked_behind : AreAsked E F xs (remove fs f) (item ∷ items)
    asked_behind = record {
      exchanges_are = λ e. subst (IsSeenExchange e (get xs e)) (sym (opens_none e)) (k.exchanges_are e);
      forwards_are = λ d. closes d ∙ forwards_left d;
      purposes = λ d b is. k.purposes d b (was_left fs f d b is).1;
      causes = cause_left;
      alone = λ d h n b z is_b is_z for_b for_z. k.alone d h n b z (was_left fs f d b is_b).1 (was_left fs f h z is_z).1 for_b for_z;
      later_exchanges = k.later_exchanges;
      later_forwards = λ d is. none_left fs f d (k.later_forwards d is);
      no_exchange = k.no_exchange;
      no_forward = none_left fs f 0 k.no_forward;
    }

    -- the exchange that it was for has its reply
    pub asked_answered : (e t : ℕ) (reply : Message ResponseHead) → exchange_for a.forward.purpose ≡ Some e → AreAsked E F (remove xs e) (remove fs f) (ClientReply e t reply ∷ item ∷ items)
    asked_answered e t reply its = record {
      exchanges_are = λ d.
          ⊎_elim
          (λ (same : e ≡ d). seen_as d (get (remove xs e) d) None (exchange_of d (ClientReply e t reply ∷ item ∷ items)) None
          (ap (get (remove xs e)) (sym same) ∙ get_gone xs e) (ap (λ (b : Bool). cond b None (exchange_of d (item ∷ items))) (eq-eqb e d same)) refl)
          (λ (other : e ≡ d → ⊥). seen_as d (get (remove xs e) d) (get xs d) (exchange_of d (ClientReply e t reply ∷ item ∷ items)) (exchange_of d items)
          (get_left xs e d other) (ap (λ (b : Bool). cond b None (exchange_of d (item ∷ items))) (ne_eqb e d other) ∙ opens_none d) (k.exchanges_are d))
          (cases_eq e d);
      forwards_are = λ d. closes d ∙ forwards_left d;
      purposes = λ d b is.
          let w = was_left fs f d b is in
          keeps_less xs e b.forward b.forward.purpose (λ for_e. w.0 (k.alone f d e a b is_open w.1 its for_e)) (k.purposes d b w.1);
      causes = cause_left;
      alone = λ d h n b z is_b is_z for_b for_z. k.alone d h n b z (was_left fs f d b is_b).1 (was_left fs f h z is_z).1 for_b for_z;
      later_exchanges = λ d is. none_left xs e d (k.later_exchanges d is);
      later_forwards = λ d is. none_left fs f d (k.later_forwards d is);
      no_exchange = none_left xs e 0 k.no_exchange;
      no_forward = none_left fs f 0 k.no_forward;
    }

-- a request has its reply at once, and behind it a forward is opened for nobody
pub asked_validated : (E F : ℕ) (xs : Table OpenExchange) (fs : Table Awaited) (items : List Item) → AreAsked E F xs fs items → (e f t u v : ℕ) (q m : Message RequestHead) (g : Target) (reply : Message ResponseHead)
    → E < e → F < f → m.head.method ≡ codes "GET"
    → AreAsked e f xs (insert fs f (sent_forward m.head g v purpose.Background)) (OriginRequest f v m g None ∷ ClientReply e u reply ∷ ClientRequest e t q g ∷ items)
asked_validated E F xs fs items k e f t u v q m g reply later further get_method =
    asked_more e F xs fs (ClientReply e u reply ∷ ClientRequest e t q g ∷ items) (asked_alone E F xs fs items k e t u q g reply later) f v m g purpose.Background further get_method
    (λ h n z is for_z none. absurd (none_is_some n none))
  where
    none_is_some : (n : ℕ) → None ≡ Some n → ⊥
    none_is_some n e = cc

-- a forward ends, and the request of its exchange goes to the origin anew
pub asked_anew : (E F : ℕ) (xs : Table OpenExchange) (fs : Table Awaited) (items : List Item) → AreAsked E F xs fs items → (f : ℕ) (a : Awaited) (item : Item) → get fs f ≡ Some a
    → ((e : ℕ) → exchange_of e (item ∷ items) ≡ exchange_of e items) → ((d : ℕ) → forward_of d (item ∷ items) ≡ cond (nat_eq f d) None (forward_of d items))
    → ((d : ℕ) → cause_of d (item ∷ items) ≡ cond (nat_eq f d) None (cause_of d items)) → (e n t : ℕ) (m : Message RequestHead) (why : Cause) (x : OpenExchange) → exchange_for a.forward.purpose ≡ Some e → F < n → get xs e ≡ Some x
    → AsksFor x why Plain (sent_forward m.head x.target t (purpose.Reply e why Plain)).forward
    → AreAsked E n xs (insert (remove fs f) n (sent_forward m.head x.target t (purpose.Reply e why Plain))) (OriginRequest n t m x.target (Some e) ∷ item ∷ items)
asked_anew E F xs fs items k f a item is_open opens_none closes forgets e n t m why x its further awaits asks =
    asked_more E F xs (remove fs f) (item ∷ items) (asked_behind E F xs fs items k f a item is_open opens_none closes forgets) n t m x.target (purpose.Reply e why Plain) further
    (record { exchange = x; is_open = awaits; asks_for = asks }) taken
  where
    some_one : (i j : ℕ) → Some i ≡ Some j → i ≡ j
    some_one i j e = cc

    taken : (h i : ℕ) (z : Awaited) → get (remove fs f) h ≡ Some z → exchange_for z.forward.purpose ≡ Some i → Some e ≡ Some i → ⊥
    taken h i z is for_z same =
        let w = was_left fs f h z is in
        w.0 (k.alone f h e a z is_open w.1 its (for_z ∙ ap Some (sym (some_one e i same))))
