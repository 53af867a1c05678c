-- Who waits for the forward of another request waits on, and what is stored of its target lies behind it.
use Rattle.std.proofs.Common.{◌≡◌, ℕ, ◌+◌, ◌<◌, ◌≤◌, Bool, true, false, cond, List, [], ◌∷◌, length, Some, None, refl, sym, ap, ◌∙◌, subst, arith, ⊎_elim}
use Rattle.std.specs.Option.{is_some}
use Rattle.std.specs.FinMap.{get, insert, remove}
use Rattle.std.specs.Map.{lookup}
use Rattle.std.proofs.lemmas.Bool.{cases_Bool, eq-eqb, ne_eqb}
use Rattle.hc_head.specs.declared.head.Target.{Target}
use Rattle.hc_head.specs.Targets.{same_target}
use Rattle.hc_head.proofs.SameTargetLemmas.{same_target_itself, same_target_one}
use Rattle.hc_framing.specs.declared.message.Message.{Message}
use Rattle.hc_head.specs.declared.head.RequestHead.{RequestHead}
use Rattle.hc_transcript.specs.Items.{Item, ClientRequest, OriginRequest, OriginResponse, OriginFailure, ClientReply, Exchange}
use Rattle.hc_transcript.specs.History.{exchange_of, next_position}
use Rattle.hc_update.specs.declared.stored.Stored.{Stored}
use Rattle.hc_store.specs.Entries.{AllHeld, Entries, Holdings, knows}
use Rattle.hc_service.specs.declared.open.OpenExchange.{OpenExchange}
use Rattle.hc_service.specs.State.{Table, Awaited, exchange_for}
use Rattle.hc_service.specs.Joining.{is_joinable}
use Rattle.hc_service.specs.Agreement.{AreWaiting, HasSource}
use Rattle.hc_service.specs.Laws.{HasSources}
use Rattle.hc_service.proofs.LinkLemmas.{none_some, one_of}
use Rattle.hc_store.proofs.HeldLemmas.{all_weaken}
use Rattle.hc_service.proofs.TableLemmas.{was_put, was_left}

-- an item that opens or closes no exchange that is open
abbrev pub IsElsewhere : Table OpenExchange → Item → Type 0
IsElsewhere xs (ClientRequest e t q g) = get xs e ≡ None
IsElsewhere xs (ClientReply e t r) = get xs e ≡ None
IsElsewhere xs item = Unit {0}

same_seen : (xs : Table OpenExchange) (e : ℕ) (x : OpenExchange) (items : List Item) (item : Item) → get xs e ≡ Some x → IsElsewhere xs item
    → exchange_of e (item ∷ items) ≡ exchange_of e items
same_seen xs e x items (ClientRequest d t q g) is other =
    ap (λ (b : Bool). cond b (Some (record { number = d; position = next_position items; request = q.head; target = g })) (exchange_of e items))
    (ne_eqb d e (λ same. none_some (get xs e) x (ap (get xs) (sym same) ∙ other) is))
same_seen xs e x items (OriginRequest d t q g c) is other = refl
same_seen xs e x items (OriginResponse d t r) is other = refl
same_seen xs e x items (OriginFailure d t) is other = refl
same_seen xs e x items (ClientReply d t r) is other =
    ap (λ (b : Bool). cond b None (exchange_of e items)) (ne_eqb d e (λ same. none_some (get xs e) x (ap (get xs) (sym same) ∙ other) is))

module _ (since : Target → ℕ) (xs : Table OpenExchange) (fs : Table Awaited) (items : List Item) (w : AreWaiting since xs fs items) where
  pub waiting_item : (item : Item) → IsElsewhere xs item → AreWaiting since xs fs (item ∷ items)
  waiting_item item other = record {
    joinable = w.joinable;
    own = w.own;
    behind = λ e f x seen is waits there. w.behind e f x seen is waits (sym (same_seen xs e x items item is other) ∙ there);
    reached = λ target. let few = w.reached target in omega (arith, few);
  }

  -- an exchange has its reply
  pub waiting_answered : (e : ℕ) → AreWaiting since (remove xs e) fs items
  waiting_answered e = record {
    joinable = λ d f x is waits. w.joinable d f x (was_left xs e d x is).1 waits;
    own = λ d f g x a is waits there its. w.own d f g x a (was_left xs e d x is).1 waits there its;
    behind = λ d f x seen is waits there. w.behind d f x seen (was_left xs e d x is).1 waits there;
    reached = w.reached;
  }

  -- a forward ends
  pub waiting_ended : (f : ℕ) → AreWaiting since xs (remove fs f) items
  waiting_ended f = record {
    joinable = w.joinable;
    own = λ d h g x a is waits there its. w.own d h g x a is waits (was_left fs f g a there).1 its;
    behind = w.behind;
    reached = w.reached;
  }

  -- one opens, which is for nobody that waits
  pub waiting_sent : (f : ℕ) (a : Awaited) → ((e : ℕ) (x : OpenExchange) → exchange_for a.forward.purpose ≡ Some e → get xs e ≡ Some x → x.waits_for ≡ None)
      → AreWaiting since xs (insert fs f a) items
  waiting_sent f a alone = record {
    joinable = w.joinable;
    own = λ d h g x b is waits there its.
        ⊎_elim
        (λ (p : (f ≡ g) × (a ≡ b)). none_some x.waits_for h (alone d x (ap (λ (b : Awaited). exchange_for b.forward.purpose) p.1 ∙ its) is) waits)
        (λ (p : (f ≡ g → ⊥) × (get fs g ≡ Some b)). w.own d h g x b is waits p.1 its)
        (was_put fs f a g b there);
    behind = w.behind;
    reached = w.reached;
  }

  -- octets come on one, which stays for whom it was
  pub waiting_received : (f : ℕ) (a b : Awaited) → get fs f ≡ Some a → a.forward ≡ b.forward → AreWaiting since xs (insert fs f b) items
  waiting_received f a b is_open same = record {
    joinable = w.joinable;
    own = λ d h g x z is waits there its.
        ⊎_elim
        (λ (p : (f ≡ g) × (b ≡ z)).
        w.own d h f x a is waits is_open (ap (λ o. exchange_for o.purpose) same ∙ ap (λ (b : Awaited). exchange_for b.forward.purpose) p.1 ∙ its))
        (λ (p : (f ≡ g → ⊥) × (get fs g ≡ Some z)). w.own d h g x z is waits p.1 its)
        (was_put fs f b g z there);
    behind = w.behind;
    reached = w.reached;
  }

  -- an exchange opens, or is released, which waits for nobody
  pub waiting_opened : (e : ℕ) (x : OpenExchange) → x.waits_for ≡ None → AreWaiting since (insert xs e x) fs items
  waiting_opened e x alone = record {
    joinable = λ d f y is waits. let p = other d f y is waits in w.joinable d f y p waits;
    own = λ d f g y a is waits there its. w.own d f g y a (other d f y is waits) waits there its;
    behind = λ d f y seen is waits there. w.behind d f y seen (other d f y is waits) waits there;
    reached = w.reached;
  }
    where
      other : (d f : ℕ) (y : OpenExchange) → get (insert xs e x) d ≡ Some y → y.waits_for ≡ Some f → get xs d ≡ Some y
      other d f y is waits =
          ⊎_elim
          (λ (p : (e ≡ d) × (x ≡ y)). absurd (none_some y.waits_for f (ap (λ (z : OpenExchange). z.waits_for) (sym p.1) ∙ alone) waits))
          (λ (p : (e ≡ d → ⊥) × (get xs d ≡ Some y)). p.1)
          (was_put xs e x d y is)

-- ---- a request that waits from now on

-- what is stored of its target lies behind it from now on
abbrev pub since_joined : (Target → ℕ) → Target → ℕ → Target → ℕ
since_joined since joined position target = cond (same_target target joined) position (since target)

since_itself : (since : Target → ℕ) (joined : Target) (position : ℕ) → since_joined since joined position joined ≡ position
since_itself since joined position = ap (λ (b : Bool). cond b position (since joined)) (same_target_itself joined)

since_other : (since : Target → ℕ) (joined : Target) (position : ℕ) (target : Target) → same_target target joined ≡ false → since_joined since joined position target ≡ since target
since_other since joined position target other = ap (λ (b : Bool). cond b position (since target)) other

pub waiting_joined : (since : Target → ℕ) (xs : Table OpenExchange) (fs : Table Awaited) (items : List Item) → AreWaiting since xs fs items
    → (e f t : ℕ) (x : OpenExchange) (q : Message RequestHead) → get xs e ≡ None → x.waits_for ≡ Some f → is_joinable x.request ≡ true
    → ((g : ℕ) (a : Awaited) → get fs g ≡ Some a → exchange_for a.forward.purpose ≡ Some e → ⊥)
    → AreWaiting (since_joined since x.target (next_position items)) (insert xs e x) fs (ClientRequest e t q x.target ∷ items)
waiting_joined since xs fs items w e f t x q fresh waits may none = record {
  joinable = λ d h y is its.
      ⊎_elim
      (λ (p : (e ≡ d) × (x ≡ y)). subst (λ (z : OpenExchange). is_joinable z.request ≡ true) p.1 may)
      (λ (p : (e ≡ d → ⊥) × (get xs d ≡ Some y)). w.joinable d h y p.1 its)
      (was_put xs e x d y is);
  own = λ d h g y a is its there for_it.
      ⊎_elim
      (λ (p : (e ≡ d) × (x ≡ y)). none g a there (for_it ∙ ap Some (sym p.0)))
      (λ (p : (e ≡ d → ⊥) × (get xs d ≡ Some y)). w.own d h g y a p.1 its there for_it)
      (was_put xs e x d y is);
  behind = λ d h y seen is its there.
      ⊎_elim
      (λ (p : (e ≡ d) × (x ≡ y)).
      let now : Some (record { number = e; position = next_position items; request = q.head; target = x.target }) ≡ Some seen =
      sym (ap (λ (b : Bool). cond b (Some (record { number = e; position = next_position items; request = q.head; target = x.target })) (exchange_of d items)) (eq-eqb e d p.0)) ∙ there in
      let position : next_position items ≡ seen.position = at_position (record { number = e; position = next_position items; request = q.head; target = x.target }) seen now in
      let told : since_joined since x.target (next_position items) y.target ≡ next_position items =
      ap (λ (z : OpenExchange). since_joined since x.target (next_position items) z.target) (sym p.1) ∙ since_itself since x.target (next_position items) in
      omega (arith, position, told))
      (λ (p : (e ≡ d → ⊥) × (get xs d ≡ Some y)).
      let before = w.behind d h y seen p.1 its (sym (same_seen xs d y items (ClientRequest e t q x.target) p.1 fresh) ∙ there) in
      no_less y.target seen.position (w.reached y.target) before)
      (was_put xs e x d y is);
  reached = λ target. few target (same_target target x.target) (w.reached target);
}
  where
    at_position : (one other : Exchange) → Some one ≡ Some other → one.position ≡ other.position
    at_position one other same = ap (λ (o : Exchange). o.position) (one_of (Some one) one other refl same)

    no_less_by : (b : Bool) (m n k : ℕ) → n ≤ k → m ≤ n → m ≤ cond b (k + 1) n
    no_less_by true m n k few le = omega (arith, few, le)
    no_less_by false m n k few le = le

    no_less : (target : Target) (m : ℕ) → since target ≤ length items → m ≤ since target → m ≤ since_joined since x.target (next_position items) target
    no_less target m few le = no_less_by (same_target target x.target) m (since target) (length items) few le

    few : (target : Target) (b : Bool) → since target ≤ length items → cond b (next_position items) (since target) ≤ length (ClientRequest e t q x.target ∷ items)
    few target true le = omega arith
    few target false le = omega (arith, le)

-- of a target of which nothing is stored anything can be told
pub joined_sources : (since : Target → ℕ) (joined : Target) (position : ℕ) (items : List Item) (store : Holdings) → knows joined store.entries ≡ false → HasSources since items store
    → HasSources (since_joined since joined position) items store
joined_sources since joined position items store none h = record { keys = h.keys; sources = others store.entries none h.sources }
  where
    each : (target : Target) → same_target target joined ≡ false → (stored : Stored) → HasSource since items target stored → HasSource (since_joined since joined position) items target stored
    each target other stored source = record {
      position = source.position;
      is_later = subst (λ (n : ℕ). n < source.position) (sym (since_other since joined position target other)) source.is_later;
      is_its_state = source.is_its_state;
      is_valid = source.is_valid;
    }

    turned : (target : Target) → same_target joined target ≡ false → same_target target joined ≡ false
    turned target other =
        ⊎_elim
        (λ (same : same_target target joined ≡ true).
        absurd (true_false (sym (same_target_itself joined) ∙ ap (same_target joined) (sym (same_target_one target joined same)) ∙ other)))
        (λ (apart : same_target target joined ≡ false). apart)
        (cases_Bool (same_target target joined))
      where
        true_false : true ≡ false → ⊥
        true_false e = cc

    others : (entries : Entries) → knows joined entries ≡ false → AllHeld (HasSource since items) entries → AllHeld (HasSource (since_joined since joined position) items) entries
    others [] none held = tt
    others (e ∷ entries) none held = go (same_target joined e.0) refl none (λ past. others entries past held.1)
      where
        go : (at : Bool) → same_target joined e.0 ≡ at → is_some (cond at (Some e.1) (lookup (same_target joined) entries)) ≡ false
            → (knows joined entries ≡ false → AllHeld (HasSource (since_joined since joined position) items) entries)
            → AllHeld (HasSource (since_joined since joined position) items) (e ∷ entries)
        go true is none rest = absurd (cc)
        go false is none rest = (all_weaken (HasSource since items e.0) (HasSource (since_joined since joined position) items e.0) (each e.0 (turned e.0 is)) e.1 held.0, rest none)
