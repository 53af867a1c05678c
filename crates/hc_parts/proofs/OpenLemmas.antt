-- What is open in a part is what is open of it in the whole.
use Rattle.std.proofs.Common.{◌≡◌, ℕ, ◌≤◌, ◌==◌, Bool, true, false, cond, ◌&&◌, ◌||◌, eqb, List, [], ◌∷◌, length, Option, Some, None, refl, sym, ap, subst, ◌∙◌, arith, inl, inr}
use Rattle.std.specs.Prelude.{nat_lt}
use Rattle.std.specs.Option.{option_map}
use Rattle.std.proofs.lemmas.Bool.{cases_Bool, eq-eqb, eqb-true, lt-ltb, le-ltb}
use Rattle.hc_head.specs.declared.head.Target.{Target}
use Rattle.hc_head.specs.Targets.{same_target}
use Rattle.hc_head.proofs.SameTargetLemmas.{same_target_one}
use Rattle.hc_transcript.specs.Items.{Item, ClientRequest, OriginRequest, OriginResponse, OriginFailure, ClientReply, Exchange, Forward}
use Rattle.hc_transcript.specs.History.{next_position, exchange_of, exchange_after, forward_of, cause_of}
use Rattle.hc_history.specs.Windows.{some_since}
use Rattle.hc_history.specs.Seen.{has_forward_in}
use Rattle.hc_parts.specs.Parts.{KeepsCauses, GoesWith, goes_into, is_of_part, items_in}
use Rattle.hc_parts.specs.Orderly.{AreInTurn}

-- the same target stands in one part
abbrev pub KeepsTargets : (Target → ℕ) → Type 0
KeepsTargets part = (one other : Target) → same_target one other ≡ true → part one ≡ part other

pub targets_kept : (part : Target → ℕ) → KeepsTargets part
targets_kept part one other same = ap part (same_target_one one other same)

module _ (part : Target → ℕ) (k : ℕ) where
  -- what holds of the part with an item more and without holds whether it goes there or not
  by_case : (P : List Item → Type 0) (b : Bool) (item : Item) (g : List Item) → (b ≡ true → P (item ∷ g)) → (b ≡ false → P g) → P (cond b (item ∷ g) g)
  by_case P true item g more same = more refl
  by_case P false item g more same = same refl

  -- ---- forwards

  abbrev pub forward_here : Option Forward → Option Forward
  forward_here None = None
  forward_here (Some f) = cond (part f.target == k) (Some f) None

  not_here : (o : Option Forward) → is_of_part part k (option_map (λ (f : Forward). f.target) o) ≡ false → forward_here o ≡ None
  not_here None other = refl
  not_here (Some f) other = rw other refl

  pub forward_in : (n : ℕ) (h : List Item) → AreInTurn h → forward_of n (items_in part k h) ≡ forward_here (forward_of n h)
  forward_in n [] turn = refl
  forward_in n (ClientRequest number moment request target ∷ h) turn =
      by_case (λ g. forward_of n g ≡ forward_here (forward_of n h)) (part target == k) _ (items_in part k h) (λ e. forward_in n h turn.0) (λ e. forward_in n h turn.0)
  forward_in n (OriginRequest number moment request target cause ∷ h) turn = opened (eqb number n) refl (forward_in n h turn.0)
    where
      made : Forward
      made = record { moment = moment; request = request.head; target = target }

      opened : (c : Bool) → eqb number n ≡ c → forward_of n (items_in part k h) ≡ forward_here (forward_of n h)
          → forward_of n (cond (part target == k) (OriginRequest number moment request target cause ∷ items_in part k h) (items_in part k h))
          ≡ forward_here (cond c (Some made) (forward_of n h))
      opened true same before =
          let none : forward_of n h ≡ None = subst (λ (m : ℕ). forward_of m h ≡ None) (eqb-true number n same) turn.1 in
          by_case (λ g. forward_of n g ≡ forward_here (Some made)) (part target == k) _ (items_in part k h)
          (λ e. rw (same, e) refl)
          (λ e. before ∙ ap forward_here none ∙ rw e refl)
      opened false other before =
          by_case (λ g. forward_of n g ≡ forward_here (forward_of n h)) (part target == k) _ (items_in part k h)
          (λ e. rw other before)
          (λ e. before)
  forward_in n (OriginResponse number moment response ∷ h) turn = answered (eqb number n) refl (forward_in n h turn.0)
    where
      answered : (c : Bool) → eqb number n ≡ c → forward_of n (items_in part k h) ≡ forward_here (forward_of n h)
          → forward_of n (items_in part k (OriginResponse number moment response ∷ h)) ≡ forward_here (cond c None (forward_of n h))
      answered true same before =
          by_case (λ g. forward_of n g ≡ None) (goes_into part k h (OriginResponse number moment response)) _ (items_in part k h)
          (λ e. rw same refl)
          (λ e. before ∙ subst (λ (m : ℕ). forward_here (forward_of m h) ≡ None) (eqb-true number n same) (not_here (forward_of number h) e))
      answered false other before =
          by_case (λ g. forward_of n g ≡ forward_here (forward_of n h)) (goes_into part k h (OriginResponse number moment response)) _ (items_in part k h)
          (λ e. rw other before)
          (λ e. before)
  forward_in n (OriginFailure number moment ∷ h) turn = failed (eqb number n) refl (forward_in n h turn.0)
    where
      failed : (c : Bool) → eqb number n ≡ c → forward_of n (items_in part k h) ≡ forward_here (forward_of n h)
          → forward_of n (items_in part k (OriginFailure number moment ∷ h)) ≡ forward_here (cond c None (forward_of n h))
      failed true same before =
          by_case (λ g. forward_of n g ≡ None) (goes_into part k h (OriginFailure number moment)) _ (items_in part k h)
          (λ e. rw same refl)
          (λ e. before ∙ subst (λ (m : ℕ). forward_here (forward_of m h) ≡ None) (eqb-true number n same) (not_here (forward_of number h) e))
      failed false other before =
          by_case (λ g. forward_of n g ≡ forward_here (forward_of n h)) (goes_into part k h (OriginFailure number moment)) _ (items_in part k h)
          (λ e. rw other before)
          (λ e. before)
  forward_in n (ClientReply number moment reply ∷ h) turn =
      by_case (λ g. forward_of n g ≡ forward_here (forward_of n h)) (goes_into part k h (ClientReply number moment reply)) _ (items_in part k h)
      (λ e. forward_in n h turn.0) (λ e. forward_in n h turn.0)

  -- what answers an open forward of the part answers the same there
  here : (o : Option Forward) → is_of_part part k (option_map (λ (f : Forward). f.target) o) ≡ true → forward_here o ≡ o
  here None its = cc
  here (Some f) its = rw its refl

  pub forward_answered : (n : ℕ) (h : List Item) → AreInTurn h → is_of_part part k (option_map (λ (f : Forward). f.target) (forward_of n h)) ≡ true
      → forward_of n (items_in part k h) ≡ forward_of n h
  forward_answered n h turn its = forward_in n h turn ∙ here (forward_of n h) its

  -- and it was made for the same exchange
  still_open : (n number : ℕ) (c : Bool) → eqb number n ≡ c → (o : Option Forward) (f : Forward) → cond c None o ≡ Some f → (eqb number n ≡ false) × (o ≡ Some f)
  still_open n number true same o f is = cc
  still_open n number false other o f is = (other, is)

  pub cause_in : (n : ℕ) (h : List Item) (f : Forward) → AreInTurn h → forward_of n h ≡ Some f → part f.target ≡ k → cause_of n (items_in part k h) ≡ cause_of n h
  cause_in n [] f turn is its = refl
  cause_in n (ClientRequest number moment request target ∷ h) f turn is its =
      by_case (λ g. cause_of n g ≡ cause_of n h) (part target == k) _ (items_in part k h) (λ e. cause_in n h f turn.0 is its) (λ e. cause_in n h f turn.0 is its)
  cause_in n (OriginRequest number moment request target cause ∷ h) f turn is its = opened (eqb number n) refl is (λ was. cause_in n h f turn.0 was its)
    where
      made : Forward
      made = record { moment = moment; request = request.head; target = target }

      opened : (c : Bool) → eqb number n ≡ c → cond c (Some made) (forward_of n h) ≡ Some f
          → (forward_of n h ≡ Some f → cause_of n (items_in part k h) ≡ cause_of n h)
          → cause_of n (items_in part k (OriginRequest number moment request target cause ∷ h)) ≡ cond c cause (cause_of n h)
      opened true same made_it before =
          let here_too : part target ≡ k = ap (λ (o : Option Forward). target_or target o) made_it ∙ its in
          rw (eq-eqb (part target) k here_too, same) refl
        where
          target_or : Target → Option Forward → ℕ
          target_or other None = part other
          target_or other (Some g) = part g.target
      opened false other was before =
          by_case (λ g. cause_of n g ≡ cause_of n h) (part target == k) _ (items_in part k h)
          (λ e. rw other (before was))
          (λ e. before was)
  cause_in n (OriginResponse number moment response ∷ h) f turn is its =
      let was = still_open n number (eqb number n) refl (forward_of n h) f is in
      rw was.0 (by_case (λ g. cause_of n g ≡ cause_of n h) (goes_into part k h (OriginResponse number moment response)) _ (items_in part k h)
      (λ e. rw was.0 (cause_in n h f turn.0 was.1 its))
      (λ e. cause_in n h f turn.0 was.1 its))
  cause_in n (OriginFailure number moment ∷ h) f turn is its =
      let was = still_open n number (eqb number n) refl (forward_of n h) f is in
      rw was.0 (by_case (λ g. cause_of n g ≡ cause_of n h) (goes_into part k h (OriginFailure number moment)) _ (items_in part k h)
      (λ e. rw was.0 (cause_in n h f turn.0 was.1 its))
      (λ e. cause_in n h f turn.0 was.1 its))
  cause_in n (ClientReply number moment reply ∷ h) f turn is its =
      by_case (λ g. cause_of n g ≡ cause_of n h) (goes_into part k h (ClientReply number moment reply)) _ (items_in part k h)
      (λ e. cause_in n h f turn.0 is its) (λ e. cause_in n h f turn.0 is its)

  -- ---- what is later than what

  -- a position of the whole and one of the part: the same items of the part are later than both
  abbrev pub Agrees : ℕ → ℕ → List Item → Type 0
  Agrees since other [] = Unit {0}
  Agrees since other (item ∷ h) = Agrees since other h
      × (goes_into part k h item ≡ true → nat_lt since (next_position h) ≡ nat_lt other (next_position (items_in part k h)))

  -- none is later than the newest
  pub agrees_late : (since other : ℕ) (h : List Item) → length h ≤ since → length (items_in part k h) ≤ other → Agrees since other h
  agrees_late since other [] late later = tt
  agrees_late since other (item ∷ h) late later = elim (cases_Bool (goes_into part k h item)) [
    | inl goes ↦
        let more : length (item ∷ items_in part k h) ≤ other = subst (λ (b : Bool). length (cond b (item ∷ items_in part k h) (items_in part k h)) ≤ other) goes later in (
          agrees_late since other h (omega (arith, late)) (omega (arith, more)),
          λ e. le-ltb since (next_position h) (omega (arith, late)) ∙ sym (le-ltb other (next_position (items_in part k h)) (omega (arith, more))),
        )
    | inr stays ↦
        let same : length (items_in part k h) ≤ other = subst (λ (b : Bool). length (cond b (item ∷ items_in part k h) (items_in part k h)) ≤ other) stays later in
        (agrees_late since other h (omega (arith, late)) same, λ e. let never : false ≡ true = sym stays ∙ e in cc)
  ]

  -- a test of what goes into the part finds there what it finds in the whole
  pub some_in : (test : List Item → Item → Bool) → ((h : List Item) (item : Item) → AreInTurn h → goes_into part k h item ≡ true → test h item ≡ test (items_in part k h) item)
      → ((h : List Item) (item : Item) → AreInTurn h → goes_into part k h item ≡ false → test h item ≡ false)
      → (since other : ℕ) (h : List Item) → AreInTurn h → Agrees since other h → some_since test since h ≡ some_since test other (items_in part k h)
  some_in test same none since other [] turn agrees = refl
  some_in test same none since other (item ∷ h) turn agrees = elim (cases_Bool (goes_into part k h item)) [
    | inl goes ↦ rw goes (λ i. (agrees.1 goes i && same h item turn.0 goes i) || some_in test same none since other h turn.0 agrees.0 i)
    | inr stays ↦ rw (stays, none h item turn.0 stays) (nothing (nat_lt since (next_position h)) _ _ (some_in test same none since other h turn.0 agrees.0))
  ]
    where
      nothing : (b x y : Bool) → x ≡ y → ((b && false) || x) ≡ y
      nothing true x y same = same
      nothing false x y same = same

  -- ---- exchanges

  abbrev pub exchange_goes : Option Exchange → Bool
  exchange_goes o = is_of_part part k (option_map (λ (e : Exchange). e.target) o)

  -- the open exchange of a number, there and in the whole
  pub record IsOpenHere (e : ℕ) (x : Exchange) (h : List Item) : Type 0 where
    pub there : Exchange
    pub is : exchange_of e (items_in part k h) ≡ Some there
    pub same : there ≡ record x { position = there.position }
    pub earlier : x.position ≤ length h
    pub earlier_there : there.position ≤ length (items_in part k h)
    pub agrees : Agrees x.position there.position h

  -- it stays so where an item leaves it open
  stays_open : (e : ℕ) (x : Exchange) (item : Item) (h : List Item) → ((position : ℕ) (o : Option Exchange) → exchange_after e position item o ≡ o) → IsOpenHere e x h → IsOpenHere e x (item ∷ h)
  stays_open e x item h leaves was = elim (cases_Bool (goes_into part k h item)) [
    | inl goes ↦ record {
      there = was.there;
      is = rw goes (leaves (next_position (items_in part k h)) (exchange_of e (items_in part k h)) ∙ was.is);
      same = was.same;
      earlier = let le = was.earlier in omega (arith, le);
      earlier_there = rw goes (let le = was.earlier_there in omega (arith, le));
      agrees = (
        was.agrees,
        λ it. let le = was.earlier in let le_there = was.earlier_there in
            lt-ltb x.position (next_position h) (omega (arith, le)) ∙ sym (lt-ltb was.there.position (next_position (items_in part k h)) (omega (arith, le_there))),
      );
    }
    | inr stays ↦ record {
      there = was.there;
      is = rw stays was.is;
      same = was.same;
      earlier = let le = was.earlier in omega (arith, le);
      earlier_there = rw stays was.earlier_there;
      agrees = (was.agrees, λ it. let never : false ≡ true = sym stays ∙ it in cc);
    }
  ]

  pub exchange_open : (e : ℕ) (h : List Item) (x : Exchange) → AreInTurn h → exchange_of e h ≡ Some x → part x.target ≡ k → IsOpenHere e x h
  exchange_open e [] x turn is its = cc
  exchange_open e (ClientRequest number moment request target ∷ h) x turn is its = opened (eqb number e) refl is (λ was. exchange_open e h x turn.0 was its)
    where
      made : Exchange
      made = record { number = number; position = next_position h; request = request.head; target = target }

      made_there : Exchange
      made_there = record { number = number; position = next_position (items_in part k h); request = request.head; target = target }

      exchange_or : Exchange → Option Exchange → Exchange
      exchange_or other None = other
      exchange_or other (Some y) = y

      its_request : eqb number e ≡ true → part target ≡ k → IsOpenHere e made (ClientRequest number moment request target ∷ h)
      its_request same goes =
          let there : (part target == k) ≡ true = eq-eqb (part target) k goes in
          record {
            there = made_there;
            is = rw (there, same) refl;
            same = refl;
            earlier = omega arith;
            earlier_there = rw there (omega arith);
            agrees = (
              agrees_late (next_position h) (next_position (items_in part k h)) h (omega arith) (omega arith),
              λ it. le-ltb (next_position h) (next_position h) (omega arith) ∙ sym (le-ltb (next_position (items_in part k h)) (next_position (items_in part k h)) (omega arith)),
            );
          }

      opened : (c : Bool) → eqb number e ≡ c → cond c (Some made) (exchange_of e h) ≡ Some x → (exchange_of e h ≡ Some x → IsOpenHere e x h)
          → IsOpenHere e x (ClientRequest number moment request target ∷ h)
      opened true same made_it before =
          let it : made ≡ x = ap (exchange_or made) made_it in
          subst (λ (y : Exchange). IsOpenHere e y (ClientRequest number moment request target ∷ h)) it (its_request same (ap (λ (y : Exchange). part y.target) it ∙ its))
      opened false other was before = stays_open e x (ClientRequest number moment request target) h (λ position o. rw other refl) (before was)
  exchange_open e (ClientReply number moment reply ∷ h) x turn is its = closed (eqb number e) refl is (λ was. exchange_open e h x turn.0 was its)
    where
      closed : (c : Bool) → eqb number e ≡ c → cond c None (exchange_of e h) ≡ Some x → (exchange_of e h ≡ Some x → IsOpenHere e x h) → IsOpenHere e x (ClientReply number moment reply ∷ h)
      closed true same is_none before = cc
      closed false other was before = stays_open e x (ClientReply number moment reply) h (λ position o. rw other refl) (before was)
  exchange_open e (OriginRequest number moment request target cause ∷ h) x turn is its =
      stays_open e x (OriginRequest number moment request target cause) h (λ position o. refl) (exchange_open e h x turn.0 is its)
  exchange_open e (OriginResponse number moment response ∷ h) x turn is its =
      stays_open e x (OriginResponse number moment response) h (λ position o. refl) (exchange_open e h x turn.0 is its)
  exchange_open e (OriginFailure number moment ∷ h) x turn is its =
      stays_open e x (OriginFailure number moment) h (λ position o. refl) (exchange_open e h x turn.0 is its)

  -- what isn't open of the part isn't open there
  pub exchange_shut : (e : ℕ) (h : List Item) → AreInTurn h → exchange_goes (exchange_of e h) ≡ false → exchange_of e (items_in part k h) ≡ None
  exchange_shut e [] turn apart = refl
  exchange_shut e (ClientRequest number moment request target ∷ h) turn apart = opened (eqb number e) refl apart (λ shut. exchange_shut e h turn.0 shut)
    where
      made : Exchange
      made = record { number = number; position = next_position h; request = request.head; target = target }

      opened : (c : Bool) → eqb number e ≡ c → exchange_goes (cond c (Some made) (exchange_of e h)) ≡ false → (exchange_goes (exchange_of e h) ≡ false → exchange_of e (items_in part k h) ≡ None)
          → exchange_of e (items_in part k (ClientRequest number moment request target ∷ h)) ≡ None
      opened true same shut before =
          let none : exchange_of e h ≡ None = subst (λ (m : ℕ). exchange_of m h ≡ None) (eqb-true number e same) turn.1 in
          rw shut (before (ap exchange_goes none))
      opened false other shut before =
          by_case (λ g. exchange_of e g ≡ None) (part target == k) _ (items_in part k h) (λ it. rw other (before shut)) (λ it. before shut)
  exchange_shut e (ClientReply number moment reply ∷ h) turn apart = closed (eqb number e) refl apart (λ shut. exchange_shut e h turn.0 shut)
    where
      closed : (c : Bool) → eqb number e ≡ c → exchange_goes (cond c None (exchange_of e h)) ≡ false → (exchange_goes (exchange_of e h) ≡ false → exchange_of e (items_in part k h) ≡ None)
          → exchange_of e (items_in part k (ClientReply number moment reply ∷ h)) ≡ None
      closed true same shut before =
          by_case (λ g. exchange_of e g ≡ None) (goes_into part k h (ClientReply number moment reply)) _ (items_in part k h)
          (λ it. rw same refl)
          (λ it. before (subst (λ (m : ℕ). exchange_goes (exchange_of m h) ≡ false) (eqb-true number e same) it))
      closed false other shut before =
          by_case (λ g. exchange_of e g ≡ None) (goes_into part k h (ClientReply number moment reply)) _ (items_in part k h) (λ it. rw other (before shut)) (λ it. before shut)
  exchange_shut e (OriginRequest number moment request target cause ∷ h) turn apart =
      by_case (λ g. exchange_of e g ≡ None) (part target == k) _ (items_in part k h) (λ it. exchange_shut e h turn.0 apart) (λ it. exchange_shut e h turn.0 apart)
  exchange_shut e (OriginResponse number moment response ∷ h) turn apart =
      by_case (λ g. exchange_of e g ≡ None) (goes_into part k h (OriginResponse number moment response)) _ (items_in part k h)
      (λ it. exchange_shut e h turn.0 apart) (λ it. exchange_shut e h turn.0 apart)
  exchange_shut e (OriginFailure number moment ∷ h) turn apart =
      by_case (λ g. exchange_of e g ≡ None) (goes_into part k h (OriginFailure number moment)) _ (items_in part k h)
      (λ it. exchange_shut e h turn.0 apart) (λ it. exchange_shut e h turn.0 apart)

  -- ---- forwards that were made for an exchange

  joined_goes : (e c : ℕ) (target : Target) (h : List Item) (x : Exchange) → GoesWith part target (exchange_of c h) → exchange_of e h ≡ Some x → part x.target ≡ k → eqb c e ≡ true → part target ≡ k
  joined_goes e c target h x joined is its same =
      subst (λ (o : Option Exchange). GoesWith part target o) (ap (λ (n : ℕ). exchange_of n h) (eqb-true c e same) ∙ is) joined ∙ its

  pub has_forward_there : (e : ℕ) (h : List Item) (x : Exchange) → AreInTurn h → KeepsCauses part h → exchange_of e h ≡ Some x → part x.target ≡ k
      → has_forward_in e (items_in part k h) ≡ has_forward_in e h
  has_forward_there e [] x turn joined is its = refl
  has_forward_there e (ClientRequest number moment request target ∷ h) x turn joined is its = opened (eqb number e) refl is (λ was. has_forward_there e h x turn.0 joined.0 was its)
    where
      made : Exchange
      made = record { number = number; position = next_position h; request = request.head; target = target }

      part_of : Option Exchange → ℕ
      part_of None = 0
      part_of (Some y) = part y.target

      opened : (c : Bool) → eqb number e ≡ c → cond c (Some made) (exchange_of e h) ≡ Some x → (exchange_of e h ≡ Some x → has_forward_in e (items_in part k h) ≡ has_forward_in e h)
          → has_forward_in e (items_in part k (ClientRequest number moment request target ∷ h)) ≡ cond c false (has_forward_in e h)
      opened true same made_it before = let goes : part target ≡ k = ap part_of made_it ∙ its in rw (eq-eqb (part target) k goes, same) refl
      opened false other was before =
          by_case (λ g. has_forward_in e g ≡ has_forward_in e h) (part target == k) _ (items_in part k h) (λ it. rw other (before was)) (λ it. before was)
  has_forward_there e (ClientReply number moment reply ∷ h) x turn joined is its = closed (eqb number e) refl is (λ was. has_forward_there e h x turn.0 joined.0 was its)
    where
      closed : (c : Bool) → eqb number e ≡ c → cond c None (exchange_of e h) ≡ Some x → (exchange_of e h ≡ Some x → has_forward_in e (items_in part k h) ≡ has_forward_in e h)
          → has_forward_in e (items_in part k (ClientReply number moment reply ∷ h)) ≡ cond c false (has_forward_in e h)
      closed true same is_none before = cc
      closed false other was before =
          by_case (λ g. has_forward_in e g ≡ has_forward_in e h) (goes_into part k h (ClientReply number moment reply)) _ (items_in part k h) (λ it. rw other (before was)) (λ it. before was)
  has_forward_there e (OriginRequest number moment request target None ∷ h) x turn joined is its =
      let before = has_forward_there e h x turn.0 joined.0 is its in
      by_case (λ g. has_forward_in e g ≡ has_forward_in e h) (part target == k) _ (items_in part k h) (λ it. before) (λ it. before)
  has_forward_there e (OriginRequest number moment request target (Some c) ∷ h) x turn joined is its = sent (eqb c e) refl (has_forward_there e h x turn.0 joined.0 is its)
    where
      sent : (b : Bool) → eqb c e ≡ b → has_forward_in e (items_in part k h) ≡ has_forward_in e h
          → has_forward_in e (items_in part k (OriginRequest number moment request target (Some c) ∷ h)) ≡ (b || has_forward_in e h)
      sent true same before = rw (eq-eqb (part target) k (joined_goes e c target h x joined.1 is its same), same) refl
      sent false other before =
          by_case (λ g. has_forward_in e g ≡ has_forward_in e h) (part target == k) _ (items_in part k h) (λ it. rw other before) (λ it. before)
  has_forward_there e (OriginResponse number moment response ∷ h) x turn joined is its =
      let before = has_forward_there e h x turn.0 joined.0 is its in
      by_case (λ g. has_forward_in e g ≡ has_forward_in e h) (goes_into part k h (OriginResponse number moment response)) _ (items_in part k h) (λ it. before) (λ it. before)
  has_forward_there e (OriginFailure number moment ∷ h) x turn joined is its =
      let before = has_forward_there e h x turn.0 joined.0 is its in
      by_case (λ g. has_forward_in e g ≡ has_forward_in e h) (goes_into part k h (OriginFailure number moment)) _ (items_in part k h) (λ it. before) (λ it. before)
