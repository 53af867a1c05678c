-- Who is due first, and what changes.
use Rattle.std.proofs.Common.{◌≡◌, ℕ, ◌+◌, ◌<◌, ◌≤◌, ◌⊎◌, true, false, cond, List, [], ◌∷◌, Option, Some, None, IfSome, Ordering, Less, Equal, Greater, nat_cmp, is_eq, is_gt, refl, sym, ap, subst, ◌∙◌, inl, inr, arith, le_of_eq, le_of_lt, true≢false}
use Rattle.std.specs.BTreeSet.{IsKeyRangeOf, contains}
use Rattle.std.specs.List.{slice_get}
use Rattle.std.specs.declared.ops.Bound.TheVariants.{Included, Unbounded}
use Rattle.std.specs.Option.{is_some}
use Rattle.std.specs.Ordering.{MatchOrdering, ordering_reverse, ordering_then}
use Rattle.std.proofs.lemmas.Bool.{both_ways, eqb-true}
use Rattle.std.proofs.lemmas.Cmp.{ranked, tied_itself}
use Rattle.hc_agenda.specs.contracts.deadline.TimeoutOrd.TheImpl as timeout_order
use Rattle.hc_agenda.specs.contracts.deadline.TimeoutOrd.TheImpl.Laws.{matches_eq-law, total-law}
use Rattle.hc_agenda.specs.declared.deadline.Deadline.{Deadline}
use Rattle.hc_agenda.specs.declared.deadline.Timeout.{Timeout}
use Rattle.hc_agenda.specs.declared.deadline.Timeout.TheVariants.{Guest, TurnedAway, Client, ClientLingering, Place, Connect, Origin, OriginLingering}
use Rattle.hc_agenda.specs.declared.deadlines.Deadlines.{Deadlines}
use Rattle.hc_agenda.specs.Deadlines.{ComesFirst, IsDue, IsDueBy, IsFirstOf, NobodyIsDueBy, deadline_at}
use Rattle.hc_agenda.specs.Due.{by_time, is_tick, same_timeout}
use Rattle.hc_agenda.specs.Earliest.{IsEarliest, earlier_of}
use Rattle.hc_agenda.proofs.DueLemmas.{made, same_timeout_itself, same_timeout_one, stands}
use Rattle.hc_agenda.proofs.EarliestLemmas.{earliest_of_both, earliest_same}

-- ---- orders

abbrev by_timeout : Timeout → Timeout → Ordering
by_timeout = (timeout_order.ghosts).cmp

not_behind : (one other : Ordering) → is_gt (ordering_then one other) ≡ false → is_gt one ≡ false
not_behind Less other is = refl
not_behind Equal other is = refl
not_behind Greater other is = is

neither_behind : (one other : Ordering) → is_gt one ≡ false → other ≡ ordering_reverse one → is_gt other ≡ false → is_eq one ≡ true
neither_behind Less other up back down = absurd (true≢false (sym (ap is_gt back) ∙ down))
neither_behind Equal other up back down = refl
neither_behind Greater other up back down = absurd (true≢false up)

-- of two time-outs of which neither is behind the other, both are the same
one_timeout : (t s : Timeout) → is_gt (by_timeout t s) ≡ false → is_gt (by_timeout s t) ≡ false → t ≡ s
one_timeout t s up down = same_timeout_one t s (matches_eq-law t s ∙ neither_behind (by_timeout t s) (by_timeout s t) up (total-law.antisymm s t) down)

not_above : (o : Ordering) (x y : ℕ) → x ≤ y → MatchOrdering o (x < y) (x ≡ y) (y < x) → is_gt o ≡ false
not_above Less x y le is = refl
not_above Equal x y le is = refl
not_above Greater x y le is = absurd (omega arith)

one_above : (one other : Ordering) → is_gt one ≡ false → is_gt other ≡ false → is_gt (ordering_then one other) ≡ false
one_above Less other up then_up = refl
one_above Equal other up then_up = then_up
one_above Greater other up then_up = up

-- the least deadline of a time-out is behind none of it
least_of : (t : Timeout) (u n : ℕ) → is_gt (by_time (made t 0 0) (made t u n)) ≡ false
least_of t u n =
    one_above (by_timeout t t) (ordering_then (nat_cmp 0 u) (nat_cmp 0 n)) (ap is_gt (tied_itself total-law t))
    (one_above (nat_cmp 0 u) (nat_cmp 0 n) (not_above (nat_cmp 0 u) 0 u (omega arith) (ranked 0 u (nat_cmp 0 u) refl)) (not_above (nat_cmp 0 n) 0 n (omega arith) (ranked 0 n (nat_cmp 0 n) refl)))

comes : (one other : Ordering) (tick u number n : ℕ) → MatchOrdering one (tick < u) (tick ≡ u) (u < tick) → MatchOrdering other (number < n) (number ≡ n) (n < number)
    → is_gt (ordering_then one other) ≡ false → ComesFirst tick number u n
comes Less other tick u number n is then_is up = inl is
comes Equal Less tick u number n is then_is up = inr (is, le_of_lt then_is)
comes Equal Equal tick u number n is then_is up = inr (is, le_of_eq then_is)
comes Equal Greater tick u number n is then_is up = absurd (true≢false up)
comes Greater other tick u number n is then_is up = absurd (true≢false up)

-- of two deadlines of a time-out the one that isn't behind comes first
comes_first : (t : Timeout) (tick u number n : ℕ) → is_gt (by_time (made t tick number) (made t u n)) ≡ false → ComesFirst tick number u n
comes_first t tick u number n up =
    comes (nat_cmp tick u) (nat_cmp number n) tick u number n (ranked tick u (nat_cmp tick u) refl) (ranked number n (nat_cmp number n) refl)
    (sym (ap (λ (o : Ordering). is_gt (ordering_then o (ordering_then (nat_cmp tick u) (nat_cmp number n)))) (tied_itself total-law t)) ∙ up)

-- ---- the first of a time-out

is_due : (o : Option ℕ) (tick : ℕ) → is_tick o tick ≡ true → o ≡ Some tick
is_due None tick is = absurd (true≢false (sym is))
is_due (Some due) tick is = ap Some (eqb-true due tick is)

none_if : (o : Option ℕ) → ((u : ℕ) → o ≡ Some u → ⊥) → o ≡ None
none_if None no_one = refl
none_if (Some u) no_one = absurd (no_one u refl)

each_if : (o : Option ℕ) (P : ℕ → Type 0) → ((u : ℕ) → o ≡ Some u → P u) → IfSome o P
each_if None P is = tt
each_if (Some u) P is = is u refl

module _ (deadlines : Deadlines) (t : Timeout) where
  -- nothing stands behind the least one of a time-out
  pub nobody : ((d : Deadline) → is_gt (by_time (made t 0 0) d) ≡ false → contains by_time deadlines.queue d ≡ false) → NobodyIsDueBy t deadlines
  nobody none n = none_if (deadline_at t n deadlines)
      (λ u due. both_ways (contains by_time deadlines.queue (made t u n)) (none (made t u n) (least_of t u n)) (stands deadlines.queue deadlines.ticks deadlines.queued t u n due))

  module _ (k : Deadline) (upper : (d : Deadline) → is_gt (by_time (made t 0 0) d) ≡ false → contains by_time deadlines.queue d ≡ true → is_gt (by_time k d) ≡ false) where
    up_to : (u n : ℕ) → deadline_at t n deadlines ≡ Some u → is_gt (by_time k (made t u n)) ≡ false
    up_to u n due = upper (made t u n) (least_of t u n) (stands deadlines.queue deadlines.ticks deadlines.queued t u n due)

    -- the first that stands there is of another time-out
    pub another : is_gt (by_time (made t 0 0) k) ≡ false → (k.timeout ≡ t → ⊥) → NobodyIsDueBy t deadlines
    another lower other n = none_if (deadline_at t n deadlines)
        (λ u due. other (sym (one_timeout t k.timeout
        (not_behind (by_timeout t k.timeout) (ordering_then (nat_cmp 0 k.tick) (nat_cmp 0 k.number)) lower)
        (not_behind (by_timeout k.timeout t) (ordering_then (nat_cmp k.tick u) (nat_cmp k.number n)) (up_to u n due)))))

    -- it is of that one
    pub first_there : contains by_time deadlines.queue k ≡ true → k.timeout ≡ t → IsFirstOf t (Some k) deadlines
    first_there there is = (
      is,
      record {
        due = subst (λ (s : Timeout). deadline_at s k.number deadlines ≡ Some k.tick) is (is_due (deadline_at k.timeout k.number deadlines) k.tick (sym (deadlines.queued k) ∙ there));
        first = λ n. each_if (deadline_at t n deadlines) (λ u. ComesFirst k.tick k.number u n)
            (λ u due. comes_first t k.tick u k.number n (subst (λ (s : Timeout). is_gt (by_time (made s k.tick k.number) (made t u n)) ≡ false) is (up_to u n due)));
      },
    )

-- ---- what stands from a time-out's least deadline on

at_head : (r rest : List Deadline) (k : Deadline) (P : Deadline → Type 0) → r ≡ k ∷ rest → IfSome (slice_get r 0) P → P k
at_head r rest k P is first = subst (λ (xs : List Deadline). IfSome (slice_get xs 0) P) is first

module _ (deadlines : Deadlines) (t : Timeout) (r : List Deadline) (range : IsKeyRangeOf by_time (Included (made t 0 0)) Unbounded deadlines.queue r) where
  -- nothing does
  pub none_stands : r ≡ [] → NobodyIsDueBy t deadlines
  none_stands is = nobody deadlines t (λ d from. range.5 is d (from, tt))

  module _ (k : Deadline) (rest : List Deadline) (is : r ≡ k ∷ rest) where
    from_it : (d : Deadline) → is_gt (by_time (made t 0 0) d) ≡ false → contains by_time deadlines.queue d ≡ true → is_gt (by_time k d) ≡ false
    from_it d from there = at_head r rest k (λ x. is_gt (by_time x d) ≡ false) is (range.2 d (from, tt) there)

    it_stands : ((is_gt (by_time (made t 0 0) k) ≡ false) × Unit {0}) × (contains by_time deadlines.queue k ≡ true)
    it_stands = at_head r rest k (λ x. ((is_gt (by_time (made t 0 0) x) ≡ false) × Unit {0}) × (contains by_time deadlines.queue x ≡ true)) is range.1

    -- the first is of that time-out
    pub first_stands : k.timeout ≡ t → IsFirstOf t (Some k) deadlines
    first_stands same = first_there deadlines t k from_it it_stands.1 same

    -- it is of another one
    pub other_stands : same_timeout k.timeout t ≡ false → NobodyIsDueBy t deadlines
    other_stands other = another deadlines t k from_it it_stands.0.0
        (λ same. both_ways (same_timeout k.timeout t) other (subst (λ (s : Timeout). same_timeout s t ≡ true) (sym same) (same_timeout_itself t)))

-- ---- the first of several time-outs

-- somebody is due by one of two time-outs
abbrev pub EitherIsDue : Deadlines → (t s : Timeout) → (tick : ℕ) → Type 0
EitherIsDue deadlines t s tick = IsDueBy t deadlines tick ⊎ IsDueBy s deadlines tick

module _ (deadlines : Deadlines) where
  abbrev AnyIsDue : (tick : ℕ) → Type 0
  AnyIsDue tick = (EitherIsDue deadlines Guest TurnedAway tick ⊎ EitherIsDue deadlines Client ClientLingering tick)
      ⊎ (EitherIsDue deadlines Place Connect tick ⊎ EitherIsDue deadlines Origin OriginLingering tick)

  any_is : (tick : ℕ) → AnyIsDue tick → IsDue deadlines tick
  any_is tick (inl (inl (inl is))) = (Guest, is)
  any_is tick (inl (inl (inr is))) = (TurnedAway, is)
  any_is tick (inl (inr (inl is))) = (Client, is)
  any_is tick (inl (inr (inr is))) = (ClientLingering, is)
  any_is tick (inr (inl (inl is))) = (Place, is)
  any_is tick (inr (inl (inr is))) = (Connect, is)
  any_is tick (inr (inr (inl is))) = (Origin, is)
  any_is tick (inr (inr (inr is))) = (OriginLingering, is)

  is_any : (tick : ℕ) (timeout : Timeout) → IsDueBy timeout deadlines tick → AnyIsDue tick
  is_any tick Guest is = inl (inl (inl is))
  is_any tick TurnedAway is = inl (inl (inr is))
  is_any tick Client is = inl (inr (inl is))
  is_any tick ClientLingering is = inl (inr (inr is))
  is_any tick Place is = inr (inl (inl is))
  is_any tick Connect is = inr (inl (inr is))
  is_any tick Origin is = inr (inr (inl is))
  is_any tick OriginLingering is = inr (inr (inr is))

  -- the first of all is the first of these
  pub first_of_all : (guest client forward link : Option ℕ)
      → IsEarliest (EitherIsDue deadlines Guest TurnedAway) guest → IsEarliest (EitherIsDue deadlines Client ClientLingering) client
      → IsEarliest (EitherIsDue deadlines Place Connect) forward → IsEarliest (EitherIsDue deadlines Origin OriginLingering) link
      → IsEarliest (IsDue deadlines) (earlier_of (earlier_of guest client) (earlier_of forward link))
  first_of_all guest client forward link of_guest of_client of_forward of_link =
      earliest_same AnyIsDue (IsDue deadlines) (earlier_of (earlier_of guest client) (earlier_of forward link)) any_is (λ tick is. is_any tick is.0 is.1)
      (earliest_of_both
      (λ tick. EitherIsDue deadlines Guest TurnedAway tick ⊎ EitherIsDue deadlines Client ClientLingering tick)
      (λ tick. EitherIsDue deadlines Place Connect tick ⊎ EitherIsDue deadlines Origin OriginLingering tick)
      (earlier_of guest client) (earlier_of forward link)
      (earliest_of_both (EitherIsDue deadlines Guest TurnedAway) (EitherIsDue deadlines Client ClientLingering) guest client of_guest of_client)
      (earliest_of_both (EitherIsDue deadlines Place Connect) (EitherIsDue deadlines Origin OriginLingering) forward link of_forward of_link))

-- ---- how many there are

-- how many there are, where one is put in place of another, or of none
pub count_put : (was : Option ℕ) (before after : ℕ) → after ≡ before + cond (is_some was) 0 1 → after + cond (is_some was) 1 0 ≡ before + 1
count_put None before after is = omega (arith, is)
count_put (Some tick) before after is = omega (arith, is)

-- how many there are, where one is taken out, or none
pub count_out : (was : Option ℕ) (before after : ℕ) → after + cond (is_some was) 1 0 ≡ before → after + cond (is_some was) 1 0 ≡ before + 0
count_out was before after is = omega (arith, is)
