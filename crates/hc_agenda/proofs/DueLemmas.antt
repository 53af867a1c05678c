-- The tables of who is due tell the same.
use Rattle.std.proofs.Common.{◌≡◌, ℕ, Bool, true, false, not, ◌&&◌, cond, eqb, Option, Some, None, BTreeMap, BTreeSet, Ordering, Less, Equal, Greater, nat_cmp, is_eq, refl, sym, ap, ◌∙◌, true≢false}
use Rattle.std.specs.BTreeMap.{get, is_at}
use Rattle.std.specs.BTreeSet.{contains}
use Rattle.std.specs.Cmp.{unsigned_ties}
use Rattle.std.specs.Ordering.{ordering_then}
use Rattle.std.proofs.lemmas.Bool.{and_parts, eqb-true, eq-eqb}
use Rattle.std.proofs.lemmas.Cmp.{tied_itself}
use Rattle.hc_agenda.specs.contracts.deadline.TimeoutOrd.TheImpl as timeout_order
use Rattle.hc_agenda.specs.contracts.deadline.TimeoutOrd.TheImpl.Laws.{matches_eq-law, total-law}
use Rattle.hc_agenda.specs.contracts.deadline.Timeout.{the_type}
use Rattle.hc_agenda.specs.declared.deadline.Deadline.{Deadline}
use Rattle.hc_agenda.specs.declared.deadline.Timeout.{Timeout}
use Rattle.hc_agenda.specs.Due.{AreQueued, TakesOut, by_number, by_time, is_deadline, is_tick, same_number, same_timeout}
use denote.Enum.Bare.{same_true}

-- ---- time-outs and numbers that are the same

abbrev by_timeout : Timeout → Timeout → Ordering
by_timeout = (timeout_order.ghosts).cmp

-- the deadline of a time-out, tick and number
abbrev pub made : Timeout → (tick number : ℕ) → Deadline
made timeout tick number = record { timeout = timeout; tick = tick; number = number }

pub same_timeout_one : (t s : Timeout) → same_timeout t s ≡ true → t ≡ s
same_timeout_one t s same = same_true the_type tt t s same

pub same_timeout_itself : (t : Timeout) → same_timeout t t ≡ true
same_timeout_itself t = matches_eq-law t t ∙ ap is_eq (tied_itself total-law t)

-- what is told of a number is told of the same one
met : {A : Type 0} (told : Timeout → ℕ → A) (t : Timeout) (n : ℕ) (s : Timeout) (m : ℕ) → same_number t n s m ≡ true → told t n ≡ told s m
met told t n s m same =
    let parts = and_parts (same_timeout t s) (eqb n m) same in
    ap (λ (x : Timeout). told x n) (same_timeout_one t s parts.0) ∙ ap (told s) (eqb-true n m parts.1)

both_tie : (one other : Ordering) → is_eq (ordering_then one other) ≡ (is_eq one && is_eq other)
both_tie Less other = refl
both_tie Equal other = refl
both_tie Greater other = refl

-- the order of numbers ties those that are the same
pub tied : (t : Timeout) (n : ℕ) (s : Timeout) (m : ℕ) → is_at (by_number (t, n)) (s, m) ≡ same_number t n s m
tied t n s m =
    both_tie (by_timeout t s) (nat_cmp n m)
    ∙ ap (λ (b : Bool). b && is_eq (nat_cmp n m)) (sym (matches_eq-law t s))
    ∙ ap (λ (b : Bool). same_timeout t s && b) (sym (unsigned_ties n m))

last_swapped : (a b c : Bool) → (a && (b && c)) ≡ ((a && c) && b)
last_swapped false b c = refl
last_swapped true false false = refl
last_swapped true false true = refl
last_swapped true true false = refl
last_swapped true true true = refl

-- and that of deadlines
pub tied_deadline : (t : Timeout) (u n : ℕ) (d : Deadline) → is_at (by_time (made t u n)) d ≡ is_deadline t (Some u) n d
tied_deadline t u n d =
    both_tie (by_timeout t d.timeout) (ordering_then (nat_cmp u d.tick) (nat_cmp n d.number))
    ∙ ap (λ (b : Bool). is_eq (by_timeout t d.timeout) && b) (both_tie (nat_cmp u d.tick) (nat_cmp n d.number))
    ∙ ap (λ (b : Bool). b && (is_eq (nat_cmp u d.tick) && is_eq (nat_cmp n d.number))) (sym (matches_eq-law t d.timeout))
    ∙ ap (λ (b : Bool). same_timeout t d.timeout && (b && is_eq (nat_cmp n d.number))) (sym (unsigned_ties u d.tick))
    ∙ ap (λ (b : Bool). same_timeout t d.timeout && (eqb u d.tick && b)) (sym (unsigned_ties n d.number))
    ∙ last_swapped (same_timeout t d.timeout) (eqb u d.tick) (eqb n d.number)

-- ---- what a change of both tables leaves

nothing_left : (e : Bool) → cond e false e ≡ false
nothing_left true = refl
nothing_left false = refl

-- the deadline of a number is taken out, where there is one
gone : (b : Bool) (old x : Option ℕ) (tick : ℕ) (c c' : Bool) → (b ≡ true → x ≡ old) → c ≡ is_tick x tick
    → c' ≡ cond (b && is_tick old tick) false c → c' ≡ is_tick (cond b None x) tick
gone true old x tick c c' same was is = is ∙ ap (cond (is_tick old tick) false) (was ∙ ap (λ (o : Option ℕ). is_tick o tick) (same refl)) ∙ nothing_left (is_tick old tick)
gone false old x tick c c' same was is = is ∙ was

moved : (p e : Bool) → (p ≡ true → e ≡ true → ⊥) → cond p false (cond e true p) ≡ e
moved true true apart = absurd (apart refl refl)
moved true false apart = refl
moved false true apart = refl
moved false false apart = refl

-- a deadline is put, which didn't stand there, and the one of its number is taken out, where there was one
put_there : (b : Bool) (old x : Option ℕ) (due tick : ℕ) (c mid c' : Bool) → (b ≡ true → x ≡ old) → is_tick old due ≡ false → c ≡ is_tick x tick
    → mid ≡ cond (b && eqb due tick) true c → c' ≡ cond (b && is_tick old tick) false mid → c' ≡ is_tick (cond b (Some due) x) tick
put_there true old x due tick c mid c' same other was put is =
    let before : c ≡ is_tick old tick = was ∙ ap (λ (o : Option ℕ). is_tick o tick) (same refl) in
    is ∙ ap (cond (is_tick old tick) false) (put ∙ ap (cond (eqb due tick) true) before)
    ∙ moved (is_tick old tick) (eqb due tick) (λ p e. true≢false (sym p ∙ ap (is_tick old) (sym (eqb-true due tick e)) ∙ other))
put_there false old x due tick c mid c' same other was put is = is ∙ put ∙ was

-- what was new to a queue didn't stand there
pub new_to_it : (is_new there : Bool) → is_new ≡ not there → is_new ≡ true → there ≡ false
new_to_it is_new true is new = absurd (true≢false (sym new ∙ is))
new_to_it is_new false is new = refl

-- ---- the tables

-- whether the queue has a deadline, once one was put there
abbrev pub Puts : Deadline → (before after : BTreeSet Deadline) → Type 0
Puts put before after = (d : Deadline) → contains by_time after d ≡ cond (is_at (by_time put) d) true (contains by_time before d)

-- what a table has, once a tick was put there, or taken out
abbrev pub PutsTick : Timeout → ℕ → Option ℕ → (before after : BTreeMap (Timeout × ℕ) ℕ) → Type 0
PutsTick t n tick before after = (q : Timeout × ℕ) → get by_number after q ≡ cond (is_at (by_number (t, n)) q) tick (get by_number before q)

-- the same by what is the same
pub tick_put : (t : Timeout) (n : ℕ) (tick : Option ℕ) (before after : BTreeMap (Timeout × ℕ) ℕ) → PutsTick t n tick before after
    → (s : Timeout) (m : ℕ) → get by_number after (s, m) ≡ cond (same_number t n s m) tick (get by_number before (s, m))
tick_put t n tick before after puts s m = puts (s, m) ∙ ap (λ (b : Bool). cond b tick (get by_number before (s, m))) (tied t n s m)

deadline_put : (t : Timeout) (u n : ℕ) (before after : BTreeSet Deadline) → Puts (made t u n) before after
    → (d : Deadline) → contains by_time after d ≡ cond (is_deadline t (Some u) n d) true (contains by_time before d)
deadline_put t u n before after puts d = puts d ∙ ap (λ (b : Bool). cond b true (contains by_time before d)) (tied_deadline t u n d)

module _ (queue : BTreeSet Deadline) (ticks : BTreeMap (Timeout × ℕ) ℕ) (are : AreQueued queue ticks) where
  -- a number that is due stands in the queue
  pub stands : (t : Timeout) (u n : ℕ) → get by_number ticks (t, n) ≡ Some u → contains by_time queue (made t u n) ≡ true
  stands t u n due = are (made t u n) ∙ ap (λ (o : Option ℕ). is_tick o u) due ∙ eq-eqb u u refl

  module _ (queue' : BTreeSet Deadline) (ticks' : BTreeMap (Timeout × ℕ) ℕ) (t : Timeout) (n : ℕ) where
    -- a number is due no more
    pub taken_out : (old : Option ℕ) → old ≡ get by_number ticks (t, n) → PutsTick t n None ticks ticks' → TakesOut t old n queue queue' → AreQueued queue' ticks'
    taken_out old was puts takes d =
        gone (same_number t n d.timeout d.number) old (get by_number ticks (d.timeout, d.number)) d.tick (contains by_time queue d) (contains by_time queue' d)
        (λ same. sym (met (λ s m. get by_number ticks (s, m)) t n d.timeout d.number same) ∙ sym was) (are d) (takes d)
        ∙ ap (λ (o : Option ℕ). is_tick o d.tick) (sym (tick_put t n None ticks ticks' puts d.timeout d.number))

    -- a number is due then, and no more at another time
    pub put_anew : (u : ℕ) (mid : BTreeSet Deadline) (old : Option ℕ) → contains by_time queue (made t u n) ≡ false → Puts (made t u n) queue mid
        → old ≡ get by_number ticks (t, n) → PutsTick t n (Some u) ticks ticks' → TakesOut t old n mid queue' → AreQueued queue' ticks'
    put_anew u mid old fresh put was puts takes d =
        put_there (same_number t n d.timeout d.number) old (get by_number ticks (d.timeout, d.number)) u d.tick (contains by_time queue d) (contains by_time mid d) (contains by_time queue' d)
        (λ same. sym (met (λ s m. get by_number ticks (s, m)) t n d.timeout d.number same) ∙ sym was)
        (ap (λ (o : Option ℕ). is_tick o u) was ∙ sym (are (made t u n)) ∙ fresh)
        (are d) (deadline_put t u n queue mid put d) (takes d)
        ∙ ap (λ (o : Option ℕ). is_tick o d.tick) (sym (tick_put t n (Some u) ticks ticks' puts d.timeout d.number))
