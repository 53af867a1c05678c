-- What happens next at a connection may happen by the log.
use Rattle.std.proofs.Common.{◌≡◌, ℕ, ◌<◌, ◌==◌, ◌||◌, Bool, true, false, cond, List, [], ◌∷◌, Option, Some, None, nat_eq, refl, sym, ap, ◌∙◌, subst, arith}
use Rattle.std.proofs.lemmas.Bool.Decides.{nat_tests}
use Rattle.hc_service.specs.declared.event.Happening.{Happening}
use Rattle.hc_service.specs.declared.event.Happening.TheVariants.{ClientOpened, ClientBytes, ClientEnd, OriginBytes, OriginEnd, OriginFailed, Stopping}
use Rattle.hc_service.specs.Follows.{opened_by, lost_by}
use Rattle.hc_order.specs.declared.occurrence.Occurrence.{Occurrence}
use Rattle.hc_order.specs.Log.{Move}
use Rattle.hc_order.specs.Log.Move.{Before, Closed, Heard, Sent}
use Rattle.hc_order.specs.Mirrors.{MayHappen, is_connected, is_its, is_on, is_underway, opened_in}
use Rattle.hc_connection.specs.Forwards.{IsNext, ends, is_open_in}
use Rattle.hc_connection.specs.Moves.{AreOf, IsHeard, IsOf, ReadsInTime, earlier_or, first_in, is_closed_in, is_end_of, is_of_client, most_replies, replies_in}
use Rattle.hc_connection.specs.Sides.{Opens}

-- ---- the client's connection

both_false : (a b : Bool) → (a || b) ≡ false → (a ≡ false) × (b ≡ false)
both_false true b is = absurd (cc)
both_false false b is = (refl, is)

kept_open : (c : ℕ) (of : Happening) → opened_by c of true ≡ true
kept_open c (ClientOpened d) = either (nat_eq d c)
  where
    either : (b : Bool) → cond b true true ≡ true
    either true = refl
    either false = refl
kept_open c (ClientBytes d octets) = refl
kept_open c (ClientEnd d) = refl
kept_open c (OriginBytes f octets) = refl
kept_open c (OriginEnd f) = refl
kept_open c (OriginFailed f) = refl
kept_open c Stopping = refl

same_itself : (n : ℕ) → nat_eq n n ≡ true
same_itself n = grind (arith, nat_tests)

opens_it : (c : ℕ) (was : Bool) → opened_by c (ClientOpened c) was ≡ true
opens_it c was = ap (λ (b : Bool). cond b true was) (same_itself c)

-- what was opened first, and wasn't closed since, is open
opened_connected : (c : ℕ) (log : List Move) → first_in log ≡ Some (ClientOpened c) → is_closed_in c log ≡ false → is_connected c log ≡ true
opened_connected c [] first unclosed = absurd (cc)
opened_connected c (Before beginning ∷ log) first unclosed = absurd (cc)
opened_connected c (Heard occurrence ∷ log) first unclosed = by (first_in log) refl first (λ earlier. opened_connected c log earlier unclosed)
  where
    by : (o : Option Happening) → first_in log ≡ o → earlier_or o occurrence.event.of ≡ Some (ClientOpened c) → (first_in log ≡ Some (ClientOpened c) → is_connected c log ≡ true)
        → opened_by c occurrence.event.of (is_connected c log) ≡ true
    by (Some earlier) is same before = ap (opened_by c occurrence.event.of) (before (is ∙ same)) ∙ kept_open c occurrence.event.of
    by None is same before = ap (λ (of : Happening). opened_by c of (is_connected c log)) (some_same occurrence.event.of (ClientOpened c) same) ∙ opens_it c (is_connected c log)
      where
        some_same : (a b : Happening) → Some a ≡ Some b → a ≡ b
        some_same a b e = cc
opened_connected c (Sent to octets ∷ log) first unclosed = opened_connected c log first unclosed
opened_connected c (Closed link ∷ log) first unclosed =
    let both = both_false (is_its c link) (is_closed_in c log) unclosed in
    ap (λ (b : Bool). cond b false (is_connected c log)) both.0 ∙ opened_connected c log first both.1

-- where nothing has happened no connection was opened
none_opened : (log : List Move) → first_in log ≡ None → opened_in log ≡ 0
none_opened [] none = refl
none_opened (Before beginning ∷ log) none = refl
none_opened (Heard occurrence ∷ log) none = absurd (by (first_in log) none)
  where
    by : (o : Option Happening) → earlier_or o occurrence.event.of ≡ None → ⊥
    by (Some earlier) is = cc
    by None is = cc
none_opened (Sent to octets ∷ log) none = none_opened log none
none_opened (Closed link ∷ log) none = none_opened log none

-- ---- forwards

still_underway : (f : ℕ) (of : Happening) (was now : Bool) → (was ≡ true → now ≡ true) → cond (ends f of) false was ≡ true → lost_by f of now ≡ true
still_underway f (ClientOpened d) was now on is = on is
still_underway f (ClientBytes d octets) was now on is = on is
still_underway f (ClientEnd d) was now on is = on is
still_underway f (OriginBytes g octets) was now on is = on is
still_underway f (OriginEnd g) was now on is = on (by (nat_eq g f) is)
  where
    by : (b : Bool) → cond b false was ≡ true → was ≡ true
    by true e = absurd (cc)
    by false e = e
still_underway f (OriginFailed g) was now on is = by (nat_eq g f) is
  where
    by : (b : Bool) → cond b false was ≡ true → cond b false now ≡ true
    by true e = absurd (cc)
    by false e = on e
still_underway f Stopping was now on is = on is

by_sent : (b was now : Bool) → (was ≡ true → now ≡ true) → cond b true was ≡ true → cond b true now ≡ true
by_sent true was now on is = refl
by_sent false was now on is = on is

by_closed : (b was now : Bool) → (was ≡ true → now ≡ true) → cond b false was ≡ true → cond b false now ≡ true
by_closed true was now on is = absurd (cc)
by_closed false was now on is = on is

-- an open forward is underway: its end alone leaves it so
open_underway : (f : ℕ) (log : List Move) → is_open_in f log ≡ true → is_underway f log ≡ true
open_underway f [] is = absurd (cc)
open_underway f (Before beginning ∷ log) is = absurd (cc)
open_underway f (Heard occurrence ∷ log) is = still_underway f occurrence.event.of (is_open_in f log) (is_underway f log) (open_underway f log) is
open_underway f (Sent to octets ∷ log) is = by_sent (is_on f to) (is_open_in f log) (is_underway f log) (open_underway f log) is
open_underway f (Closed link ∷ log) is = by_closed (is_on f link) (is_open_in f log) (is_underway f log) (open_underway f log) is

-- ---- what happens next

-- the client opens its connection
pub opening_may : (opened : Bool) (c : ℕ) (occurrence : Occurrence) (log : List Move) → opened ≡ false → occurrence.event.of ≡ ClientOpened c → Opens opened c log → MayHappen 1 occurrence.event.of log
opening_may true c occurrence log none is o = absurd (cc)
opening_may false c occurrence log none is o =
    subst (λ (of : Happening). MayHappen 1 of log) (sym is) (o.1, (let zero = none_opened log o.0 in omega (arith, zero)))

-- anything else
pub next_may : (opened : Bool) (c : ℕ) (occurrence : Occurrence) (log : List Move) → opened ≡ true → IsNext occurrence.event.of log → Opens opened c log
    → AreOf c (Heard occurrence ∷ log) → ReadsInTime c (Heard occurrence ∷ log) → MayHappen 1 occurrence.event.of log
next_may false c occurrence log was next o own in_time = absurd (cc)
next_may true c occurrence log was next o own in_time = by occurrence.event.of next own.0 in_time.0 in_time.1
  where
    connected : (d : ℕ) → d ≡ c → is_closed_in c log ≡ false → is_connected d log ≡ true
    connected d same unclosed = ap (λ (n : ℕ). is_connected n log) same ∙ opened_connected c log o unclosed

    first_none : first_in log ≡ None → ⊥
    first_none none = some_none (sym o ∙ none)
      where
        some_none : Some (ClientOpened c) ≡ None → ⊥
        some_none e = cc

    by : (of : Happening) → IsNext of log → IsOf c of → (is_of_client of ≡ true → (replies_in c log < most_replies) × IsHeard c log)
        → (is_end_of c of ≡ true → IsHeard c log) → MayHappen 1 of log
    by (ClientOpened d) next its read end = absurd (first_none next)
    by (ClientBytes d octets) next its read end = connected d its (read refl).1.1
    by (ClientEnd d) next its read end = connected d its (end (ap (λ (n : ℕ). n == c) its ∙ same_itself c)).1
    by (OriginBytes f octets) next its read end = open_underway f log next.0
    by (OriginEnd f) next its read end = open_underway f log next.0
    by (OriginFailed f) next its read end = open_underway f log next
    by Stopping next its read end = absurd its
