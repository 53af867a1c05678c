-- Where a connection's links rest, a cache that was at rest before is at rest.
use Rattle.std.proofs.Common.{◌≡◌, ℕ, Bool, true, false, cond, ◌||◌, List, [], ◌∷◌, length, Option, Some, None, Ok, Err, nat_eq, refl, sym, ap, ◌∙◌, subst, arith}
use Rattle.std.specs.BTreeMap.{BTreeMap}
use Rattle.std.proofs.lemmas.Bool.{eqb-true}
use Rattle.std.proofs.lemmas.Bool.Decides.{nat_tests}
use Rattle.hc_transcript.specs.declared.record.Record.{Record}
use Rattle.hc_service.specs.declared.event.Happening.{Happening}
use Rattle.hc_service.specs.declared.event.Happening.TheVariants.{ClientOpened, ClientBytes, ClientEnd, OriginBytes, OriginEnd, OriginFailed, Stopping}
use Rattle.hc_service.specs.declared.action.Action.{Action}
use Rattle.hc_service.specs.declared.action.Action.TheVariants as action
use Rattle.hc_service.specs.declared.settings.CoreSettings.{CoreSettings}
use Rattle.hc_service.specs.Agreement.{History}
use Rattle.hc_service.specs.Follows.{forward_after}
use Rattle.hc_service.specs.Numbers.{is_later}
use Rattle.hc_service.specs.Runs.{Runs, StepResult}
use Rattle.hc_service.specs.State.{State}
use Rattle.hc_order.specs.declared.occurrence.Occurrence.{Occurrence}
use Rattle.hc_order.specs.declared.receiver.Receiver.TheVariants.{Client, Origin}
use Rattle.hc_order.specs.Log.{Move, carried}
use Rattle.hc_order.specs.Log.Move.{Before, Heard, Sent, Closed}
use Rattle.hc_order.specs.Mirrors.{MayHappen, Mirrors, is_connected, last_opened}
use Rattle.hc_order.specs.Passed.{AreOrderly, AreServed, events_of, passed}
use Rattle.hc_order.specs.Resting.{IsAtRest, ended_behind, ended_behind_all, open_behind, open_behind_all}
use Rattle.hc_order.proofs.RestLemmas.{runs_rest}
use Rattle.hc_connection.specs.Forwards.{NoneOpen, is_open_in}
use Rattle.hc_connection.specs.declared.client_side.ClientSide.{ClientSide}
use Rattle.hc_connection.specs.Connections.{HasPassed}
use Rattle.hc_connection.specs.Sides.{IsUntouched, Opens, Rests}
use Rattle.hc_connection.proofs.ForwardLemmas.{none_is}
use Rattle.hc_connection.specs.Moves.{AreOf, IsOf, earlier_or, first_in, is_closed_in, is_ended_in}
use Rattle.hc_links.specs.Telling.{occurs}

-- ---- the log tells of forwards and of ends as the events do

open_then : (f : ℕ) (actions : List Action) (log : List Move) → is_open_in f (carried actions log) ≡ forward_after f actions (is_open_in f log)
open_then f [] log = refl
open_then f (action.ToClient d octets ∷ actions) log = open_then f actions (Sent (Client d) octets ∷ log)
open_then f (action.CloseClient d ∷ actions) log = open_then f actions (Closed (Client d) ∷ log)
open_then f (action.Forward g octets ∷ actions) log = open_then f actions (Sent (Origin g) octets ∷ log)
open_then f (action.CloseForward g ∷ actions) log = open_then f actions (Closed (Origin g) ∷ log)
open_then f (action.Record r ∷ actions) log = open_then f actions log

open_heard : (f : ℕ) (occurrence : Occurrence) (log : List Move) → is_open_in f (Heard occurrence ∷ log) ≡ open_behind f occurrence.event.of (is_open_in f log)
open_heard f occurrence log = by occurrence.event.of
  where
    by : (happening : Happening) → is_open_in f (Heard (occurs occurrence.event.moment happening occurrence.reason) ∷ log) ≡ open_behind f happening (is_open_in f log)
    by (ClientOpened c) = refl
    by (ClientBytes c octets) = refl
    by (ClientEnd c) = refl
    by (OriginBytes g octets) = refl
    by (OriginEnd g) = refl
    by (OriginFailed g) = refl
    by Stopping = refl

open_passed : (f : ℕ) (occurrences : List Occurrence) (results : List StepResult) (log : List Move) → AreServed results
    → is_open_in f (passed occurrences results log) ≡ open_behind_all f (events_of occurrences) results (is_open_in f log)
open_passed f [] results log served = refl
open_passed f (occurrence ∷ occurrences) [] log served = refl
open_passed f (occurrence ∷ occurrences) (Ok actions ∷ results) log served =
    open_passed f occurrences results (carried actions.items (Heard occurrence ∷ log)) served
    ∙ ap (open_behind_all f (events_of occurrences) results) (open_then f actions.items (Heard occurrence ∷ log) ∙ ap (forward_after f actions.items) (open_heard f occurrence log))
open_passed f (occurrence ∷ occurrences) (Err step ∷ results) log served = absurd served

ended_then : (c : ℕ) (actions : List Action) (log : List Move) → is_ended_in c (carried actions log) ≡ is_ended_in c log
ended_then c [] log = refl
ended_then c (action.ToClient d octets ∷ actions) log = ended_then c actions (Sent (Client d) octets ∷ log)
ended_then c (action.CloseClient d ∷ actions) log = ended_then c actions (Closed (Client d) ∷ log)
ended_then c (action.Forward g octets ∷ actions) log = ended_then c actions (Sent (Origin g) octets ∷ log)
ended_then c (action.CloseForward g ∷ actions) log = ended_then c actions (Closed (Origin g) ∷ log)
ended_then c (action.Record r ∷ actions) log = ended_then c actions log

ended_heard : (c : ℕ) (occurrence : Occurrence) (log : List Move) → is_ended_in c (Heard occurrence ∷ log) ≡ ended_behind c occurrence.event.of (is_ended_in c log)
ended_heard c occurrence log = by occurrence.event.of
  where
    by : (happening : Happening) → is_ended_in c (Heard (occurs occurrence.event.moment happening occurrence.reason) ∷ log) ≡ ended_behind c happening (is_ended_in c log)
    by (ClientOpened d) = refl
    by (ClientBytes d octets) = refl
    by (ClientEnd d) = refl
    by (OriginBytes g octets) = refl
    by (OriginEnd g) = refl
    by (OriginFailed g) = refl
    by Stopping = refl

ended_passed : (c : ℕ) (occurrences : List Occurrence) (results : List StepResult) (log : List Move) → AreServed results
    → is_ended_in c (passed occurrences results log) ≡ ended_behind_all c (events_of occurrences) results (is_ended_in c log)
ended_passed c [] results log served = refl
ended_passed c (occurrence ∷ occurrences) [] log served = refl
ended_passed c (occurrence ∷ occurrences) (Ok actions ∷ results) log served =
    ended_passed c occurrences results (carried actions.items (Heard occurrence ∷ log)) served
    ∙ ap (ended_behind_all c (events_of occurrences) results) (ended_then c actions.items (Heard occurrence ∷ log) ∙ ended_heard c occurrence log)
ended_passed c (occurrence ∷ occurrences) (Err step ∷ results) log served = absurd served

-- ---- no other client's connection is open

false_true : false ≡ true → ⊥
false_true e = cc

its_own : (n c : ℕ) (log : List Move) → AreOf n log → is_connected c log ≡ true → c ≡ n
its_own n c [] own is = absurd (false_true is)
its_own n c (Before beginning ∷ log) own is = absurd (false_true is)
its_own n c (Heard occurrence ∷ log) own is = by occurrence.event.of own.0 is (λ was. its_own n c log own.1 was)
  where
    opened : (d : ℕ) (b : Bool) → nat_eq d c ≡ b → d ≡ n → cond b true (is_connected c log) ≡ true → (is_connected c log ≡ true → c ≡ n) → c ≡ n
    opened d true same of_it is rest = sym (eqb-true d c same) ∙ of_it
    opened d false other of_it is rest = rest is

    by : (happening : Happening) → IsOf n happening → is_connected c (Heard (occurs occurrence.event.moment happening occurrence.reason) ∷ log) ≡ true
        → (is_connected c log ≡ true → c ≡ n) → c ≡ n
    by (ClientOpened d) of_it is rest = opened d (nat_eq d c) refl of_it is rest
    by (ClientBytes d octets) of_it is rest = rest is
    by (ClientEnd d) of_it is rest = rest is
    by (OriginBytes g octets) of_it is rest = rest is
    by (OriginEnd g) of_it is rest = rest is
    by (OriginFailed g) of_it is rest = rest is
    by Stopping of_it is rest = absurd of_it
its_own n c (Sent to octets ∷ log) own is = its_own n c log own is
its_own n c (Closed (Client d) ∷ log) own is = by (nat_eq d c) is (λ was. its_own n c log own was)
  where
    by : (b : Bool) → cond b false (is_connected c log) ≡ true → (is_connected c log ≡ true → c ≡ n) → c ≡ n
    by true is rest = absurd (false_true is)
    by false is rest = rest is
its_own n c (Closed (Origin f) ∷ log) own is = its_own n c log own is

-- ---- what was closed isn't open again

-- the connection was opened last, and isn't open if it was closed
record StaysClosed (n : ℕ) (log : List Move) : Type 0 where
  last : last_opened log ≡ Some n
  closed : is_closed_in n log ≡ true → is_connected n log ≡ false

closed_then : (n : ℕ) (actions : List Action) (log : List Move) → StaysClosed n log → StaysClosed n (carried actions log)
closed_then n [] log stays = stays
closed_then n (action.ToClient d octets ∷ actions) log stays = closed_then n actions (Sent (Client d) octets ∷ log) (record { last = stays.last; closed = stays.closed })
closed_then n (action.CloseClient d ∷ actions) log stays = closed_then n actions (Closed (Client d) ∷ log) (record { last = stays.last; closed = by (nat_eq d n) })
  where
    by : (b : Bool) → (b || is_closed_in n log) ≡ true → cond b false (is_connected n log) ≡ false
    by true is = refl
    by false is = stays.closed is
closed_then n (action.Forward g octets ∷ actions) log stays = closed_then n actions (Sent (Origin g) octets ∷ log) (record { last = stays.last; closed = stays.closed })
closed_then n (action.CloseForward g ∷ actions) log stays = closed_then n actions (Closed (Origin g) ∷ log) (record { last = stays.last; closed = stays.closed })
closed_then n (action.Record r ∷ actions) log stays = closed_then n actions log stays

not_later : (n : ℕ) → is_later n (Some n) ≡ true → ⊥
not_later n is = grind (arith, nat_tests)

closed_heard : (room n : ℕ) (occurrence : Occurrence) (log : List Move) → MayHappen room occurrence.event.of log → IsOf n occurrence.event.of → StaysClosed n log → StaysClosed n (Heard occurrence ∷ log)
closed_heard room n occurrence log may of_it stays = by occurrence.event.of may of_it
  where
    by : (happening : Happening) → MayHappen room happening log → IsOf n happening → StaysClosed n (Heard (occurs occurrence.event.moment happening occurrence.reason) ∷ log)
    by (ClientOpened d) may of_it = absurd (not_later n (sym (ap (is_later n) stays.last) ∙ ap (λ (m : ℕ). is_later m (last_opened log)) (sym of_it) ∙ may.0))
    by (ClientBytes d octets) may of_it = record { last = stays.last; closed = stays.closed }
    by (ClientEnd d) may of_it = record { last = stays.last; closed = stays.closed }
    by (OriginBytes g octets) may of_it = record { last = stays.last; closed = stays.closed }
    by (OriginEnd g) may of_it = record { last = stays.last; closed = stays.closed }
    by (OriginFailed g) may of_it = record { last = stays.last; closed = stays.closed }
    by Stopping may of_it = absurd of_it

of_carried : (n : ℕ) (actions : List Action) (log : List Move) → AreOf n (carried actions log) → AreOf n log
of_carried n [] log own = own
of_carried n (action.ToClient d octets ∷ actions) log own = of_carried n actions (Sent (Client d) octets ∷ log) own
of_carried n (action.CloseClient d ∷ actions) log own = of_carried n actions (Closed (Client d) ∷ log) own
of_carried n (action.Forward g octets ∷ actions) log own = of_carried n actions (Sent (Origin g) octets ∷ log) own
of_carried n (action.CloseForward g ∷ actions) log own = of_carried n actions (Closed (Origin g) ∷ log) own
of_carried n (action.Record r ∷ actions) log own = of_carried n actions log own

of_passed : (n : ℕ) (occurrences : List Occurrence) (results : List StepResult) (log : List Move) → AreOf n (passed occurrences results log) → AreOf n log
of_passed n [] results log own = own
of_passed n (occurrence ∷ occurrences) [] log own = own
of_passed n (occurrence ∷ occurrences) (Ok actions ∷ results) log own =
    (of_carried n actions.items (Heard occurrence ∷ log) (of_passed n occurrences results (carried actions.items (Heard occurrence ∷ log)) own)).1
of_passed n (occurrence ∷ occurrences) (Err step ∷ results) log own = (of_passed n occurrences results (Heard occurrence ∷ log) own).1

closed_passed : (room n : ℕ) (occurrences : List Occurrence) (results : List StepResult) (log : List Move) → AreServed results → AreOrderly room occurrences results log
    → AreOf n (passed occurrences results log) → StaysClosed n log → StaysClosed n (passed occurrences results log)
closed_passed room n [] results log served order own stays = stays
closed_passed room n (occurrence ∷ occurrences) [] log served order own stays = stays
closed_passed room n (occurrence ∷ occurrences) (Ok actions ∷ results) log served order own stays =
    let of_it = (of_carried n actions.items (Heard occurrence ∷ log) (of_passed n occurrences results (carried actions.items (Heard occurrence ∷ log)) own)).0 in
    closed_passed room n occurrences results (carried actions.items (Heard occurrence ∷ log)) served order.1 own
    (closed_then n actions.items (Heard occurrence ∷ log) (closed_heard room n occurrence log order.0 of_it stays))
closed_passed room n (occurrence ∷ occurrences) (Err step ∷ results) log served order own stays = absurd served

-- ---- what happened first

first_carried : (actions : List Action) (log : List Move) → first_in (carried actions log) ≡ first_in log
first_carried [] log = refl
first_carried (action.ToClient d octets ∷ actions) log = first_carried actions (Sent (Client d) octets ∷ log)
first_carried (action.CloseClient d ∷ actions) log = first_carried actions (Closed (Client d) ∷ log)
first_carried (action.Forward g octets ∷ actions) log = first_carried actions (Sent (Origin g) octets ∷ log)
first_carried (action.CloseForward g ∷ actions) log = first_carried actions (Closed (Origin g) ∷ log)
first_carried (action.Record r ∷ actions) log = first_carried actions log

first_passed : (occurrences : List Occurrence) (results : List StepResult) (log : List Move) (first : Happening) → first_in log ≡ Some first → first_in (passed occurrences results log) ≡ Some first
first_passed [] results log first is = is
first_passed (occurrence ∷ occurrences) [] log first is = is
first_passed (occurrence ∷ occurrences) (Ok actions ∷ results) log first is =
    first_passed occurrences results (carried actions.items (Heard occurrence ∷ log)) first
    (first_carried actions.items (Heard occurrence ∷ log) ∙ ap (λ (o : Option Happening). earlier_or o occurrence.event.of) is)
first_passed (occurrence ∷ occurrences) (Err step ∷ results) log first is = first_passed occurrences results (Heard occurrence ∷ log) first (ap (λ (o : Option Happening). earlier_or o occurrence.event.of) is)

same_first : (a b : Happening) → Some a ≡ Some b → a ≡ b
same_first a b e = cc

none_first : (a : Happening) → None ≡ Some a → ⊥
none_first a e = cc

-- of a connection of which nothing had happened before
closed_since : (room n : ℕ) (occurrences : List Occurrence) (results : List StepResult) (log : List Move) → AreServed results → AreOrderly room occurrences results log
    → AreOf n (passed occurrences results log) → first_in log ≡ None → is_closed_in n log ≡ false → first_in (passed occurrences results log) ≡ Some (ClientOpened n)
    → StaysClosed n (passed occurrences results log)
closed_since room n [] results log served order own none closed first = absurd (none_first (ClientOpened n) (sym none ∙ first))
closed_since room n (occurrence ∷ occurrences) [] log served order own none closed first = absurd (none_first (ClientOpened n) (sym none ∙ first))
closed_since room n (occurrence ∷ occurrences) (Ok actions ∷ results) log served order own none closed first =
    closed_passed room n occurrences results (carried actions.items (Heard occurrence ∷ log)) served order.1 own
    (closed_then n actions.items (Heard occurrence ∷ log) (opened occurrence.event.of (sym (same_first occurrence.event.of (ClientOpened n) (sym now ∙ first)))))
  where
    now : first_in (passed occurrences results (carried actions.items (Heard occurrence ∷ log))) ≡ Some occurrence.event.of
    now =
        first_passed occurrences results (carried actions.items (Heard occurrence ∷ log)) occurrence.event.of
        (first_carried actions.items (Heard occurrence ∷ log) ∙ ap (λ (o : Option Happening). earlier_or o occurrence.event.of) none)

    opened : (happening : Happening) → ClientOpened n ≡ happening → StaysClosed n (Heard (occurs occurrence.event.moment happening occurrence.reason) ∷ log)
    opened happening is =
        subst (λ (happening : Happening). StaysClosed n (Heard (occurs occurrence.event.moment happening occurrence.reason) ∷ log)) is
        (record { last = refl; closed = λ was. absurd (false_true (sym closed ∙ was)) })
closed_since room n (occurrence ∷ occurrences) (Err step ∷ results) log served order own none closed first = absurd served

-- ---- all

module _ (most room : ℕ) (settings : CoreSettings) (occurrences : List Occurrence) (results : List StepResult) (s s' : State) (h : History) (records : List Record) (n : ℕ) (log : List Move)
    (rest : IsAtRest s) (untouched : IsUntouched n log) (runs : Runs settings s h (events_of occurrences) results records (Some s')) (served : AreServed results)
    (order : AreOrderly most occurrences results log) (mirrors : Mirrors room s' (passed occurrences results log)) (own : AreOf n (passed occurrences results log))
    (first : first_in (passed occurrences results log) ≡ Some (ClientOpened n)) where
  -- by what is heard of the client
  ended_by_then : (b : Bool) → is_ended_in n (passed occurrences results log) ≡ b → cond b true (is_closed_in n (passed occurrences results log)) ≡ true
      → (c : ℕ) → c ≡ n → is_connected c (passed occurrences results log) ≡ true → ended_behind_all c (events_of occurrences) results false ≡ true
  ended_by_then true is heard c same connected =
      subst (λ (m : ℕ). ended_behind_all m (events_of occurrences) results false ≡ true) (sym same)
      (ap (ended_behind_all n (events_of occurrences) results) (sym untouched.ended) ∙ sym (ended_passed n occurrences results log served) ∙ is)
  ended_by_then false is heard c same connected =
      absurd (false_true (sym ((closed_since most n occurrences results log served order own untouched.first untouched.closed first).closed heard)
      ∙ subst (λ (m : ℕ). is_connected m (passed occurrences results log) ≡ true) same connected))

  connection_rests : NoneOpen (passed occurrences results log) → cond (is_ended_in n (passed occurrences results log)) true (is_closed_in n (passed occurrences results log)) ≡ true → IsAtRest s'
  connection_rests quiet heard =
      runs_rest settings (events_of occurrences) results s s' h records (λ f. is_open_in f log) (λ c. false) rest (λ c was. absurd (false_true was)) runs
      (λ f. sym (open_passed f occurrences results log served) ∙ quiet f)
      (λ c is.
      let connected = sym (mirrors.connections c) ∙ is in
      ended_by_then (is_ended_in n (passed occurrences results log)) refl heard c (its_own n c (passed occurrences results log) own connected) connected)

pub links_rest : {C L : Type 0} (client_gave client_got : C → List ℕ → Type 0) (client_was_read : C → ℕ → Type 0) (count : C → ℕ) (origin_gave origin_got : L → List ℕ → Type 0)
    (may_tell : ℕ → Type 0) (opened : Bool) (client : ClientSide C) (links : BTreeMap ℕ (Option L)) (most room : ℕ) (settings : CoreSettings) (occurrences : List Occurrence)
    (results : List StepResult) (s s' : State) (h : History) (records : List Record) (log : List Move) → IsAtRest s → IsUntouched client.number log
    → Runs settings s h (events_of occurrences) results records (Some s') → AreServed results → AreOrderly most occurrences results log → Mirrors room s' (passed occurrences results log)
    → HasPassed client_gave client_got client_was_read count origin_gave origin_got may_tell opened client links (passed occurrences results log)
    → Rests opened (length links.entries) client → IsAtRest s'
links_rest client_gave client_got client_was_read count origin_gave origin_got may_tell opened client links most room settings occurrences results s s' h records log rest untouched runs served order mirrors passed_there
    rests =
    let tells = passed_there.0 in
    connection_rests most room settings occurrences results s s' h records client.number log rest untouched runs served order mirrors tells.own
    (subst (λ (b : Bool). Opens b client.number (passed occurrences results log)) rests.0 passed_there.1)
    (none_is origin_gave origin_got links rests.1 (passed occurrences results log) passed_there.3)
    (ap (λ (b : Bool). cond b true (is_closed_in client.number (passed occurrences results log))) (sym tells.ended)
    ∙ ap (λ (b : Bool). cond client.ended true b) (sym tells.closed) ∙ rests.2)
