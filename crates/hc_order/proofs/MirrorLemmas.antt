-- What the log leaves open is what is open in the cache.
use Rattle.std.proofs.Common.{◌≡◌, ℕ, ◌+◌, ◌<◌, Bool, true, false, cond, not, List, [], ◌∷◌, Option, Some, None, nat_eq, nat_lt, nat_le, refl, sym, ap, ◌∙◌, arith}
use Rattle.std.specs.Prelude.{is_some}
use Rattle.std.specs.FinMap.{len}
use Rattle.std.proofs.lemmas.Bool.Decides.{nat_tests}
use Rattle.hc_transcript.specs.Limits.{greatest_moment}
use Rattle.hc_service.specs.declared.event.Event.{Event}
use Rattle.hc_service.specs.declared.event.Happening.{Happening}
use Rattle.hc_service.specs.declared.event.Happening.TheVariants.{ClientOpened, ClientBytes, ClientEnd, OriginBytes, OriginEnd, OriginFailed, Stopping}
use Rattle.hc_service.specs.declared.action.Action.{Action}
use Rattle.hc_service.specs.declared.action.Action.TheVariants as action
use Rattle.hc_service.specs.declared.fault.StepFault.TheVariants.{MomentTooLarge, UnknownNumber, TooManyConnections}
use Rattle.hc_service.specs.declared.settings.CoreSettings.{CoreSettings}
use Rattle.hc_service.specs.Numbers.{is_later}
use Rattle.hc_service.specs.State.{State}
use Rattle.hc_service.specs.Serves.{Serves, first_fault, is_full, is_known}
use Rattle.hc_service.specs.Follows.{connection_after, forward_after, closes_in, opened_by, lost_by, last_by, Follows}
use Rattle.hc_order.specs.declared.occurrence.Occurrence.{Occurrence}
use Rattle.hc_order.specs.declared.receiver.Receiver.TheVariants.{Client, Origin}
use Rattle.hc_order.specs.Log.{Move, carried}
use Rattle.hc_order.specs.Log.Move.{Heard, Sent, Closed}
use Rattle.hc_order.specs.Mirrors.{is_connected, is_underway, opened_in, closed_in, last_opened, Mirrors, MayHappen, moment_fault}
use Rattle.hc_service.proofs.FollowLemmas.{event_follows}

-- ---- actions that are carried out

connected_then : (c : ℕ) (actions : List Action) (log : List Move) → is_connected c (carried actions log) ≡ connection_after c actions (is_connected c log)
connected_then c [] log = refl
connected_then c (action.ToClient d octets ∷ actions) log = connected_then c actions (Sent (Client d) octets ∷ log)
connected_then c (action.CloseClient d ∷ actions) log = connected_then c actions (Closed (Client d) ∷ log)
connected_then c (action.Forward f octets ∷ actions) log = connected_then c actions (Sent (Origin f) octets ∷ log)
connected_then c (action.CloseForward f ∷ actions) log = connected_then c actions (Closed (Origin f) ∷ log)
connected_then c (action.Record r ∷ actions) log = connected_then c actions log

underway_then : (f : ℕ) (actions : List Action) (log : List Move) → is_underway f (carried actions log) ≡ forward_after f actions (is_underway f log)
underway_then f [] log = refl
underway_then f (action.ToClient d octets ∷ actions) log = underway_then f actions (Sent (Client d) octets ∷ log)
underway_then f (action.CloseClient d ∷ actions) log = underway_then f actions (Closed (Client d) ∷ log)
underway_then f (action.Forward g octets ∷ actions) log = underway_then f actions (Sent (Origin g) octets ∷ log)
underway_then f (action.CloseForward g ∷ actions) log = underway_then f actions (Closed (Origin g) ∷ log)
underway_then f (action.Record r ∷ actions) log = underway_then f actions log

opened_then : (actions : List Action) (log : List Move) → opened_in (carried actions log) ≡ opened_in log
opened_then [] log = refl
opened_then (action.ToClient d octets ∷ actions) log = opened_then actions (Sent (Client d) octets ∷ log)
opened_then (action.CloseClient d ∷ actions) log = opened_then actions (Closed (Client d) ∷ log)
opened_then (action.Forward f octets ∷ actions) log = opened_then actions (Sent (Origin f) octets ∷ log)
opened_then (action.CloseForward f ∷ actions) log = opened_then actions (Closed (Origin f) ∷ log)
opened_then (action.Record r ∷ actions) log = opened_then actions log

last_then : (actions : List Action) (log : List Move) → last_opened (carried actions log) ≡ last_opened log
last_then [] log = refl
last_then (action.ToClient d octets ∷ actions) log = last_then actions (Sent (Client d) octets ∷ log)
last_then (action.CloseClient d ∷ actions) log = last_then actions (Closed (Client d) ∷ log)
last_then (action.Forward f octets ∷ actions) log = last_then actions (Sent (Origin f) octets ∷ log)
last_then (action.CloseForward f ∷ actions) log = last_then actions (Closed (Origin f) ∷ log)
last_then (action.Record r ∷ actions) log = last_then actions log

closed_then : (actions : List Action) (log : List Move) → closed_in (carried actions log) ≡ closes_in actions + closed_in log
closed_then [] log = omega arith
closed_then (action.ToClient d octets ∷ actions) log = closed_then actions (Sent (Client d) octets ∷ log)
closed_then (action.CloseClient d ∷ actions) log = let rest = closed_then actions (Closed (Client d) ∷ log) in omega (arith, rest)
closed_then (action.Forward f octets ∷ actions) log = closed_then actions (Sent (Origin f) octets ∷ log)
closed_then (action.CloseForward f ∷ actions) log = let rest = closed_then actions (Closed (Origin f) ∷ log) in omega (arith, rest)
closed_then (action.Record r ∷ actions) log = closed_then actions log

-- what isn't open isn't opened by actions
never_connected : (c : ℕ) (actions : List Action) → connection_after c actions false ≡ false
never_connected c [] = refl
never_connected c (action.ToClient d octets ∷ actions) = never_connected c actions
never_connected c (action.CloseClient d ∷ actions) = ap (connection_after c actions) (either (nat_eq d c)) ∙ never_connected c actions
  where
    either : (b : Bool) → cond b false false ≡ false
    either true = refl
    either false = refl
never_connected c (action.Forward f octets ∷ actions) = never_connected c actions
never_connected c (action.CloseForward f ∷ actions) = never_connected c actions
never_connected c (action.Record r ∷ actions) = never_connected c actions

-- ---- numbers of connections rise

later_than : (d c : ℕ) (last : Option ℕ) → is_later c last ≡ true → is_later d (Some c) ≡ true → is_later d last ≡ true
later_than d c None first second = refl
later_than d c (Some last) first second = grind (arith, nat_tests)

not_itself : (c d : ℕ) → is_later d (Some c) ≡ true → nat_eq c d ≡ false
not_itself c d later = grind (arith, nat_tests)

fresh_by : (happening : Happening) (last : Option ℕ) (d : ℕ) (was : Bool) → ((c : ℕ) → happening ≡ ClientOpened c → is_later c last ≡ true) → (is_later d last ≡ true → was ≡ false)
    → is_later d (last_by happening last) ≡ true → opened_by d happening was ≡ false
fresh_by (ClientOpened c) last d was new before later = ap (λ (b : Bool). cond b true was) (not_itself c d later) ∙ before (later_than d c last (new c refl) later)
fresh_by (ClientBytes c octets) last d was new before later = before later
fresh_by (ClientEnd c) last d was new before later = before later
fresh_by (OriginBytes f octets) last d was new before later = before later
fresh_by (OriginEnd f) last d was new before later = before later
fresh_by (OriginFailed f) last d was new before later = before later
fresh_by Stopping last d was new before later = before later

-- ---- an event that was served

none_of : {X : Type 0} (o : Option X) → is_some o ≡ false → o ≡ None
none_of None is = refl
none_of (Some x) is = absurd (cc)

known_of : (event : Event) (s : State) → first_fault event s ≡ None → is_known event.of s ≡ true
known_of event s is = by (nat_lt greatest_moment event.moment) (is_known event.of s) is
  where
    by : (late known : Bool) → cond late (Some MomentTooLarge) (cond (not known) (Some UnknownNumber) (cond (is_full event.of s) (Some TooManyConnections) None)) ≡ None → known ≡ true
    by true known e = absurd (cc)
    by false true e = refl
    by false false e = absurd (cc)

pub event_mirrors : (room : ℕ) (settings : CoreSettings) (occurrence : Occurrence) (s : State) (actions : List Action) (s' : State) (log : List Move) → Mirrors room s log → Serves settings occurrence.event s actions s'
    → Mirrors room s' (carried actions (Heard occurrence ∷ log))
event_mirrors room settings occurrence s actions s' log m v = record {
  connections = λ c. f.connections c ∙ ap (λ (b : Bool). connection_after c actions (opened_by c occurrence.event.of b)) (m.connections c) ∙ sym (connected_then c actions (Heard occurrence ∷ log));
  forwards = λ g. f.forwards g ∙ ap (λ (b : Bool). forward_after g actions (lost_by g occurrence.event.of b)) (m.forwards g) ∙ sym (underway_then g actions (Heard occurrence ∷ log));
  count =
      let one = f.count in let before = m.count in let opens = opened_then actions (Heard occurrence ∷ log) in let closes = closed_then actions (Heard occurrence ∷ log) in
      omega (arith, one, before, opens, closes);
  last = f.last ∙ ap (last_by occurrence.event.of) m.last ∙ sym (last_then actions (Heard occurrence ∷ log));
  fresh = λ d later.
      connected_then d actions (Heard occurrence ∷ log)
      ∙ ap (connection_after d actions) (fresh_by occurrence.event.of (last_opened log) d (is_connected d log) opens_later (m.fresh d) (ap (is_later d) (sym (last_then actions (Heard occurrence ∷ log))) ∙ later))
      ∙ never_connected d actions;
  has_room = f.room ∙ m.has_room;
}
  where
    opens_later : (c : ℕ) → occurrence.event.of ≡ ClientOpened c → is_later c (last_opened log) ≡ true
    opens_later c is = ap (is_later c) (sym m.last) ∙ ap (λ (h : Happening). is_known h s) (sym is) ∙ known_of occurrence.event s v.is_served

    f : Follows occurrence.event.of s actions s'
    f = event_follows settings occurrence.event s actions s' (λ c is. none_of _ (m.connections c ∙ m.fresh c (opens_later c is))) v

-- ---- an event that may happen by the log is served

known_by : (room : ℕ) (happening : Happening) (s : State) (log : List Move) → Mirrors room s log → MayHappen room happening log → is_known happening s ≡ true
known_by room (ClientOpened c) s log m may = ap (is_later c) m.last ∙ may.0
known_by room (ClientBytes c octets) s log m may = m.connections c ∙ may
known_by room (ClientEnd c) s log m may = m.connections c ∙ may
known_by room (OriginBytes f octets) s log m may = m.forwards f ∙ may
known_by room (OriginEnd f) s log m may = m.forwards f ∙ may
known_by room (OriginFailed f) s log m may = m.forwards f ∙ may
known_by room Stopping s log m may = refl

room_by : (room : ℕ) (happening : Happening) (s : State) (log : List Move) → Mirrors room s log → MayHappen room happening log → is_full happening s ≡ false
room_by room (ClientOpened c) s log m may =
    let count = m.count in let less = may.1 in let is = m.has_room in not_full s.numbers.room (len s.connections) (omega (arith, count, less, is))
  where
    not_full : (m n : ℕ) → n < m → nat_le m n ≡ false
    not_full m n less = grind (arith, nat_tests)
room_by room (ClientBytes c octets) s log m may = refl
room_by room (ClientEnd c) s log m may = refl
room_by room (OriginBytes f octets) s log m may = refl
room_by room (OriginEnd f) s log m may = refl
room_by room (OriginFailed f) s log m may = refl
room_by room Stopping s log m may = refl

pub may_happen_served : (room : ℕ) (event : Event) (s : State) (log : List Move) → Mirrors room s log → MayHappen room event.of log → first_fault event s ≡ moment_fault event
may_happen_served room event s log m may =
    ap (λ (known : Bool). cond late (Some MomentTooLarge) (cond (not known) (Some UnknownNumber) (cond (is_full event.of s) (Some TooManyConnections) None)))
    (known_by room event.of s log m may)
    ∙ ap (λ (full : Bool). cond late (Some MomentTooLarge) (cond full (Some TooManyConnections) None)) (room_by room event.of s log m may)
  where
    late : Bool
    late = nat_lt greatest_moment event.moment
