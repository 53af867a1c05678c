-- How far a crowd has come, and when it serves no further client.
use Rattle.std.specs.Prelude.{◌≡◌, ◌⊎◌, ◌≤◌, ℕ, ◌&&◌, ◌||◌, not, Bool, true, false, Option, Some, None, Result, Ok, Err}
use Rattle.std.specs.declared.alloc.AllocError.{AllocError}
use Rattle.hc_service.specs.declared.event.Happening.{Happening}
use Rattle.hc_service.specs.declared.event.Happening.TheVariants.{ClientEnd}
use Rattle.hc_flow.specs.declared.patience.Patience.{Patience}
use Rattle.hc_links.specs.declared.happened.Happened.{Happened}
use Rattle.hc_order.specs.declared.occurrence.Reason.{Reason}
use Rattle.hc_order.specs.declared.occurrence.Reason.TheVariants.{Stop, Displaced, Late as TooLate}
use Rattle.hc_order.specs.declared.receiver.Receiver.{Receiver}
use Rattle.hc_order.specs.declared.receiver.Receiver.TheVariants as to
use Rattle.hc_peers.specs.declared.client.Hearing.{Hearing}
use Rattle.hc_peers.specs.declared.peers.Peers.{Peers}
use Rattle.hc_peers.specs.Hearings.{HasFailedAt, IsRead}
use Rattle.hc_peers.specs.Known.{known_at}
use Rattle.hc_peers.specs.Peers.{is_client_overdue}
use Rattle.hc_attended.specs.Grounds.{is_idle}
use Rattle.hc_crowd.specs.declared.course.Course.{Course}
use Rattle.hc_crowd.specs.declared.course.Course.TheVariants.{Serving, Ceasing, Draining, Late}

-- whether a stop was asked
abbrev pub stops : Course → Bool
stops Serving = false
stops (Ceasing idle_until until) = true
stops (Draining until) = true
stops Late = true

-- whether clients end that are idle
abbrev pub ends_idle : Course → Bool
ends_idle Serving = false
ends_idle (Ceasing idle_until until) = false
ends_idle (Draining until) = true
ends_idle Late = true

-- whether the time behind a stop is over, too
abbrev pub is_late : Course → Bool
is_late Serving = false
is_late (Ceasing idle_until until) = false
is_late (Draining until) = false
is_late Late = true

-- whether a stop ends a client: one that is idle, once such ones end
abbrev pub is_stop_for : {S : Type 0} → Course → Peers S → (number : ℕ) → Bool
is_stop_for course peers number = ends_idle course && is_idle peers number

-- the link of a client has failed by then
abbrev pub FailsAt : {S : Type 0} → (S → Type 0) → ℕ → (before after : Peers S) → Type 0
FailsAt has_failed number before after = HasFailedAt has_failed (known_at number before.clients.links) (known_at number after.clients.links)

-- whether the time of a client is over by that tick: behind a stop, or, where no request of it awaits its reply, by how it is getting on
abbrev pub is_over_for : {S : Type 0} → Course → Peers S → (number : ℕ) → (awaited : Bool) → (tick : ℕ) → Patience → Bool
is_over_for course peers number awaited tick patience = is_late course || (not awaited && is_client_overdue peers number tick patience)

-- whether it is whatever has come of it: an idle client may be read still, where octets of it have come
abbrev pub is_over_in_any_case : {S : Type 0} → Course → Peers S → (number : ℕ) → (awaited : Bool) → (tick : ℕ) → Patience → Bool
is_over_in_any_case course peers number awaited tick patience = is_late course || (not awaited && (is_client_overdue peers number tick patience && not (is_idle peers number)))

-- what ends a client has its ground in what is known of it: a stop, where it is idle; that its time is over; or that it was asked to give way, where it is idle. Where its next request has begun to come, neither a stop ends it, nor does it give way
pub record HasGrounds {S : Type 0} (course : Course) (giving_way : Option ℕ) (patience : Patience) (peers : Peers S) (number : ℕ) (begun : Bool) (hearing : Hearing) : Type 0 where
  pub unless_begun : begun ≡ true → IsRead hearing
  pub stops : hearing.stops ≡ true → is_stop_for course peers number ≡ true
  pub late : hearing.late ≡ true → is_over_for course peers number hearing.awaited hearing.tick patience ≡ true
  pub gives_way : hearing.gives_way ≡ true → (giving_way ≡ Some number) × (is_idle peers number ≡ true)

-- whether an end is for the sake of others: for a stop, or to give way
abbrev pub is_for_others : Reason → Bool
is_for_others Stop = true
is_for_others Displaced = true
is_for_others other = false

-- an end for the sake of others is told only of a client of whose next request the cache may say that it holds nothing
abbrev pub IsEndUnbegun : (Receiver → ℕ → Type 0) → Happening → Reason → Type 0
IsEndUnbegun holds (ClientEnd n) reason = is_for_others reason ≡ true → holds (to.Client n) 0
IsEndUnbegun holds other reason = Unit {0}

abbrev pub EndsUnbegun : (Receiver → ℕ → Type 0) → Result (Option Happened) AllocError → Type 0
EndsUnbegun holds (Ok (Some happened)) = IsEndUnbegun holds happened.of happened.reason
EndsUnbegun holds (Ok None) = Unit {0}
EndsUnbegun holds (Err refused) = Unit {0}

-- that its time is over is told of a client only where that behind a stop is, or where the cache may say that none of its requests awaits its reply
abbrev pub IsEndUnawaited : (awaited : ℕ → Bool → Type 0) → (late : Bool) → Happening → Reason → Type 0
IsEndUnawaited awaited late (ClientEnd n) TooLate = (late ≡ true) ⊎ awaited n false
IsEndUnawaited awaited late other reason = Unit {0}

abbrev pub EndsUnawaited : (awaited : ℕ → Bool → Type 0) → (late : Bool) → Result (Option Happened) AllocError → Type 0
EndsUnawaited awaited late (Ok (Some happened)) = IsEndUnawaited awaited late happened.of happened.reason
EndsUnawaited awaited late (Ok None) = Unit {0}
EndsUnawaited awaited late (Err refused) = Unit {0}

-- as many clients have come as are served
abbrev pub HaveAllCome : Option ℕ → ℕ → Type 0
HaveAllCome None last = ⊥
HaveAllCome (Some most) last = most ≤ last

-- no further client is served, since a stop was asked, of which the world told, or since all have come
abbrev pub ServesNoMore : Course → (stop_asked : Bool) → Option ℕ → ℕ → Type 0
ServesNoMore course stop_asked most last = ((stops course ≡ true) × (stop_asked ≡ true)) ⊎ HaveAllCome most last
