-- What has passed at a flow.
use Rattle.std.specs.Prelude.{◌≡◌, ◌⊎◌, ℕ, ◌==◌, ◌&&◌, ◌||◌, Bool, true, false, List, [], ◌++◌, length, not, if◌then◌else◌, Option, Some, None, Result, Ok, Err}
use Rattle.std.specs.declared.alloc.AllocError.{AllocError}
use Rattle.hc_flow.specs.Passing.{Gave, Owes}
use Rattle.hc_flow.specs.declared.flow.Flow.{Flow}
use Rattle.hc_flow.specs.declared.outbox.Emptying.{Emptying}
use Rattle.hc_flow.specs.declared.outbox.Emptying.TheVariants as emptying
use Rattle.hc_flow.specs.declared.readiness.Readiness.{Readiness}
use Rattle.hc_flow.specs.declared.stream.Presence.{Presence}
use Rattle.hc_flow.specs.declared.stream.Presence.TheVariants.{Octets, Later, Over}

-- it owes what was sent there
abbrev pub FlowOwes : {S : Type 0} → (S → List ℕ → Type 0) → Flow S → List ℕ → Type 0
FlowOwes has_got flow sent = Owes has_got flow.stream flow.failed flow.outbox sent

-- it gave what was heard of it
abbrev pub FlowGave : {S : Type 0} → (S → List ℕ → Type 0) → Flow S → List ℕ → Type 0
FlowGave has_given flow heard = Gave has_given flow.stream flow.failed heard

-- these octets more are owed; where memory was refused, none are
abbrev pub OwesSent : {T : Type 0} → (List ℕ → Type 0) → Result T AllocError → List ℕ → List ℕ → Type 0
OwesSent owes (Ok done) octets sent = owes (sent ++ octets)
OwesSent owes (Err refused) octets sent = owes sent

-- its stream has failed where it fails, and what has failed stays so
abbrev pub FailsWithStream : {S : Type 0} → (S → Type 0) → Flow S → Flow S → Type 0
FailsWithStream has_failed before after = (has_failed before.stream → has_failed after.stream) × (before.failed ≡ false → after.failed ≡ true → has_failed after.stream)

-- where it says whether our half was ended, it says so still
abbrev pub KeepsEnd : {S : Type 0} → (S → Bool → Type 0) → Flow S → Flow S → Type 0
KeepsEnd was_ended before after = was_ended before.stream before.ended → was_ended after.stream after.ended

-- its stream, and what is known of the link, are as they were
abbrev pub KeepsLink : {S : Type 0} → Flow S → Flow S → Type 0
KeepsLink before after =
    (after.stream ≡ before.stream) × (after.failed ≡ before.failed) × (after.readable ≡ before.readable) × (after.writable ≡ before.writable)
    × (after.hung_up ≡ before.hung_up) × (after.ends ≡ before.ends) × (after.ended ≡ before.ended)

-- octets are told of where a look at the stream may tell of some; none are where the link has failed, or a look may tell of none
abbrev pub ShowsOctets : {S : Type 0} → (S → Presence → Type 0) → Flow S → Bool → Type 0
ShowsOctets may_show flow true = (flow.failed ≡ false) × may_show flow.stream Octets
ShowsOctets may_show flow false = (flow.failed ≡ true) ⊎ (may_show flow.stream Later ⊎ may_show flow.stream Over)

-- whether octets wait to be written
abbrev pub is_owed : {S : Type 0} → Flow S → Bool
is_owed flow = not (length flow.outbox == 0)

-- nothing waits to be written where all of it was, nor without a link
abbrev pub TellsOwed : Option Emptying → Bool → Type 0
TellsOwed (Some emptying.Emptied) owed = owed ≡ false
TellsOwed (Some other) owed = Unit {0}
TellsOwed None owed = owed ≡ false

-- whether octets wait to be written there, and may be taken now
abbrev pub may_be_written : {S : Type 0} → Flow S → Bool
may_be_written flow = not flow.failed && (is_owed flow && flow.writable)

-- what is told of a link is added to what is known; where it has failed, what waits is lost
pub record FlowLearns {S : Type 0} (readiness : Readiness) (before after : Flow S) : Type 0 where
  pub failed : after.failed ≡ (before.failed || readiness.failed)
  pub outbox : after.outbox ≡ (if readiness.failed then [] else before.outbox)
  pub readable : after.readable ≡ (before.readable || (readiness.readable || readiness.ended))
  pub writable : after.writable ≡ (before.writable || readiness.writable)

-- what a write leaves: nothing waits, or something does that isn't taken now, or the link has failed
abbrev pub LeavesFlow : {S : Type 0} → Emptying → Flow S → Type 0
LeavesFlow emptying.Emptied flow = (is_owed flow ≡ false) × (flow.failed ≡ false)
LeavesFlow emptying.Later flow = (is_owed flow ≡ true) × (flow.writable ≡ false) × (flow.failed ≡ false)
LeavesFlow emptying.Failed flow = flow.failed ≡ true
