-- How clients and forwards are getting on, and when their time is over. All times are milliseconds of one clock.
use Rattle.std.specs.Prelude.{◌≡◌, ◌≤◌, ◌⊎◌, ℕ, ◌+◌, ◌-◌, ◌*◌, ◌/◌, ◌^◌, ◌==◌, Bool, if◌then◌else◌, min, nat_lt}
use Rattle.hc_flow.specs.declared.outbox.Emptying.{Emptying}
use Rattle.hc_flow.specs.declared.outbox.Emptying.TheVariants.{Emptied, Later, Failed}
use Rattle.hc_flow.specs.declared.pace.Pace.{Pace}
use Rattle.hc_flow.specs.declared.pace.Pace.TheVariants.{Idle, Asking, Taking}
use Rattle.hc_flow.specs.declared.patience.Patience.{Patience}
use Rattle.hc_flow.specs.declared.progress.ForwardProgress.{ForwardProgress}

-- ---- clients

-- behind that millisecond a client's time is over, unless a request of it awaits its reply: it may be idle for so long; a request may come for so long, and for a second more for each KiB that came; and octets that are owed may be taken none of for so long
abbrev pub due : Pace → Patience → ℕ
due (Idle since) patience = since + patience.idle_timeout
due (Asking since octets) patience = since + patience.request_timeout + octets / 1024 * 1000
due (Taking since) patience = since + patience.send_timeout

-- the least of what a client may take for anything
abbrev pub shortest : Patience → ℕ
shortest patience = min (min patience.idle_timeout patience.request_timeout) patience.send_timeout

-- the first millisecond at which its time may be over, however it gets on from that tick on
abbrev pub next_look : Pace → ℕ → Patience → ℕ
next_look pace tick patience = min (due pace patience) (tick + shortest patience) + 1

-- since when it is getting on so
abbrev pub since_of : Pace → ℕ
since_of (Idle since) = since
since_of (Asking since octets) = since
since_of (Taking since) = since

-- how it may get on from a tick on: as before, though more of a request may have come, or otherwise since then
abbrev pub GetsOn : ℕ → Pace → Pace → Type 0
GetsOn tick (Idle since) later = (later ≡ Idle since) ⊎ (tick ≤ since_of later)
GetsOn tick (Taking since) later = (later ≡ Taking since) ⊎ (tick ≤ since_of later)
GetsOn tick (Asking since octets) later = ((more : ℕ) × (later ≡ Asking since (octets + more))) ⊎ (tick ≤ since_of later)

-- so many octets of a request came: the first ones begin it
abbrev pub asking : (count tick : ℕ) → Pace → Pace
asking count tick (Idle since) = Asking tick count
asking count tick (Asking since octets) = Asking since (octets + min count (2 ^ 64 - 1 - octets))
asking count tick (Taking since) = Asking tick count

-- octets are owed from then on, or since before
abbrev pub is_taking_since : ℕ → Pace → Pace
is_taking_since tick (Idle since) = Taking tick
is_taking_since tick (Asking since octets) = Taking tick
is_taking_since tick (Taking since) = Taking since

-- octets are owed to it, or none are
abbrev pub owing : (owed : Bool) → ℕ → Pace → Pace
owing owed tick pace = if owed then is_taking_since tick pace else pace

-- what comes of writing what is owed: where all was written it is idle, and where some was, it is taking anew
abbrev pub taken : Emptying → (took : Bool) → ℕ → Pace → Pace
taken Emptied took tick pace = Idle tick
taken Later took tick pace = if took then Taking tick else pace
taken Failed took tick pace = pace

-- the same, where so many octets were owed before, and so many are still: where none were owed nothing changes
abbrev pub written : Emptying → (before still tick : ℕ) → Pace → Pace
written emptying before still tick pace = if before == 0 then pace else taken emptying (nat_lt still before) tick pace

-- ---- forwards

-- behind that millisecond nothing has passed on its link for too long
abbrev pub silent_due : ForwardProgress → Patience → ℕ
silent_due progress patience = progress.last + patience.origin_timeout

-- behind that millisecond it has taken too long in all, from the first link that was begun for it
abbrev pub total_due : ForwardProgress → Patience → ℕ
total_due progress patience = progress.begun + patience.origin_total

-- behind that millisecond its time is over
abbrev pub forward_due : ForwardProgress → Patience → ℕ
forward_due progress patience = min (silent_due progress patience) (total_due progress patience)

-- something passed on its link, or nothing
abbrev pub moved : (passed : Bool) → ℕ → ForwardProgress → ForwardProgress
moved passed tick progress = if passed then record progress { last = tick } else progress

-- behind a write, where so many octets were owed before, and so many are still
abbrev pub progress_written : Emptying → (before still tick : ℕ) → ForwardProgress → ForwardProgress
progress_written Failed before still tick progress = progress
progress_written other before still tick progress = moved (nat_lt still before) tick progress
