-- The tables of who is due, and when.
use Rattle.std.specs.Prelude.{◌≡◌, ◌&&◌, ◌==◌, ℕ, Bool, false, if◌then◌else◌, Option, Some, None}
use Rattle.std.specs.declared.cmp.Ordering.{Ordering}
use Rattle.std.specs.BTreeMap.{BTreeMap, get}
use Rattle.std.specs.BTreeSet.{BTreeSet, contains}
use Rattle.std.specs.Ordering.{nat_cmp, ordering_then}
use Rattle.hc_agenda.specs.contracts.deadline.DeadlineOrd.TheImpl as deadline_order
use Rattle.hc_agenda.specs.contracts.deadline.TimeoutOrd.TheImpl as timeout_order
use Rattle.hc_agenda.specs.contracts.deadline.TimeoutPartialEq.TheImpl as timeout_equality
use Rattle.hc_agenda.specs.declared.deadline.Deadline.{Deadline}
use Rattle.hc_agenda.specs.declared.deadline.Timeout.{Timeout}

-- the order in which deadlines stand: by time-out, then by tick, then by number
abbrev pub by_time : Deadline → Deadline → Ordering
by_time = (deadline_order.ghosts).cmp

-- the order in which numbers stand: by time-out, then by number
abbrev pub by_number : Timeout × ℕ → Timeout × ℕ → Ordering
by_number one other = ordering_then ((timeout_order.ghosts).cmp one.0 other.0) (nat_cmp one.1 other.1)

-- whether two time-outs are the same
abbrev pub same_timeout : Timeout → Timeout → Bool
same_timeout = (timeout_equality.ghosts).eq

-- whether two numbers are, and their time-outs
abbrev pub same_number : Timeout → ℕ → Timeout → ℕ → Bool
same_number timeout number other n = same_timeout timeout other && number == n

-- whether there is a tick, and it is that one
abbrev pub is_tick : Option ℕ → ℕ → Bool
is_tick None tick = false
is_tick (Some due) tick = due == tick

-- a deadline stands in the queue exactly where its tick is that of its number
abbrev pub AreQueued : BTreeSet Deadline → BTreeMap (Timeout × ℕ) ℕ → Type 0
AreQueued queue ticks = (deadline : Deadline) → contains by_time queue deadline ≡ is_tick (get by_number ticks (deadline.timeout, deadline.number)) deadline.tick

-- whether it is the deadline of that time-out, tick and number, if there is a tick
abbrev pub is_deadline : Timeout → Option ℕ → ℕ → Deadline → Bool
is_deadline timeout tick number deadline = same_number timeout number deadline.timeout deadline.number && is_tick tick deadline.tick

-- that deadline is taken out of the queue, if there is a tick, and no other one
abbrev pub TakesOut : Timeout → Option ℕ → ℕ → BTreeSet Deadline → BTreeSet Deadline → Type 0
TakesOut timeout tick number before after = (deadline : Deadline) → contains by_time after deadline ≡ (if is_deadline timeout tick number deadline then false else contains by_time before deadline)
