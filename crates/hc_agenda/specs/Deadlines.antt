-- Who is due, and when: each number at one tick of a time-out at most.
use Rattle.std.specs.Prelude.{◌≡◌, ◌+◌, ◌<◌, ◌≤◌, ◌⊎◌, ◌&&◌, ◌||◌, ◌==◌, ℕ, Bool, false, if◌then◌else◌, length, Option, Some, None, IfSome, is_some, nat_le}
use Rattle.std.specs.BTreeMap.{get}
use Rattle.hc_agenda.specs.declared.deadline.Deadline.{Deadline}
use Rattle.hc_agenda.specs.declared.deadline.Timeout.{Timeout}
use Rattle.hc_agenda.specs.declared.deadline.Timeout.TheVariants.{Client, ClientLingering, Place, Connect, Origin}
use Rattle.hc_agenda.specs.declared.deadlines.Deadlines.{Deadlines}
use Rattle.hc_agenda.specs.Due.{by_number, same_number, same_timeout}

-- at which tick a number is due by a time-out, if it is
abbrev pub deadline_at : Timeout → ℕ → Deadlines → Option ℕ
deadline_at timeout number deadlines = get by_number deadlines.ticks (timeout, number)

-- how many deadlines there are
abbrev pub deadlines_in : Deadlines → ℕ
deadlines_in deadlines = length deadlines.ticks.entries

-- whether there is a time, and it has come by that tick
abbrev pub has_come : Option ℕ → (tick : ℕ) → Bool
has_come None tick = false
has_come (Some due) tick = nat_le due tick

-- nothing is due
pub record NoneIsDue (deadlines : Deadlines) : Type 0 where
  pub none : (timeout : Timeout) (number : ℕ) → deadline_at timeout number deadlines ≡ None
  pub count : deadlines_in deadlines ≡ 0

-- all is due as before
pub record KeepsDeadlines (before after : Deadlines) : Type 0 where
  pub same : (timeout : Timeout) (number : ℕ) → deadline_at timeout number after ≡ deadline_at timeout number before
  pub count : deadlines_in after ≡ deadlines_in before

-- a number is due by a time-out at that tick, or not at all, and all else is due as before
pub record SetsDeadline (timeout : Timeout) (number : ℕ) (tick : Option ℕ) (before after : Deadlines) : Type 0 where
  pub at : (other : Timeout) (n : ℕ) → deadline_at other n after ≡ (if same_number timeout number other n then tick else deadline_at other n before)
  pub count : deadlines_in after + (if is_some (deadline_at timeout number before) then 1 else 0) ≡ deadlines_in before + (if is_some tick then 1 else 0)

-- a number isn't due any more by some time-outs, and all else is due as before
abbrev pub Forgets : (Timeout → Bool) → ℕ → Deadlines → Deadlines → Type 0
Forgets is_forgotten number before after = (timeout : Timeout) (n : ℕ) → deadline_at timeout n after ≡ (if is_forgotten timeout && number == n then None else deadline_at timeout n before)

-- whether a time-out is of a client
abbrev pub is_of_client : Timeout → Bool
is_of_client timeout = same_timeout Client timeout || same_timeout ClientLingering timeout

-- whether it is of a forward, or of its link
abbrev pub is_of_forward : Timeout → Bool
is_of_forward timeout = same_timeout Place timeout || (same_timeout Connect timeout || same_timeout Origin timeout)

-- ---- who is due first

-- somebody is due by that time-out then
abbrev pub IsDueBy : Timeout → Deadlines → (tick : ℕ) → Type 0
IsDueBy timeout deadlines tick = (number : ℕ) × (deadline_at timeout number deadlines ≡ Some tick)

-- somebody is due then
abbrev pub IsDue : Deadlines → (tick : ℕ) → Type 0
IsDue deadlines tick = (timeout : Timeout) × IsDueBy timeout deadlines tick

-- of two that are due the one comes first: its tick is less, or the same, and its number isn't greater
abbrev pub ComesFirst : (tick number : ℕ) → (other n : ℕ) → Type 0
ComesFirst tick number other n = (tick < other) ⊎ ((tick ≡ other) × (number ≤ n))

-- a number is due then by that time-out, and comes first of all that are
pub record IsFirst (timeout : Timeout) (tick number : ℕ) (deadlines : Deadlines) : Type 0 where
  pub due : deadline_at timeout number deadlines ≡ Some tick
  pub first : (n : ℕ) → IfSome (deadline_at timeout n deadlines) (λ other. ComesFirst tick number other n)

-- nobody is due by that time-out
abbrev pub NobodyIsDueBy : Timeout → Deadlines → Type 0
NobodyIsDueBy timeout deadlines = (n : ℕ) → deadline_at timeout n deadlines ≡ None

-- it is the deadline that comes first of a time-out; there is none where nobody is due by it
abbrev pub IsFirstOf : Timeout → Option Deadline → Deadlines → Type 0
IsFirstOf timeout None deadlines = NobodyIsDueBy timeout deadlines
IsFirstOf timeout (Some deadline) deadlines = (deadline.timeout ≡ timeout) × IsFirst timeout deadline.tick deadline.number deadlines

-- it is the number that comes first of a time-out; there is none where nobody is due by it
abbrev pub IsFirstNumberOf : Timeout → Option ℕ → Deadlines → Type 0
IsFirstNumberOf timeout None deadlines = NobodyIsDueBy timeout deadlines
IsFirstNumberOf timeout (Some number) deadlines = (tick : ℕ) × IsFirst timeout tick number deadlines

-- it is the deadline that comes first of a time-out, and is due by that tick; there is none where nobody is due by then
abbrev pub IsDueFirst : Timeout → (tick : ℕ) → Option Deadline → Deadlines → Type 0
IsDueFirst timeout tick None deadlines = (n : ℕ) → IfSome (deadline_at timeout n deadlines) (λ due. tick < due)
IsDueFirst timeout tick (Some deadline) deadlines = (deadline.tick ≤ tick) × IsFirstOf timeout (Some deadline) deadlines
