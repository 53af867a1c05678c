-- The moments that a cache is told: the whole seconds of a time that a monotonic clock counts, which follows a wall clock that stays ahead of it.
use Rattle.std.specs.Prelude.{◌≡◌, ◌≤◌, ℕ, ◌+◌, ◌-◌, ◌/◌, Bool, false, ◌&&◌, ◌||◌, ◌==◌, ◌⊎◌, Option, Some, None, IfSome, IsSome, IsTrue, if◌then◌else◌, max, min, nat_le, nat_lt, unwrap_or}
use Rattle.std.specs.Duration.{as_nanos}
use Rattle.std.specs.declared.time.Duration.{Duration}
use Rattle.hc_transcript.specs.Limits.{greatest_moment}

-- what the clocks showed at once, in nanoseconds: the wall clock its time since 1970, where it could be read, and the monotonic clock what it has counted
pub record Reading : Type 0 where
  pub wall : Option ℕ
  pub monotonic : ℕ

-- the nanoseconds of what they showed
abbrev pub reading_of : Option Duration → Duration → Reading
reading_of None monotonic = record { wall = None; monotonic = as_nanos monotonic }
reading_of (Some wall) monotonic = record { wall = Some (as_nanos wall); monotonic = as_nanos monotonic }

-- what they showed at the start, and at each look since then, the newest first
pub data History : Type 0 where
  Start : (reading : Reading) → History
  Look : (reading : Reading) (before : History) → History

-- the wall clock's time at the start, to the nanosecond; 0 where it couldn't be read
abbrev pub start_wall_in : History → ℕ
start_wall_in (Start reading) = unwrap_or reading.wall 0
start_wall_in (Look reading before) = start_wall_in before

-- the monotonic clock's nanosecond at the start
abbrev pub start_in : History → ℕ
start_in (Start reading) = reading.monotonic
start_in (Look reading before) = start_in before

-- how many nanoseconds it has counted since: where it goes back, none
abbrev pub counted_in : History → ℕ
counted_in (Start reading) = 0
counted_in (Look reading before) = max (counted_in before) (reading.monotonic - start_in before)

-- the time by which moments are told, where so many nanoseconds of a wall clock's lead were followed: the wall clock's at the start, that lead, and what has passed since
abbrev pub time_with : ℕ → History → ℕ
time_with followed history = start_wall_in history + followed + counted_in history

-- the whole seconds of a time; past the last second of the year 9999 it is that one
abbrev pub second_of : ℕ → ℕ
second_of time = min (time / 1_000_000_000) greatest_moment

-- the moment, where so many nanoseconds of a wall clock's lead were followed
abbrev pub moment_with : ℕ → History → ℕ
moment_with followed history = second_of (time_with followed history)

-- ---- a wall clock that is ahead

-- by how many seconds a wall clock is ahead of a moment; past the last one it counts as that one
abbrev pub lead_over : ℕ → ℕ → ℕ
lead_over moment wall = second_of wall - moment

-- it is ahead by d seconds, or by one more or one less, but by some
abbrev pub is_about : ℕ → ℕ → Bool
is_about d lead = nat_lt 0 lead && (d == lead || (d + 1 == lead || d == lead + 1))

-- whether it was so at a reading and at those before it, back to one that is five seconds old: of these `before` says whether it was; a wall clock that couldn't be read says nothing
abbrev pub is_ahead_back : ℕ → ℕ → ℕ → ℕ → Option ℕ → Bool → Bool
is_ahead_back d now counted moment None before = before
is_ahead_back d now counted moment (Some wall) before = is_about d (lead_over moment wall) && (nat_le (counted + 5_000_000_000) now || before)

-- by each reading back to one that is five seconds old when so many nanoseconds are counted, the wall clock was ahead by d seconds, within one, of the moment as it is where so many nanoseconds were followed
abbrev pub has_been_ahead_by : ℕ → ℕ → ℕ → History → Bool
has_been_ahead_by d followed now (Start reading) = false
has_been_ahead_by d followed now (Look reading before) =
    is_ahead_back d now (counted_in (Look reading before)) (moment_with followed (Look reading before)) reading.wall (has_been_ahead_by d followed now before)

-- how much is followed behind the newest reading: all by which the wall clock is ahead there, to the nanosecond, where it has been ahead by as many seconds, within one, for five seconds
abbrev pub followed_behind : ℕ → Option ℕ → History → ℕ
followed_behind followed None history = followed
followed_behind followed (Some wall) history =
    let lead = lead_over (moment_with followed history) wall in
    if has_been_ahead_by lead followed (counted_in history) history then followed + (wall - time_with followed history) else followed

-- how many nanoseconds of a wall clock's lead were followed
abbrev pub followed_in : History → ℕ
followed_in (Start reading) = 0
followed_in (Look reading before) = followed_behind (followed_in before) reading.wall (Look reading before)

-- the moment that is told
abbrev pub moment_in : History → ℕ
moment_in history = moment_with (followed_in history) history

-- ---- a wall clock that is behind

-- a wall clock is behind a moment by more than ten seconds; where it couldn't be read, so it was before or not
abbrev pub is_behind_at : ℕ → Option ℕ → Bool → Bool
is_behind_at moment None before = before
is_behind_at moment (Some wall) before = nat_lt (wall / 1_000_000_000 + 10) moment

-- whether the wall clock is behind by more than ten seconds, by the newest reading of it since the start
abbrev pub is_behind_in : History → Bool
is_behind_in (Start reading) = false
is_behind_in (Look reading before) = is_behind_at (moment_in (Look reading before)) reading.wall (is_behind_in before)

-- ---- words of the laws

-- a wall clock isn't ahead of a moment, if it could be read
abbrev pub IsNotAhead : ℕ → Option ℕ → Type 0
IsNotAhead moment None = Unit {0}
IsNotAhead moment (Some wall) = lead_over moment wall ≡ 0

-- the wall clock was never ahead of the whole seconds of its time at the start and of what has passed since
abbrev pub IsNeverAhead : History → Type 0
IsNeverAhead (Start reading) = Unit {0}
IsNeverAhead (Look reading before) = IsNotAhead (moment_with 0 (Look reading before)) reading.wall × IsNeverAhead before

-- a history is an earlier one, or goes on from it
abbrev pub GoesOnFrom : History → History → Type 0
GoesOnFrom earlier (Start reading) = earlier ≡ Start reading
GoesOnFrom earlier (Look reading before) = (earlier ≡ Look reading before) ⊎ GoesOnFrom earlier before

-- what the wall clock showed at the newest look
abbrev pub newest_wall : History → Option ℕ
newest_wall (Start reading) = None
newest_wall (Look reading before) = reading.wall

-- there it was ahead by d, within a second, of the moment as it is where so many nanoseconds were followed, if it could be read
abbrev pub IsAheadBy : ℕ → ℕ → History → Type 0
IsAheadBy d followed history = IfSome (newest_wall history) (λ wall. IsTrue (is_about d (lead_over (moment_with followed history) wall)))

-- the wall clock could be read at a look that was five seconds old when so many nanoseconds were counted, and so it was ahead by d at that look and at each since
pub record HasBeenAhead (d followed now : ℕ) (history : History) : Type 0 where
  pub since : History
  pub goes_on : GoesOnFrom since history
  pub could_be_read : IsSome (newest_wall since)
  pub old : counted_in since + 5_000_000_000 ≤ now
  pub all : (look : History) → GoesOnFrom since look → GoesOnFrom look history → IsAheadBy d followed look
