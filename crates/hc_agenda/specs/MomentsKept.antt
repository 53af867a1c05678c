-- What is kept of a history of the clocks.
use Rattle.std.specs.Prelude.{◌≡◌, ℕ, ◌+◌, ◌≤◌, Bool, false, ◌==◌, Option, Some, None, if◌then◌else◌, nat_le}
use Rattle.hc_agenda.specs.declared.moments.Lead.{Lead}
use Rattle.hc_agenda.specs.declared.moments.Moments.{Moments}
use Rattle.hc_agenda.specs.Moments.{History, counted_in, followed_in, has_been_ahead_by, is_behind_in, second_of, start_in, start_wall_in}

-- ---- a lead

-- the answer for d, where there is one for as many seconds, one for a second less and one for a second more: for all else it is no
abbrev pub answer_for : ℕ → Bool → Bool → Bool → ℕ → Bool
answer_for seconds same less more d = if d == seconds then same else if d + 1 == seconds then less else if d == seconds + 1 then more else false

-- whether the wall clock was ahead by d, within a second, since a reading that is five seconds old when so many nanoseconds are counted
abbrev pub lasts : Option Lead → ℕ → ℕ → Bool
lasts None d now = false
lasts (Some lead) d now = answer_for lead.seconds (nat_le (lead.since + 5_000_000_000) now) (nat_le (lead.less_since + 5_000_000_000) now) (nat_le (lead.more_since + 5_000_000_000) now) d

-- the same by as many seconds as at the newest reading
abbrev pub has_lasted : Option Lead → ℕ → Bool
has_lasted None now = false
has_lasted (Some lead) now = nat_le (lead.since + 5_000_000_000) now

-- it began when no more than that was counted
pub record HasBegun (counted : ℕ) (lead : Lead) : Type 0 where
  pub same : lead.since ≤ counted
  pub less : lead.less_since ≤ counted
  pub more : lead.more_since ≤ counted

-- the same of a lead, if there is one
abbrev pub HasBegunIfAny : ℕ → Option Lead → Type 0
HasBegunIfAny counted None = Unit {0}
HasBegunIfAny counted (Some lead) = HasBegun counted lead

-- ---- all that is kept

-- the moment that is told by what is kept
abbrev pub told_by : Moments → ℕ
told_by moments = second_of (moments.base + moments.counted)

-- what is kept of a history where so many nanoseconds were followed, with the lead of one that may be a look behind
pub record Keeps (moments : Moments) (followed : ℕ) (history leads : History) : Type 0 where
  pub base : moments.base ≡ start_wall_in history + followed
  pub start : moments.start ≡ start_in history
  pub counted : moments.counted ≡ counted_in history
  pub lasting : (d now : ℕ) → lasts moments.lead d now ≡ has_been_ahead_by d followed now leads
  pub begun : HasBegunIfAny moments.counted moments.lead

-- it is what is kept of that history
pub record Tells (moments : Moments) (history : History) : Type 0 where
  pub keeps : Keeps moments (followed_in history) history history
  pub behind : moments.behind ≡ is_behind_in history
