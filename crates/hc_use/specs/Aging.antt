-- The seconds that a reply tells, and those that are due.
use Rattle.std.specs.Prelude.{◌≡◌, ℕ, Bool, ◌-◌, max, nat_lt, ℤ, pos, ◌-ℤ◌, nat_abs, List, [], ◌∷◌, codes, Option, Some, None}
use Rattle.std.specs.Int.{abs_diff}
use Rattle.std.specs.Int.Signed.{lt_z}
use Rattle.hc_fields.specs.Numbers.{number_of}
use Rattle.hc_fields.specs.Values.{values_of}
use Rattle.hc_update.specs.declared.stored.Stored.{Stored}
use Rattle.hc_history.specs.Claims.{Claim}
use Rattle.hc_history.specs.Usable.{age_of, lifetime_of}
use Rattle.hc_use.specs.declared.aging.AgeGap.{AgeGap}
use Rattle.hc_use.specs.declared.aging.AgeParts.{AgeParts}
use Rattle.hc_use.specs.declared.aging.AgeTold.{AgeTold}
use Rattle.hc_use.specs.declared.aging.AgeTold.TheVariants.{Missing, Several, Unreadable, Seconds}
use Rattle.hc_use.specs.declared.aging.TtlGap.{TtlGap}
use Rattle.hc_use.specs.Stale.{is_stated}

-- what Age lines of these values tell (RFC 9111 section 5.1)
abbrev pub IsAgeTold : List (List ℕ) → AgeTold → Type 0
IsAgeTold values Missing = values ≡ []
IsAgeTold values Several = (one : List ℕ) × (other : List ℕ) × (more : List (List ℕ)) × (values ≡ one ∷ other ∷ more)
IsAgeTold values Unreadable = (value : List ℕ) × (values ≡ value ∷ []) × (number_of value ≡ None)
IsAgeTold values (Seconds told) = (value : List ℕ) × (values ≡ value ∷ []) × (number_of value ≡ Some told)

-- what the age of the response at the reply is reckoned from (RFC 9111 section 4.2.3)
abbrev pub parts_of : Claim → Stored → AgeParts
parts_of claim state = record { times = state.times; resident = claim.moment - state.times.response_time }

-- what the reply tells, and the age that is due (RFC 9111 section 4.2.3)
pub record IsAgeGap (claim : Claim) (state : Stored) (gap : AgeGap) : Type 0 where
  pub told : IsAgeTold (values_of (codes "age") claim.reply.head.fields) gap.told
  pub due : gap.due ≡ age_of claim state
  pub parts : gap.parts ≡ parts_of claim state
  pub slack : gap.slack ≡ max claim.settings.slack claim.settings.allowed.age_slack
  pub own : gap.is_own_slack ≡ nat_lt claim.settings.slack claim.settings.allowed.age_slack

-- the seconds that the mark tells, and of what those that are due are the difference (RFC 9211 section 2.4)
abbrev pub ttl_gap_of : Claim → Stored → TtlGap
ttl_gap_of claim state = record {
  told = claim.ttl;
  lifetime = lifetime_of state;
  age = age_of claim state;
  parts = parts_of claim state;
  is_stated = is_stated state.fields;
  slack = claim.settings.slack;
}

-- by how many seconds the Age is off, and whether it is too low: none where it tells no seconds
abbrev pub age_off : AgeTold → ℕ → Option (ℕ × Bool)
age_off Missing due = None
age_off Several due = None
age_off Unreadable due = None
age_off (Seconds told) due = Some (abs_diff told due, nat_lt told due)

-- the seconds that are due of a mark
abbrev pub ttl_due : TtlGap → ℤ
ttl_due gap = pos gap.lifetime -ℤ pos gap.age

-- by how many the mark is off, and whether it is too low: none where it tells none
abbrev pub ttl_off : ℤ → Option ℤ → Option (ℕ × Bool)
ttl_off due None = None
ttl_off due (Some told) = Some (nat_abs (told -ℤ due), lt_z told due)
