-- Whether a response is fresh where its Age alone is believed (RFC 9111 section 4.2.3).
use Rattle.std.specs.Prelude.{ℕ, Bool, ◌+◌, ◌-◌, ◌^◌, false, max, min, nat_le, nat_lt, Option, Some, None, unwrap_or, if◌then◌else◌}
use Rattle.hc_fields.specs.Numbers.{largest_number}
use Rattle.hc_fresh.specs.Ages.{apparent_age, corrected_age_value}
use Rattle.hc_use.specs.declared.aging.AgeParts.{AgeParts}
use Rattle.hc_use.specs.declared.usage.Usage.{Usage}

-- the largest number that is counted with
abbrev pub most : ℕ
most = 2 ^ 64 - 1

-- the age that the Age alone tells when the response came (section 4.2.3)
abbrev pub told_age : AgeParts → ℕ
told_age parts = min (corrected_age_value parts.times) most

-- the age at the reply by that, where the Date tells of more
abbrev pub age_by_age_alone : AgeParts → Option ℕ
age_by_age_alone parts =
    if nat_le (apparent_age parts.times) (told_age parts) then None else Some (min (min (told_age parts + parts.resident) most) largest_number)

-- the lifetime that is counted with
abbrev pub lifetime_in : Usage → ℕ
lifetime_in usage = max (unwrap_or usage.lifetime 0) (unwrap_or usage.lent 0)

-- whether the response is fresh at that age, as far as the audit is told to look
abbrev pub is_fresh_at : Usage → ℕ → Bool
is_fresh_at usage age = nat_lt age (lifetime_in usage + usage.slack)

abbrev pub is_some_fresh : Usage → Option ℕ → Bool
is_some_fresh usage None = false
is_some_fresh usage (Some age) = is_fresh_at usage age

-- whether it is where its Age alone is believed
abbrev pub is_fresh_by_age_alone : Usage → Bool
is_fresh_by_age_alone usage = is_some_fresh usage (age_by_age_alone usage.parts)
