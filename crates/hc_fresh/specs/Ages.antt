-- The age of a stored response (RFC 9111 section 4.2.3), in seconds. A difference under 0 is 0.
use Rattle.std.specs.Prelude.{ℕ, Bool, ◌+◌, ◌-◌, min, max, nat_lt, List, Option, unwrap_or, option_and_then, codes}
use Rattle.std.specs.List.{slice_get}
use Rattle.hc_fields.specs.declared.fields.Field.{Field}
use Rattle.hc_fields.specs.Values.{values_of}
use Rattle.hc_fields.specs.Lists.{list_members}
use Rattle.hc_fields.specs.Numbers.{largest_number, number_of}
use Rattle.hc_fresh.specs.declared.ages.Times.{Times}

-- the first Age line, if there is one
abbrev pub age_line : List Field → Option (List ℕ)
age_line fields = slice_get (values_of (codes "age") fields) 0

-- the number that the first member of that line is, if it is one (section 5.1)
abbrev pub age_stated : List Field → Option ℕ
age_stated fields = option_and_then number_of (option_and_then (λ line. slice_get (list_members line) 0) (age_line fields))

-- that number, else 0
abbrev pub age_value : List Field → ℕ
age_value fields = unwrap_or (age_stated fields) 0

-- the age that the Date tells
abbrev pub apparent_age : Times → ℕ
apparent_age times = times.response_time - times.date

-- how long the response was under way
abbrev pub response_delay : Times → ℕ
response_delay times = times.response_time - times.request_time

-- the age that the Age tells, and the time that the response was under way
abbrev pub corrected_age_value : Times → ℕ
corrected_age_value times = times.age_value + response_delay times

-- the age of the response when it came
abbrev pub corrected_initial_age : Times → ℕ
corrected_initial_age times = max (apparent_age times) (corrected_age_value times)

-- how long the response has been here
abbrev pub resident_time : Times → ℕ → ℕ
resident_time times now = now - times.response_time

-- the age of the response now, at most the largest number (section 1.2.2)
abbrev pub current_age : Times → ℕ → ℕ
current_age times now = min largest_number (corrected_initial_age times + resident_time times now)

-- ---- ages against lifetimes (section 4.2)

-- whether a response of that lifetime and age is fresh
abbrev pub fresh : ℕ → ℕ → Bool
fresh lifetime age = nat_lt age lifetime

-- by how much the age is over the lifetime, 0 where it isn't
abbrev pub staleness : ℕ → ℕ → ℕ
staleness lifetime age = age - lifetime
