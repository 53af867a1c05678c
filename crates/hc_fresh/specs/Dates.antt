-- Dates as the second that they show, counted from 1 January 1970 (RFC 9110 section 5.6.7).
use Rattle.std.specs.Prelude.{ℕ, zero, suc, ◌+◌, ◌-◌, ◌/◌, ◌%◌, List, Option, if◌then◌else◌, nat_le}
use Rattle.httpdate.specs.declared.parts.Parts.{Parts}
use Rattle.httpdate.specs.Calendar.{days_of_years, days_of_months, weekday}
use Rattle.httpdate.specs.Date.{parse_secs}
use Rattle.httpdate.specs.Text.{imf_fixdate}

-- the second that a text shows in one of the three formats, if it shows one
abbrev pub date_of : List ℕ → Option ℕ
date_of text = parse_secs text

-- the last of the spans 0 to n that begins by that day
unfoldable pub last_begun : (ℕ → ℕ) → ℕ → ℕ → ℕ
last_begun begins zero day = 0
last_begun begins (suc n) day = if nat_le (begins (suc n)) day then suc n else last_begun begins n day

-- how many years lie between 1970 and the year of a day, which is at most 9999
abbrev pub years_at : ℕ → ℕ
years_at day = last_begun days_of_years 8029 day

-- how many days of its year lie before a day
abbrev pub day_of_year : ℕ → ℕ
day_of_year day = day - days_of_years (years_at day)

-- how many months of its year lie before the month of a day
abbrev pub months_at : ℕ → ℕ
months_at day = last_begun (days_of_months (1970 + years_at day)) 11 (day_of_year day)

-- the calendar and the clock of a second
abbrev pub parts_at : ℕ → ℕ → Parts
parts_at day second = record {
  year = 1970 + years_at day;
  mon = 1 + months_at day;
  day = 1 + (day_of_year day - days_of_months (1970 + years_at day) (months_at day));
  hour = second / 3600;
  min = second % 3600 / 60;
  sec = second % 60;
  wday = weekday day;
}

-- the date of a moment as it is written, IMF-fixdate
unfoldable pub imf_fixdate_at : ℕ → List ℕ
imf_fixdate_at moment = imf_fixdate (parts_at (moment / 86400) (moment % 86400))
