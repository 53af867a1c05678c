use Rattle.std.proofs.Common.{◌≡◌, ℕ, Bool, true, false, nat_le, zero, suc, ◌+◌, ◌-◌, ◌*◌, ◌/◌, ◌%◌, ◌<◌, ◌≤◌, ◌⊎◌, Some, refl, sym, ap, ◌∙◌, subst, arith, inl, inr, option_and_then, if◌then◌else◌, None}
use Rattle.std.proofs.lemmas.Bool.{cases_order, leb-true}
use Rattle.std.proofs.lemmas.Bool.Decides.{nat_tests}
use Rattle.httpdate.specs.declared.parts.Parts.{Parts}
use Rattle.httpdate.specs.declared.date.HttpDate.{HttpDate}
use Rattle.httpdate.specs.Calendar.{IsCivilDate, days_of_years, days_of_months, days_in_year, days_in_month, days_from_civil, weekday}
use Rattle.httpdate.specs.Valid.{IsValid, parts_secs}
use Rattle.httpdate.specs.Text.{imf_fixdate}
use Rattle.httpdate.specs.Date.{unix_secs, date_text, valid_secs}
use Rattle.httpdate.proofs.CalendarLemmas.{days_from_civil_year, days_from_civil_month, days_of_years_closed, days_of_months_all}
use Rattle.httpdate.proofs.FormatLemmas.{parse_complete}
use Rattle.httpdate.proofs.ValidLemmas.{is_valid_complete}
use Rattle.hc_fresh.specs.Dates.{date_of, last_begun, years_at, months_at, day_of_year, parts_at, imf_fixdate_at}

-- the beginnings of spans only grow
abbrev Grows : (ℕ → ℕ) → Type 0
Grows begins = (n : ℕ) → begins n ≤ begins (suc n)

grown : (begins : ℕ → ℕ) → Grows begins → (n more : ℕ) → begins n ≤ begins (n + more)
grown begins grows n zero = let same : n + 0 ≡ n = omega arith in rw same (omega arith)
grown begins grows n (suc more) =
    let before = grown begins grows n more in
    let step = grows (n + more) in
    let next : n + suc more ≡ suc (n + more) = omega arith in
    rw next (omega arith)

last_or_before : (span n : ℕ) → span ≤ suc n → (span ≡ suc n) ⊎ (span ≤ n)
last_or_before span n h = grind (arith, cases_order span (suc n))

-- the span in which a day lies is the last of all, or one of those before
last_begun_step : (begins : ℕ → ℕ) → Grows begins → (n span day : ℕ) → begins span ≤ day → day < begins (suc span) → (span ≤ n → last_begun begins n day ≡ span) → (span ≡ suc n) ⊎ (span ≤ n) → last_begun begins (suc n) day ≡ span
unfolding last_begun
last_begun_step begins grows n span day from to rest (inl last) =
    let begun : begins (suc n) ≤ day = rw (← last) from in
    grind (arith, nat_tests, begun)
last_begun_step begins grows n span day from to rest (inr before) =
    let ends = grown begins grows (suc span) (n - span) in
    let same : suc span + (n - span) ≡ suc n = omega arith in
    let late : day < begins (suc n) = omega (arith, rw same at ends) in
    let earlier = rest before in
    grind (arith, nat_tests, late, earlier)

-- the span in which a day lies is the last that has begun
last_begun_is : (begins : ℕ → ℕ) → Grows begins → (n span day : ℕ) → span ≤ n → begins span ≤ day → day < begins (suc span) → last_begun begins n day ≡ span
unfolding last_begun
last_begun_is begins grows zero span day in_time from to = omega arith
last_begun_is begins grows (suc n) span day in_time from to =
    last_begun_step begins grows n span day from to (λ h. last_begun_is begins grows n span day h from to) (last_or_before span n in_time)

years_grow : Grows days_of_years
unfolding days_of_years
years_grow n = omega arith

months_grow : (year : ℕ) → Grows (days_of_months year)
unfolding days_of_months
months_grow year n = omega arith

-- ---- the calendar of a day

year_is : (y m d : ℕ) → IsCivilDate y m d → years_at (days_from_civil y m d) ≡ y - 1970
unfolding days_of_months
year_is y m d h =
    let next = days_from_civil_year y m d (suc y) 1 1 h (omega arith) in
    let same : suc y - 1970 ≡ suc (y - 1970) = omega (arith, h) in
    let before : days_from_civil y m d < days_of_years (suc (y - 1970)) = omega (arith, rw same at next) in
    last_begun_is days_of_years years_grow 8029 (y - 1970) (days_from_civil y m d) (omega (arith, h)) (omega arith) before

day_of_year_is : (y m d : ℕ) → IsCivilDate y m d → day_of_year (days_from_civil y m d) ≡ days_of_months y (m - 1) + (d - 1)
day_of_year_is y m d h = rw (year_is y m d h) (omega arith)

-- the year of the calendar, counted from 1970 and back
year_again : (y : ℕ) → 1970 ≤ y → 1970 + (y - 1970) ≡ y
year_again y h = omega arith

month_again : (m : ℕ) → 1 ≤ m → 1 + (m - 1) ≡ m
month_again m h = omega arith

month_is : (y m d : ℕ) → IsCivilDate y m d → months_at (days_from_civil y m d) ≡ m - 1
month_is y m d h =
    let next = days_from_civil_month y m d (suc m) 1 h (omega arith) in
    let same : suc m - 1 ≡ suc (m - 1) = omega (arith, h) in
    let before : days_of_months y (m - 1) + (d - 1) < days_of_months y (suc (m - 1)) = omega (arith, rw same at next) in
    rw (day_of_year_is y m d h, year_is y m d h, year_again y h.0.0)
    (last_begun_is (days_of_months y) (months_grow y) 11 (m - 1) (days_of_months y (m - 1) + (d - 1)) (omega (arith, h)) (omega arith) before)

day_is : (y m d : ℕ) → IsCivilDate y m d → 1 + (day_of_year (days_from_civil y m d) - days_of_months (1970 + years_at (days_from_civil y m d)) (months_at (days_from_civil y m d))) ≡ d
day_is y m d h = rw (month_is y m d h, day_of_year_is y m d h, year_is y m d h, year_again y h.0.0) (omega (arith, h))

-- ---- the clock of a second

clock_is : (h m s : ℕ) → m < 60 → s < 60 → ((h * 3600 + m * 60 + s) / 3600 ≡ h) × ((h * 3600 + m * 60 + s) % 3600 / 60 ≡ m) × ((h * 3600 + m * 60 + s) % 60 ≡ s)
clock_is h m s b c = omega arith

day_and_clock : (day h m s : ℕ) → h < 24 → m < 60 → s < 60 → ((day * 86400 + h * 3600 + m * 60 + s) / 86400 ≡ day) × ((day * 86400 + h * 3600 + m * 60 + s) % 86400 ≡ h * 3600 + m * 60 + s)
day_and_clock day h m s a b c = omega arith

-- ---- the parts of a date

-- the calendar and the clock give back what they were counted from
parts_again : (p : Parts) → IsValid p → parts_at (days_from_civil p.year p.mon p.day) (p.hour * 3600 + p.min * 60 + p.sec) ≡ p
parts_again p h =
    let y : 1970 + years_at (days_from_civil p.year p.mon p.day) ≡ p.year = ap (λ n. 1970 + n) (year_is _ _ _ h.0) ∙ year_again _ h.0.0.0 in
    let m : 1 + months_at (days_from_civil p.year p.mon p.day) ≡ p.mon = ap (λ n. 1 + n) (month_is _ _ _ h.0) ∙ month_again _ h.0.1.0 in
    let d = day_is _ _ _ h.0 in
    let w = sym h.2 in
    let t = clock_is p.hour p.min p.sec h.1.1 h.1.2 in
    λ i. record { year = y i; mon = m i; day = d i; hour = t.0 i; min = t.1 i; sec = t.2 i; wday = w i }

parts_are : (d : HttpDate) → parts_at (unix_secs d / 86400) (unix_secs d % 86400) ≡ d.parts
parts_are d =
    let split = day_and_clock (days_from_civil d.parts.year d.parts.mon d.parts.day) d.parts.hour d.parts.min d.parts.sec d.time.0 d.time.1 d.time.2 in
    (λ i. parts_at (split.0 i) (split.1 i)) ∙ parts_again d.parts (d.civil, d.time, d.right_day)

-- the date of a second is written as the second says
pub text_is : (d : HttpDate) (moment : ℕ) → unix_secs d ≡ moment → date_text d ≡ imf_fixdate_at moment
unfolding imf_fixdate_at
text_is d moment same = sym (ap imf_fixdate (parts_are d)) ∙ ap imf_fixdate_at same

-- and is read as that second
pub read_back : (d : HttpDate) → date_of (date_text d) ≡ Some (unix_secs d)
read_back d =
    let valid : IsValid d.parts = (d.civil, d.time, d.right_day) in
    ap (option_and_then valid_secs) (parse_complete (date_text d) d.parts valid (inl refl))
    ∙ ap (λ b. if b then Some (parts_secs d.parts) else None) (is_valid_complete d.parts valid)

-- ---- each second has a date

-- a test decides which branch is taken
decided : (P : ℕ → Type 0) (b : Bool) (x y : ℕ) → (b ≡ true → P x) → (b ≡ false → P y) → P (if b then x else y)
decided P true x y is_so isnt = is_so refl
decided P false x y is_so isnt = isnt refl

not_begun : (a b : ℕ) → nat_le a b ≡ false → b < a
not_begun a b e = grind (arith, nat_tests)

-- the last span that has begun has begun
last_begun_from : (begins : ℕ → ℕ) (n day : ℕ) → begins 0 ≤ day → begins (last_begun begins n day) ≤ day
unfolding last_begun
last_begun_from begins zero day h = h
last_begun_from begins (suc n) day h =
    decided (λ span. begins span ≤ day) (nat_le (begins (suc n)) day) (suc n) (last_begun begins n day) (λ e. leb-true _ _ e) (λ _. last_begun_from begins n day h)

-- and has not ended
last_begun_to : (begins : ℕ → ℕ) (n day : ℕ) → day < begins (suc n) → day < begins (suc (last_begun begins n day))
unfolding last_begun
last_begun_to begins zero day h = h
last_begun_to begins (suc n) day h =
    decided (λ span. day < begins (suc span)) (nat_le (begins (suc n)) day) (suc n) (last_begun begins n day) (λ _. h) (λ e. last_begun_to begins n day (not_begun _ _ e))

last_begun_max : (begins : ℕ → ℕ) (n day : ℕ) → last_begun begins n day ≤ n
unfolding last_begun
last_begun_max begins zero day = omega arith
last_begun_max begins (suc n) day =
    let before = last_begun_max begins n day in
    decided (λ span. span ≤ suc n) (nat_le (begins (suc n)) day) (suc n) (last_begun begins n day) (λ _. omega arith) (λ _. omega arith)

-- what lies in a span lies less than its length behind its beginning
inside : (day from len : ℕ) → from ≤ day → day < from + len → day - from < len
inside day from len h k = omega arith

one_more : (n : ℕ) → suc n ≡ 1 + n
one_more n = omega arith

year_begun : (day : ℕ) → days_of_years (years_at day) ≤ day
unfolding days_of_years
year_begun day = last_begun_from days_of_years 8029 day (omega arith)

-- a day lies in its year
in_year : (day : ℕ) → day < 2932897 → day_of_year day < days_of_months (1970 + years_at day) 12
unfolding days_of_years
in_year day h =
    let closed = days_of_years_closed 8030 in
    let to : day < days_of_years (years_at day) + days_in_year (1970 + years_at day) = last_begun_to days_of_years 8029 day (omega (arith, closed)) in
    rw (days_of_months_all (1970 + years_at day)) (inside day (days_of_years (years_at day)) (days_in_year (1970 + years_at day)) (year_begun day) to)

month_begun : (day : ℕ) → days_of_months (1970 + years_at day) (months_at day) ≤ day_of_year day
unfolding days_of_months
month_begun day = last_begun_from (days_of_months (1970 + years_at day)) 11 (day_of_year day) (omega arith)

months_more : (year n : ℕ) → days_of_months year (suc n) ≡ days_of_months year n + days_in_month year (1 + n)
unfolding days_of_months
months_more year n = ap (λ m. days_of_months year n + days_in_month year m) (one_more n)

-- and in its month
in_month : (day : ℕ) → day < 2932897 → day_of_year day - days_of_months (1970 + years_at day) (months_at day) < days_in_month (1970 + years_at day) (1 + months_at day)
in_month day h =
    let to = last_begun_to (days_of_months (1970 + years_at day)) 11 (day_of_year day) (in_year day h) in
    let more = months_more (1970 + years_at day) (months_at day) in
    inside (day_of_year day) (days_of_months (1970 + years_at day) (months_at day)) (days_in_month (1970 + years_at day) (1 + months_at day)) (month_begun day)
    (subst (λ end. day_of_year day < end) more to)

behind : (k n : ℕ) → k + n - k ≡ n
behind k n = omega arith

sum_again : (year month day : ℕ) → year ≤ day → month ≤ day - year → year + month + (day - year - month) ≡ day
sum_again year month day h k = omega arith

civil_is : (day : ℕ) → days_from_civil (1970 + years_at day) (1 + months_at day) (1 + (day_of_year day - days_of_months (1970 + years_at day) (months_at day))) ≡ day
civil_is day =
    let year = behind 1970 (years_at day) in
    let month = behind 1 (months_at day) in
    let of_month = behind 1 (day_of_year day - days_of_months (1970 + years_at day) (months_at day)) in
    (λ i. days_of_years (year i) + days_of_months (1970 + years_at day) (month i) + of_month i)
    ∙ sum_again (days_of_years (years_at day)) (days_of_months (1970 + years_at day) (months_at day)) day (year_begun day) (month_begun day)

counted : (n end : ℕ) → n < end → 1 + n ≤ end
counted n end h = omega arith

-- the calendar has each day up to the year 9999, and the clock each second
pub has_date : (day second : ℕ) → day < 2932897 → second < 86400 → IsValid (parts_at day second)
has_date day second h k =
    let years = last_begun_max days_of_years 8029 day in
    let months = last_begun_max (days_of_months (1970 + years_at day)) 11 (day_of_year day) in (
      ((omega arith, omega (arith, years)), (omega arith, omega (arith, months)), (omega arith, counted _ _ (in_month day h))),
      (omega arith, omega arith, omega arith),
      ap weekday (sym (civil_is day)),
    )

-- the seconds of the parts are the second
whole : (moment : ℕ) → moment / 86400 * 86400 + moment % 86400 / 3600 * 3600 + moment % 86400 % 3600 / 60 * 60 + moment % 86400 % 60 ≡ moment
whole moment = omega arith

-- the date of each moment is read back
pub written_read_back : (moment : ℕ) → moment < 253402300800 → date_of (imf_fixdate_at moment) ≡ Some moment
unfolding imf_fixdate_at
written_read_back moment h =
    let valid = has_date (moment / 86400) (moment % 86400) (omega arith) (omega arith) in
    let seconds = ap (λ days. days * 86400 + moment % 86400 / 3600 * 3600 + moment % 86400 % 3600 / 60 * 60 + moment % 86400 % 60) (civil_is (moment / 86400)) ∙ whole moment in
    read_back (record { parts = parts_at (moment / 86400) (moment % 86400); civil = valid.0; time = valid.1; right_day = valid.2 })
    ∙ ap (λ n. Some n) seconds
