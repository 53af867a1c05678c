-- What is shown of moments.
use Rattle.std.specs.Prelude.{◌≡◌, ◌≤◌, ◌*◌, ◌-◌, ◌^◌, ℕ, ℤ, pos, List, ◌++◌, Option, Some, None, codes}
use Rattle.std.specs.Fmt.{decimal, format_spec, styled_decimal, styled_signed_decimal}
use Rattle.jiff_core.specs.declared.civil.date.Date.{Date}
use Rattle.jiff_core.specs.declared.civil.datetime.DateTime.{DateTime}
use Rattle.jiff_core.specs.declared.civil.time.Time.{Time}
use Rattle.jiff_core.specs.DateTime.{civil_nanos}

-- a number behind zeros, and so a date, a time of day, and both
abbrev pub two_digits : ℕ → List ℕ
two_digits n = styled_decimal (format_spec 32 0 4 2 (2 ^ 64 - 1)) n

abbrev pub four_digits : ℤ → List ℕ
four_digits n = styled_signed_decimal (format_spec 32 0 4 4 (2 ^ 64 - 1)) n

abbrev pub date_text : Date → List ℕ
date_text date = four_digits date.year ++ (codes "-" ++ (two_digits date.month ++ (codes "-" ++ two_digits date.day)))

abbrev pub time_text : Time → List ℕ
time_text time = two_digits time.hour ++ (codes ":" ++ (two_digits time.minute ++ (codes ":" ++ two_digits time.second)))

abbrev pub date_time_text : DateTime → List ℕ
date_time_text at = date_text at.date ++ (codes " " ++ time_text at.time)

-- the date and the time of day of a moment, in seconds since 1970: none behind the year 9999
abbrev pub IsDateTimeOf : ℕ → Option DateTime → Type 0
IsDateTimeOf moment None = 253_402_300_800 ≤ moment
IsDateTimeOf moment (Some at) = civil_nanos at ≡ pos (moment * 1_000_000_000)

-- a moment: its date and its time of day, or the number of its seconds
abbrev pub moment_text : ℕ → Option DateTime → List ℕ
moment_text moment None = decimal moment
moment_text moment (Some at) = date_time_text at

abbrev pub AddsMoment : ℕ → List ℕ → List ℕ → Type 0
AddsMoment moment old new = (at : Option DateTime) × IsDateTimeOf moment at × (new ≡ old ++ moment_text moment at)
