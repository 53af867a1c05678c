-- The Date of a response (RFC 9110 section 6.6.1).
use Rattle.std.specs.Prelude.{ℕ, List, [], ◌∷◌, ◌++◌, Option, Some, None, option_and_then, codes}
use Rattle.hc_fields.specs.declared.fields.Field.{Field}
use Rattle.hc_fields.specs.Values.{only_value, without}
use Rattle.hc_fresh.specs.Dates.{date_of, imf_fixdate_at}

-- the moment of the Date, where there is exactly one Date line and it is a date
abbrev pub date_stated : List Field → Option ℕ
date_stated fields = option_and_then date_of (only_value (codes "date") fields)

-- a Date line of that moment
abbrev pub date_line : ℕ → Field
date_line moment = record { name = codes "date"; value = imf_fixdate_at moment }

-- the fields, where they state a date; else those without their Date lines, and a line of that moment behind them
abbrev pub dated_by : Option ℕ → ℕ → List Field → List Field
dated_by (Some date) moment fields = fields
dated_by None moment fields = without (codes "date") fields ++ date_line moment ∷ []

-- the fields with exactly one Date: the one that they state, else that of the moment
abbrev pub dated : ℕ → List Field → List Field
dated moment fields = dated_by (date_stated fields) moment fields
