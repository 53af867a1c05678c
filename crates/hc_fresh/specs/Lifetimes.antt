-- How long a stored response stays fresh (RFC 9111 sections 4.2.1, 5.2.2 and 5.3).
use Rattle.std.specs.Prelude.{ℕ, Bool, ◌||◌, ◌-◌, min, List, Option, Some, None, option_map, unwrap_or, codes}
use Rattle.std.specs.List.{slice_get}
use Rattle.std.specs.Option.{option_or}
use Rattle.hc_fields.specs.declared.fields.Field.{Field}
use Rattle.hc_fields.specs.Numbers.{largest_number}
use Rattle.hc_fields.specs.Values.{values_of, has_name}
use Rattle.hc_directives.specs.declared.cache_control.Seconds.{Seconds}
use Rattle.hc_directives.specs.declared.cache_control.Seconds.TheVariants.{Absent, Bare, Value, Unreadable}
use Rattle.hc_directives.specs.Directives.{cache_control, has_directive, first_directive, seconds_of}
use Rattle.hc_fresh.specs.declared.lifetimes.Freshness.{Freshness}
use Rattle.hc_fresh.specs.Dates.{date_of}

-- ---- the lifetime that a response states

-- the lifetime that a directive states: one that is there and says no number states 0
abbrev pub seconds_stated : Seconds → Option ℕ
seconds_stated Absent = None
seconds_stated Bare = Some 0
seconds_stated (Value seconds) = Some seconds
seconds_stated Unreadable = Some 0

-- the lifetime that the directive of that name states, if it is there
abbrev pub directive_lifetime : List ℕ → List Field → Option ℕ
directive_lifetime name fields = seconds_stated (seconds_of (first_directive name (cache_control fields).directives))

-- the seconds from a date to that of an Expires, 0 where that isn't later or is no date (section 5.3)
abbrev pub seconds_until : ℕ → List ℕ → ℕ
seconds_until date expires = min largest_number (unwrap_or (option_map (λ end. end - date) (date_of expires)) 0)

-- the lifetime that the first Expires states, if there is one
abbrev pub expires_lifetime : List Field → ℕ → Option ℕ
expires_lifetime fields date = option_map (seconds_until date) (slice_get (values_of (codes "expires") fields) 0)

-- the lifetime that a response states to a shared cache: by s-maxage, else by max-age, else by Expires (section 4.2.1)
abbrev pub stated_lifetime : List Field → ℕ → Option ℕ
stated_lifetime fields date =
    option_or (directive_lifetime (codes "s-maxage") fields)
    (option_or (directive_lifetime (codes "max-age") fields) (expires_lifetime fields date))

-- the freshness lifetime of a response of that date: what it states, else 0
abbrev pub freshness_lifetime : List Field → ℕ → ℕ
freshness_lifetime fields date = unwrap_or (stated_lifetime fields date) 0

-- ---- what else it says

-- whether the response has a directive of that name
abbrev pub says : List ℕ → List Field → Bool
says name fields = has_directive name (cache_control fields).directives

-- the seconds that the first directive of that name says
abbrev pub seconds_said : List ℕ → List Field → Seconds
seconds_said name fields = seconds_of (first_directive name (cache_control fields).directives)

-- whether s-maxage, max-age or Expires is there, whatever it says
abbrev pub explicit : List Field → Bool
explicit fields = says (codes "s-maxage") fields || says (codes "max-age") fields || has_name (codes "expires") fields

-- whether a directive forbids that a shared cache serves the response stale, whatever its argument (section 4.2.4)
abbrev pub stale_forbidden : List Field → Bool
stale_forbidden fields =
    says (codes "no-cache") fields || says (codes "must-revalidate") fields
    || says (codes "proxy-revalidate") fields || says (codes "s-maxage") fields

-- what a response of that date states of its freshness
abbrev pub freshness_stated : List Field → ℕ → Freshness
freshness_stated fields date =
    record { is_explicit = explicit fields; lifetime = freshness_lifetime fields date; no_cache = says (codes "no-cache") fields }
