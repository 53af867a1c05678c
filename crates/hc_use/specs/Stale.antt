-- How stale a response may be served (RFC 9111 section 4.2.4, RFC 5861), and which setting of an audit would permit more.
use Rattle.std.specs.Prelude.{ℕ, List, Bool, ◌&&◌, ◌||◌, ◌+◌, ◌-◌, ◌^◌, not, max, min, nat_lt, true, false, Option, Some, None, codes, if◌then◌else◌}
use Rattle.std.specs.Option.{option_map}
use Rattle.hc_directives.specs.declared.cache_control.Seconds.{Seconds}
use Rattle.hc_directives.specs.declared.cache_control.Seconds.TheVariants.{Absent, Bare, Value, Unreadable}
use Rattle.hc_fields.specs.declared.fields.Field.{Field}
use Rattle.hc_fresh.specs.Ages.{staleness}
use Rattle.hc_fresh.specs.Lifetimes.{explicit, says, seconds_said, stale_forbidden}
use Rattle.hc_rules.specs.Storing.{is_heuristically_cacheable}
use Rattle.hc_update.specs.declared.stored.Stored.{Stored}
use Rattle.hc_history.specs.declared.settings.Settings.{Settings}
use Rattle.hc_history.specs.declared.settings.UnmarkedReplies.TheVariants.{Allow}
use Rattle.hc_history.specs.Claims.{Claim}
use Rattle.hc_history.specs.Allowing.{allowed_staleness}
use Rattle.hc_history.specs.Usable.{age_of, lifetime_of, meanwhile_permits, permits, request_permits}
use Rattle.hc_use.specs.declared.stale.Excess.{Excess}
use Rattle.hc_use.specs.declared.stale.Excess.TheVariants.{By, NoError}
use Rattle.hc_use.specs.declared.stale.Setting.{Setting}
use Rattle.hc_use.specs.declared.stale.Setting.TheVariants.{AddedFields, AgeSlack, All, DefaultLifetime, Grace, InferredMarks, JoinedLines, Ranges, Slack, Unmarked}
use Rattle.hc_use.specs.declared.stale.StaleSaid.{StaleSaid}

-- ---- what is said

abbrev pub stale_said_of : Claim → Stored → StaleSaid
stale_said_of claim state = record {
  max_stale = seconds_said (codes "max-stale") claim.request.fields;
  while_revalidating = seconds_said (codes "stale-while-revalidate") state.fields;
  if_error = seconds_said (codes "stale-if-error") state.fields;
  asked_if_error = seconds_said (codes "stale-if-error") claim.request.fields;
}

-- ---- whether a response states its lifetime so that it can be read

-- what it says of its lifetime by a directive (RFC 9111 section 4.2.1)
abbrev pub said_lifetime : List Field → Seconds
said_lifetime fields = if says (codes "s-maxage") fields then seconds_said (codes "s-maxage") fields else seconds_said (codes "max-age") fields

-- a directive says a number, or isn't there
abbrev pub is_number : Seconds → Bool
is_number Absent = true
is_number Bare = false
is_number (Value seconds) = true
is_number Unreadable = false

-- it doesn't state its lifetime by what should be a number, and is none
abbrev pub is_read : List Field → Bool
is_read fields = is_number (said_lifetime fields)

-- it states a lifetime, in a way that can be read
abbrev pub is_stated : List Field → Bool
is_stated fields = explicit fields && is_read fields

-- ---- whether a response might be given as stale as it is, did it not say no-cache

-- a directive forbids to give it stale, but for no-cache
abbrev pub is_forbidden : List Field → Bool
is_forbidden fields = says (codes "must-revalidate") fields || says (codes "proxy-revalidate") fields || says (codes "s-maxage") fields

-- the request permits that staleness, or the response while it is validated, or either on an error, where one came
abbrev pub is_said : Claim → Stored → ℕ → Bool
is_said claim state stale =
    request_permits claim.settings.slack stale claim.request.fields
    || meanwhile_permits claim.settings.slack stale state.fields
    || ((claim.has_error || claim.has_failure) && permits claim.settings.slack stale (seconds_said (codes "stale-if-error") state.fields))
    || ((claim.has_error || claim.has_failure) && permits claim.settings.slack stale (seconds_said (codes "stale-if-error") claim.request.fields))

-- nothing else forbids it, and these permit it, or the origin can't be reached
abbrev pub is_permitted : Claim → Stored → Bool
is_permitted claim state = not (is_forbidden state.fields) && (is_said claim state (allowed_staleness claim state) || claim.has_failure)

-- ---- by how many seconds a response may be stale at most

-- the seconds of a directive that says a number
abbrev pub seconds_in : Seconds → Option ℕ
seconds_in Absent = None
seconds_in Bare = None
seconds_in (Value seconds) = Some seconds
seconds_in Unreadable = None

abbrev pub greater : Option ℕ → Option ℕ → Option ℕ
greater None other = other
greater (Some one) None = Some one
greater (Some one) (Some other) = Some (max one other)

-- by what the request and the response say, whatever the origin answers, and by the grace of the audit
abbrev pub ever_tolerated : Claim → StaleSaid → Option ℕ
ever_tolerated claim said = greater claim.settings.allowed.grace (greater (seconds_in said.max_stale) (seconds_in said.while_revalidating))

-- where an error or a failure stands in the window, by stale-if-error as well
abbrev pub tolerated : Claim → Stored → Option ℕ
tolerated claim state =
    if stale_forbidden state.fields then None else
    (if claim.has_error || claim.has_failure
    then greater (ever_tolerated claim (stale_said_of claim state)) (greater (seconds_in (stale_said_of claim state).if_error) (seconds_in (stale_said_of claim state).asked_if_error))
    else ever_tolerated claim (stale_said_of claim state))

-- ---- by how much a response is staler than a directive permits (RFC 9111 sections 4.2.4 and 5.2.1.2, RFC 5861 sections 3 and 4)

-- by how many seconds one that is so stale is over that many; what permits it on an error permits nothing where none came
abbrev pub over_seconds : ℕ → Bool → ℕ → Bool → Excess
over_seconds permitted on_error stale had_error =
    if on_error && not had_error then NoError permitted else By (stale - permitted) permitted

-- the same of a directive, where it says a number
abbrev pub over_of : Seconds → Bool → ℕ → Bool → Option Excess
over_of said on_error stale had_error =
    option_map (λ permitted. over_seconds permitted on_error stale had_error) (seconds_in said)

-- ---- the settings

-- the least lifetime with which a response of that age is fresh, or no staler than is permitted, give or take the slack
abbrev pub lifetime_for : Option ℕ → ℕ → ℕ → ℕ
lifetime_for None age slack = age + 1 - slack
lifetime_for (Some seconds) age slack = age - (seconds + slack)

abbrev pub least_lifetime : Claim → Stored → ℕ
least_lifetime claim state = lifetime_for (tolerated claim state) (age_of claim state) claim.settings.slack

-- the least grace that permits its staleness, give or take the slack
abbrev pub least_grace : Claim → Stored → ℕ
least_grace claim state = staleness (lifetime_of state) (age_of claim state) - claim.settings.slack

-- whether a response may be given a lifetime: it states none, and is public or of a status that may be stored where nothing says so
abbrev pub takes_lifetime : Stored → Bool
takes_lifetime state = not (explicit state.fields) && (says (codes "public") state.fields || is_heuristically_cacheable state.status)

-- the setting that permits to use it, if one does
abbrev pub setting_of : Claim → Stored → Option Setting
setting_of claim state =
    if says (codes "no-cache") state.fields then None else
    (if takes_lifetime state then Some (DefaultLifetime (least_lifetime claim state)) else
    (if stale_forbidden state.fields then None else Some (Grace (least_grace claim state))))

-- the most seconds that an option takes
abbrev pub most_asked : ℕ
most_asked = 2147483648

-- a setting, if an option takes its seconds
abbrev pub fitting : Option Setting → Option Setting
fitting None = None
fitting (Some (DefaultLifetime seconds)) = if nat_lt most_asked seconds then None else Some (DefaultLifetime seconds)
fitting (Some (Grace seconds)) = if nat_lt most_asked seconds then None else Some (Grace seconds)
fitting (Some other) = Some other

-- the setting that is told
abbrev pub told_setting : Claim → Stored → Option Setting
told_setting claim state = fitting (setting_of claim state)

-- as many seconds as settings may have at most
abbrev pub most_seconds : ℕ
most_seconds = 2 ^ 32 - 1

-- the settings with that one
abbrev pub settings_with : Setting → Settings → Settings
settings_with (DefaultLifetime seconds) settings =
    record settings { allowed = record settings.allowed { default_lifetime = Some (min seconds most_seconds) } }
settings_with (Grace seconds) settings =
    record settings { allowed = record settings.allowed { grace = Some (min seconds most_seconds) } }
settings_with (Slack seconds) settings = record settings { slack = min seconds most_seconds }
settings_with (AgeSlack seconds) settings = record settings { allowed = record settings.allowed { age_slack = min seconds most_seconds } }
settings_with Unmarked settings = record settings { unmarked = Allow }
settings_with AddedFields settings = record settings { allowed = record settings.allowed { added_fields = true } }
settings_with JoinedLines settings = record settings { allowed = record settings.allowed { joined_lines = true } }
settings_with Ranges settings = record settings { allowed = record settings.allowed { ranges = true } }
settings_with All settings = record settings { allowed = record settings.allowed { added_fields = true; joined_lines = true; ranges = true } }
settings_with InferredMarks settings = record settings { allowed = record settings.allowed { inferred_marks = true } }
