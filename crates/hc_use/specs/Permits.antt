-- What permits to give a stored response that is stale (RFC 9111 section 4.2.4, RFC 5861).
use Rattle.std.specs.Prelude.{◌≡◌, ℕ, Bool, true, false, ◌&&◌, ◌||◌, not, Option, Some, None, codes, if◌then◌else◌}
use Rattle.hc_fresh.specs.Ages.{fresh}
use Rattle.hc_fresh.specs.Lifetimes.{seconds_said, stale_forbidden}
use Rattle.hc_update.specs.declared.stored.Stored.{Stored}
use Rattle.hc_history.specs.Allowing.{allowed_staleness, grace_permits, is_allowed_fresh, use_is_allowed}
use Rattle.hc_history.specs.Claims.{Claim}
use Rattle.hc_history.specs.Usable.{age_of, is_fresh_within, lifetime_of, meanwhile_permits, permits, request_permits, validated_since}
use Rattle.hc_use.specs.declared.permits.Permit.{Permit}
use Rattle.hc_use.specs.declared.permits.Permit.TheVariants.{Slack, DefaultLifetime, MaxStale, WhileRevalidating, IfError, AskedIfError, Unreachable, Grace}
use Rattle.hc_use.specs.declared.permits.StaleUse.{StaleUse}
use Rattle.hc_use.specs.Using.{usage_of}

-- the state is stale at the reply, wasn't validated behind its request, and may be used
abbrev pub is_used_stale : Claim → Stored → Bool
is_used_stale claim state =
    not (validated_since claim.since state.validated_at) && not (fresh (lifetime_of state) (age_of claim state)) && use_is_allowed claim state

-- ---- the first thing that permits to give it

-- what is fresh by the lifetime that the audit allows is so by its default lifetime, if it gives one
abbrev pub lent : Option ℕ → Permit
lent None = Slack
lent (Some seconds) = DefaultLifetime seconds

-- what nothing else permits is permitted by its grace, if it allows one
abbrev pub granted : Option ℕ → Permit
granted None = Unreachable
granted (Some seconds) = Grace seconds

-- of that staleness: what the request says, what the response says of the time in which it is validated (RFC 5861 section 3), and of errors (section 4), what the request
-- says of these; that the origin can't be reached; the grace
abbrev pub permit_by : Claim → Stored → ℕ → Permit
permit_by claim state stale =
    if request_permits claim.settings.slack stale claim.request.fields then MaxStale else
    (if meanwhile_permits claim.settings.slack stale state.fields then WhileRevalidating else
    (if (claim.has_error || claim.has_failure) && permits claim.settings.slack stale (seconds_said (codes "stale-if-error") state.fields) then IfError else
    (if (claim.has_error || claim.has_failure) && permits claim.settings.slack stale (seconds_said (codes "stale-if-error") claim.request.fields) then AskedIfError else
    (if claim.has_failure then Unreachable else granted claim.settings.allowed.grace))))

abbrev pub permit_of : Claim → Stored → Permit
permit_of claim state =
    if is_fresh_within claim.settings.slack state claim.moment then Slack else
    (if is_allowed_fresh claim state then lent claim.settings.allowed.default_lifetime else permit_by claim state (allowed_staleness claim state))

abbrev pub stale_use_of : Claim → Stored → Option StaleUse
stale_use_of claim state =
    if is_used_stale claim state then Some (record { usage = usage_of claim state; permit = permit_of claim state }) else None

-- ---- what it is for each to permit that

abbrev pub DoesPermit : Claim → Stored → Permit → Type 0
-- it is fresh, give or take the slack
DoesPermit claim state Slack = is_fresh_within claim.settings.slack state claim.moment ≡ true
-- it is fresh by the lifetime that is allowed, and the audit gives that one
DoesPermit claim state (DefaultLifetime seconds) =
    (claim.settings.allowed.default_lifetime ≡ Some seconds) × (is_allowed_fresh claim state ≡ true)
-- nothing in it forbids to serve it stale, and the request permits its staleness
DoesPermit claim state MaxStale =
    (stale_forbidden state.fields ≡ false)
    × (request_permits claim.settings.slack (allowed_staleness claim state) claim.request.fields ≡ true)
-- or the response does, while it is validated
DoesPermit claim state WhileRevalidating =
    (stale_forbidden state.fields ≡ false)
    × (meanwhile_permits claim.settings.slack (allowed_staleness claim state) state.fields ≡ true)
-- or the response does, where an error or a failure stands in the window
DoesPermit claim state IfError =
    (stale_forbidden state.fields ≡ false)
    × ((claim.has_error || claim.has_failure) ≡ true)
    × (permits claim.settings.slack (allowed_staleness claim state) (seconds_said (codes "stale-if-error") state.fields) ≡ true)
-- or the request does so there
DoesPermit claim state AskedIfError =
    (stale_forbidden state.fields ≡ false)
    × ((claim.has_error || claim.has_failure) ≡ true)
    × (permits claim.settings.slack (allowed_staleness claim state) (seconds_said (codes "stale-if-error") claim.request.fields) ≡ true)
-- or a failure stands in the window
DoesPermit claim state Unreachable = (stale_forbidden state.fields ≡ false) × (claim.has_failure ≡ true)
-- or the audit allows that grace, which permits its staleness
DoesPermit claim state (Grace seconds) =
    (stale_forbidden state.fields ≡ false)
    × (claim.settings.allowed.grace ≡ Some seconds)
    × (grace_permits claim.settings.slack (allowed_staleness claim state) (Some seconds) ≡ true)
