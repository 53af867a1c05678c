-- Whether a stored response may be used for a reply (RFC 9111 section 4), by an audit, which lets some slack pass, or by a cache, which has none.
use Rattle.std.specs.Prelude.{ℕ, Bool, true, false, ◌&&◌, ◌||◌, ◌+◌, not, nat_lt, nat_le, List, Option, Some, None, codes}
use Rattle.hc_fields.specs.declared.fields.Field.{Field}
use Rattle.hc_directives.specs.declared.cache_control.Seconds.{Seconds}
use Rattle.hc_directives.specs.declared.cache_control.Seconds.TheVariants.{Bare, Value}
use Rattle.hc_fresh.specs.Lifetimes.{freshness_lifetime, says, seconds_said, stale_forbidden}
use Rattle.hc_fresh.specs.Ages.{current_age, staleness}
use Rattle.hc_update.specs.declared.stored.Stored.{Stored}
use Rattle.hc_history.specs.Claims.{Claim}

-- ---- lifetime and age at a moment

-- its freshness lifetime (RFC 9111 section 4.2.1)
abbrev pub lifetime_of : Stored → ℕ
lifetime_of stored = freshness_lifetime stored.fields stored.times.date

-- its age then (RFC 9111 section 4.2.3)
abbrev pub age_at : Stored → ℕ → ℕ
age_at stored moment = current_age stored.times moment

-- by how much it is stale then, 0 where it is fresh (RFC 9111 section 4.2)
abbrev pub staleness_at : Stored → ℕ → ℕ
staleness_at stored moment = staleness (lifetime_of stored) (age_at stored moment)

-- its age at the moment of the reply
abbrev pub age_of : Claim → Stored → ℕ
age_of claim state = age_at state claim.moment

-- ---- fresh, and what permits staleness (RFC 9111 sections 4.2 and 4.2.4), give or take so many seconds of slack

-- whether it is fresh then
abbrev pub is_fresh_within : ℕ → Stored → ℕ → Bool
is_fresh_within slack stored moment = nat_lt (age_at stored moment) (lifetime_of stored + slack)

-- whether a directive permits the staleness; only one that says a number does
abbrev pub permits : ℕ → ℕ → Seconds → Bool
permits slack stale (Value seconds) = nat_le stale (seconds + slack)
permits slack stale said = false

-- whether the request's max-stale permits it; a bare one permits any (RFC 9111 section 5.2.1.2)
abbrev pub max_stale_permits : ℕ → ℕ → Seconds → Bool
max_stale_permits slack stale Bare = true
max_stale_permits slack stale said = permits slack stale said

-- whether the max-stale of a request of those fields permits that staleness
abbrev pub request_permits : ℕ → ℕ → List Field → Bool
request_permits slack stale asked = max_stale_permits slack stale (seconds_said (codes "max-stale") asked)

-- whether stale-while-revalidate of a response of those fields does (RFC 5861 section 3)
abbrev pub meanwhile_permits : ℕ → ℕ → List Field → Bool
meanwhile_permits slack stale fields = permits slack stale (seconds_said (codes "stale-while-revalidate") fields)

-- whether stale-if-error of the response or of the request does (RFC 5861 section 4)
abbrev pub error_permits : ℕ → ℕ → List Field → List Field → Bool
error_permits slack stale asked fields =
    permits slack stale (seconds_said (codes "stale-if-error") fields) || permits slack stale (seconds_said (codes "stale-if-error") asked)

-- the same of how stale it is then
abbrev pub permits_by_request : ℕ → List Field → Stored → ℕ → Bool
permits_by_request slack asked stored moment = request_permits slack (staleness_at stored moment) asked

abbrev pub permits_meanwhile : ℕ → Stored → ℕ → Bool
permits_meanwhile slack stored moment = meanwhile_permits slack (staleness_at stored moment) stored.fields

abbrev pub permits_on_error : ℕ → List Field → Stored → ℕ → Bool
permits_on_error slack asked stored moment = error_permits slack (staleness_at stored moment) asked stored.fields

-- ---- in an audit

-- one of these permits that staleness of a state: the request, the response while it is validated, either where an error or a failure stands in the window; or the
-- origin can't be reached, so that a failure stands there
abbrev pub permits_staleness : Claim → Stored → ℕ → Bool
permits_staleness claim state stale =
    request_permits claim.settings.slack stale claim.request.fields
    || meanwhile_permits claim.settings.slack stale state.fields
    || ((claim.has_error || claim.has_failure) && error_permits claim.settings.slack stale claim.request.fields state.fields)
    || claim.has_failure

-- the state may be served stale: nothing in it forbids that, and its staleness is permitted
abbrev pub permits_stale : Claim → Stored → Bool
permits_stale claim state = not (stale_forbidden state.fields) && permits_staleness claim state (staleness_at state claim.moment)

-- whether the state was validated in the window
abbrev pub validated_since : ℕ → Option ℕ → Bool
validated_since since None = false
validated_since since (Some position) = nat_lt since position

-- the state may be used: it was validated in the window; or it has no no-cache (RFC 9111 section 5.2.2.4), and is fresh or may be served stale
abbrev pub is_usable : Claim → Stored → Bool
is_usable claim state =
    validated_since claim.since state.validated_at
    || (not (says (codes "no-cache") state.fields)
    && (is_fresh_within claim.settings.slack state claim.moment || permits_stale claim state))
