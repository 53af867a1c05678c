-- Whether a stored response may be served to a request at a moment (RFC 9111 section 4).
use Rattle.std.specs.Prelude.{ℕ, Bool, ◌&&◌, ◌||◌, ◌-◌, not, List, ℤ, pos, ◌-ℤ◌, codes}
use Rattle.hc_fields.specs.declared.fields.Field.{Field}
use Rattle.hc_fresh.specs.Lifetimes.{says, seconds_said, stale_forbidden}
use Rattle.hc_rules.specs.Conditions.{client_condition}
use Rattle.hc_update.specs.declared.stored.Stored.{Stored}
use Rattle.hc_history.specs.Usable.{age_at, is_fresh_within, lifetime_of, permits_by_request, permits_meanwhile, permits_on_error}
use Rattle.hc_service.specs.Asking.{allows_age, allows_left, asks_for_fresh}

-- ---- fresh, and what permits staleness: as in an audit, without any slack

-- whether it is fresh then (section 4.2)
abbrev pub is_fresh : Stored → ℕ → Bool
is_fresh stored moment = is_fresh_within 0 stored moment

-- for how many seconds it is fresh still, negative where it is stale (RFC 9211 section 2.4)
abbrev pub ttl_at : Stored → ℕ → ℤ
ttl_at stored moment = pos (lifetime_of stored) -ℤ pos (age_at stored moment)

-- whether stale-while-revalidate of the response permits its staleness (RFC 5861 section 3)
abbrev pub while_revalidating : Stored → ℕ → Bool
while_revalidating stored moment = permits_meanwhile 0 stored moment

-- ---- may be served

-- neither the response nor the request says no-cache, so that it may be used without validation (sections 5.2.1.4 and 5.2.2.4)
abbrev pub may_be_used : List Field → Stored → Bool
may_be_used asked stored = not (says (codes "no-cache") stored.fields) && not (says (codes "no-cache") asked)

-- it is fresh, and for as long as the request's min-fresh asks
abbrev pub is_fresh_enough : List Field → Stored → ℕ → Bool
is_fresh_enough asked stored moment =
    is_fresh stored moment && allows_left (lifetime_of stored - age_at stored moment) (seconds_said (codes "min-fresh") asked)

-- it isn't fresh, but nothing forbids that it is served stale, the request has no min-fresh, and max-stale or stale-while-revalidate permits its staleness
abbrev pub is_permitted_stale : List Field → Stored → ℕ → Bool
is_permitted_stale asked stored moment =
    not (is_fresh stored moment)
    && not (stale_forbidden stored.fields)
    && not (asks_for_fresh (seconds_said (codes "min-fresh") asked))
    && (permits_by_request 0 asked stored moment || while_revalidating stored moment)

-- the stored response may be served to a request of those fields
abbrev pub may_be_served : List Field → Stored → ℕ → Bool
may_be_served asked stored moment =
    may_be_used asked stored
    && allows_age (age_at stored moment) (seconds_said (codes "max-age") asked)
    && (is_fresh_enough asked stored moment || is_permitted_stale asked stored moment)

-- ---- in place of an error, or of a failure

-- the stored response may take its place: it is fresh, or may be served stale on errors (RFC 5861 section 4)
abbrev pub may_replace : List Field → Stored → ℕ → Bool
may_replace asked stored moment =
    may_be_used asked stored
    && (is_fresh stored moment || (not (stale_forbidden stored.fields) && permits_on_error 0 asked stored moment))

-- ---- the client's own condition

-- it holds for the stored response, so that the client is told that what it has still holds (section 4.3.2)
abbrev pub has_still : List Field → Stored → Bool
has_still asked stored = client_condition asked stored.status stored.fields
