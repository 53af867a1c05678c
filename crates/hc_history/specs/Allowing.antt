-- The filters of an audit: each is its strict rule, or what the settings allow beside that.
use Rattle.std.specs.Prelude.{ℕ, Bool, true, false, ◌&&◌, ◌||◌, ◌+◌, not, nat_lt, nat_le, max, is_some, List, [], ◌∷◌, Option, Some, None, option_and_then, codes, bytes_eq}
use Rattle.std.specs.List.{list_any, list_all}
use Rattle.std.specs.Option.{option_eq}
use Rattle.hc_fields.specs.Lists.{members_of}
use Rattle.hc_fields.specs.Numbers.{number_of}
use Rattle.hc_fields.specs.Values.{has_name, joined_values, only_value, values_of}
use Rattle.hc_fresh.specs.Ages.{staleness}
use Rattle.hc_fresh.specs.Lifetimes.{explicit, says, stale_forbidden}
use Rattle.hc_rules.specs.Selecting.{is_met}
use Rattle.hc_rules.specs.Storing.{is_heuristically_cacheable}
use Rattle.hc_update.specs.declared.stored.Stored.{Stored}
use Rattle.hc_history.specs.declared.allowed.Allowed.{Allowed}
use Rattle.hc_history.specs.declared.kept.Kept.{Kept}
use Rattle.hc_history.specs.Allowed.{is_named}
use Rattle.hc_history.specs.Claims.{Claim}
use Rattle.hc_history.specs.Filters.{compared_names, has_its_age, has_its_body, has_its_ttl, is_asked_for, is_exempt, is_valid, same_values, within}
use Rattle.hc_history.specs.Ranges.{is_no_part}
use Rattle.hc_history.specs.Usable.{age_of, is_usable, lifetime_of, permits_staleness}

-- ---- 2: Vary, where a cache normalizes what it selects by (RFC 9111 section 4.1)

-- whether a member of Vary is the name of a field that the cache normalizes; `*` names none
abbrev pub is_normalized : Allowed → List ℕ → Bool
is_normalized allowed member = is_named allowed.normalized member && not (bytes_eq member (codes "*"))

-- a member of Vary is met, or passed over by its name
abbrev pub is_met_or_normalized : Claim → Stored → List ℕ → Bool
is_met_or_normalized claim state member =
    is_met state.request.fields claim.request.fields member || is_normalized claim.settings.allowed member

abbrev pub selection_is_allowed : Claim → Stored → Bool
selection_is_allowed claim state = list_all (is_met_or_normalized claim state) (members_of (codes "vary") state.fields)

-- ---- 4 and 5: a lifetime for what states none (RFC 9111 section 4.2.2), and staleness for a time (section 4.2.4)

-- whether a default lifetime is allowed to a state: it states none, and is public or of a status that may be stored where nothing says so
abbrev pub takes_default : Claim → Stored → Bool
takes_default claim state =
    is_some claim.settings.allowed.default_lifetime && not (explicit state.fields)
    && (says (codes "public") state.fields || is_heuristically_cacheable state.status)

-- its lifetime then; what states none has the lifetime 0 by itself
abbrev pub at_least : Option ℕ → Bool → ℕ → ℕ
at_least (Some seconds) true lifetime = max lifetime seconds
at_least seconds takes lifetime = lifetime

abbrev pub allowed_lifetime : Claim → Stored → ℕ
allowed_lifetime claim state = at_least claim.settings.allowed.default_lifetime (takes_default claim state) (lifetime_of state)

-- by how much it is stale then, 0 where it is fresh
abbrev pub allowed_staleness : Claim → Stored → ℕ
allowed_staleness claim state = staleness (allowed_lifetime claim state) (age_of claim state)

-- whether the grace is at least that staleness, give or take the slack
abbrev pub grace_permits : ℕ → ℕ → Option ℕ → Bool
grace_permits slack stale None = false
grace_permits slack stale (Some seconds) = nat_le stale (seconds + slack)

-- whether a default lifetime or a grace is allowed at all
abbrev pub widens_use : Allowed → Bool
widens_use allowed = is_some allowed.default_lifetime || is_some allowed.grace

-- the state may be used as the fifth strict rule says, but by that lifetime, and by the grace as well
abbrev pub is_allowed_fresh : Claim → Stored → Bool
is_allowed_fresh claim state = nat_lt (age_of claim state) (allowed_lifetime claim state + claim.settings.slack)

abbrev pub is_allowed_stale : Claim → Stored → Bool
is_allowed_stale claim state =
    not (stale_forbidden state.fields)
    && (permits_staleness claim state (allowed_staleness claim state)
    || grace_permits claim.settings.slack (allowed_staleness claim state) claim.settings.allowed.grace)

abbrev pub is_allowed_usable : Claim → Stored → Bool
is_allowed_usable claim state =
    widens_use claim.settings.allowed && not (says (codes "no-cache") state.fields) && (is_allowed_fresh claim state || is_allowed_stale claim state)

abbrev pub use_is_allowed : Claim → Stored → Bool
use_is_allowed claim state = is_usable claim state || is_allowed_usable claim state

-- what has a default lifetime states none: it passes the fourth where it may be used
abbrev pub lifetime_is_allowed : Claim → Stored → Bool
lifetime_is_allowed claim state = explicit state.fields || use_is_allowed claim state

-- ---- 6: the body, or that there is no such part of it

abbrev pub body_is_allowed : Claim → Stored → Bool
body_is_allowed claim state = has_its_body claim state || is_no_part claim state.status state.body

-- ---- 7: fields that were added (RFC 9110 sections 7.7 and 15.4.5), and lines that were joined or parted (section 5.3)

-- the names that say what a body is (RFC 9110 sections 8 and 14.4): where they are added, it is another one
abbrev pub names_of_content : List (List ℕ)
names_of_content =
    codes "content-encoding" ∷ codes "content-language" ∷ codes "content-location" ∷ codes "content-range" ∷ codes "content-type"
    ∷ codes "etag" ∷ codes "last-modified" ∷ []

-- whether a name may be the reply's alone: no line of the state has it
abbrev pub may_be_added : Claim → Stored → List ℕ → Bool
may_be_added claim state name =
    claim.settings.allowed.added_fields && not (has_name name state.fields) && not (list_any (λ known. bytes_eq known name) names_of_content)

-- whether both have lines of a name, which are the same where each side's are joined; Set-Cookie is never joined
abbrev pub is_joined : Claim → Stored → List ℕ → Bool
is_joined claim state name =
    claim.settings.allowed.joined_lines && not (bytes_eq name (codes "set-cookie")) && has_name name state.fields
    && option_eq bytes_eq (joined_values (values_of name claim.reply.head.fields)) (joined_values (values_of name state.fields))

-- a name isn't compared, or the reply has its values, or what is allowed in their place
abbrev pub has_its_values : Claim → Stored → List ℕ → Bool
has_its_values claim state name =
    is_exempt claim name || same_values claim.reply.head.fields state.fields name || may_be_added claim state name || is_joined claim state name

abbrev pub has_allowed_fields : Claim → Stored → Bool
has_allowed_fields claim state = list_all (has_its_values claim state) (compared_names claim state)

-- what the reply says where there is no such part isn't compared
abbrev pub fields_are_allowed : Claim → Stored → Bool
fields_are_allowed claim state = has_allowed_fields claim state || is_no_part claim state.status state.body

-- ---- 8: an Age that is off by more than the slack (RFC 9111 section 4.2.3)

abbrev pub is_near_age : Claim → ℕ → Option ℕ → Bool
is_near_age claim age None = false
is_near_age claim age (Some told) = within claim.settings.allowed.age_slack told age

abbrev pub age_is_allowed : Claim → Stored → Bool
age_is_allowed claim state =
    has_its_age claim state || is_near_age claim (age_of claim state) (option_and_then number_of (only_value (codes "age") claim.reply.head.fields))

-- ---- 9: the seconds that are left of a default lifetime are the cache's own affair

abbrev pub ttl_is_allowed : Claim → Stored → Bool
ttl_is_allowed claim state = has_its_ttl claim state || takes_default claim state

-- ---- the filters, in their order
abbrev pub filters : Claim → Kept → List Bool
filters claim kept =
    is_asked_for claim kept.target
    ∷ selection_is_allowed claim kept.state
    ∷ is_valid kept.state
    ∷ lifetime_is_allowed claim kept.state
    ∷ use_is_allowed claim kept.state
    ∷ body_is_allowed claim kept.state
    ∷ fields_are_allowed claim kept.state
    ∷ age_is_allowed claim kept.state
    ∷ ttl_is_allowed claim kept.state
    ∷ []
