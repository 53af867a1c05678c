-- The strict rules that a stored response passes, one after another, to be what a reply carries. What an audit may allow beside them stands in Allowing.antt.
use Rattle.std.specs.Prelude.{ℕ, Bool, true, false, ◌&&◌, ◌||◌, ◌+◌, ◌==◌, not, nat_le, ℤ, pos, ◌-ℤ◌, nat_abs, List, [], ◌∷◌, ◌++◌, length, map, Option, Some, None, option_and_then, codes, bytes_eq, if◌then◌else◌}
use Rattle.std.specs.List.{list_any, list_all}
use Rattle.std.specs.Cmp.Lexicographic.{pointwise}
use Rattle.hc_fields.specs.declared.fields.Field.{Field}
use Rattle.hc_fields.specs.Values.{values_of, only_value}
use Rattle.hc_fields.specs.Connection.{left_out_of_store}
use Rattle.hc_fields.specs.Numbers.{number_of}
use Rattle.hc_head.specs.declared.head.Target.{Target}
use Rattle.hc_head.specs.Methods.{is_get}
use Rattle.hc_head.specs.Statuses.{not_modified}
use Rattle.hc_head.specs.Targets.{same_target}
use Rattle.hc_fresh.specs.Lifetimes.{explicit}
use Rattle.hc_rules.specs.Selecting.{selects}
use Rattle.hc_rules.specs.Conditions.{client_condition, repeated_names}
use Rattle.hc_update.specs.declared.stored.Stored.{Stored}
use Rattle.hc_history.specs.Claims.{Claim, asks_head}
use Rattle.hc_history.specs.declared.kept.Kept.{Kept}
use Rattle.hc_history.specs.Usable.{lifetime_of, age_of, is_usable}

-- the difference of two numbers is at most the slack
abbrev pub within : ℕ → ℕ → ℕ → Bool
within slack one other = nat_le one (other + slack) && nat_le other (one + slack)

-- 1: the request is GET or HEAD, of the response's target
abbrev pub is_asked_for : Claim → Target → Bool
is_asked_for claim target = (is_get claim.request.method || asks_head claim) && same_target target claim.target

-- 2: its Vary selects the request (RFC 9111 section 4.1)
abbrev pub is_selected : Claim → Stored → Bool
is_selected claim state = selects state.fields state.request.fields claim.request.fields

-- 3: it isn't invalidated (RFC 9111 section 4.4)
abbrev pub is_valid : Stored → Bool
is_valid state = not state.invalid

-- 4: it states a lifetime (RFC 9111 section 4.2.1), or may be used without
abbrev pub is_explicit : Claim → Stored → Bool
is_explicit claim state = explicit state.fields || is_usable claim state

-- 6: the reply has its status and its body, none where the request is HEAD; or the reply is a 304 that the client's condition earns (RFC 9111 section 4.3.2)
abbrev pub has_body : Claim → List ℕ → Bool
has_body claim body = if asks_head claim then length claim.reply.body == 0 else bytes_eq claim.reply.body body

abbrev pub is_earned : Claim → Stored → Bool
is_earned claim state =
    claim.reply.head.status == not_modified && length claim.reply.body == 0 && client_condition claim.request.fields state.status state.fields

abbrev pub has_its_body : Claim → Stored → Bool
has_its_body claim state = (claim.reply.head.status == state.status && has_body claim state.body) || is_earned claim state

-- 7: the reply has its fields

-- the names that aren't compared: those of a connection (RFC 9110 section 7.6.1) and a proxy (RFC 9111 section 3.1), by the reply's Connection; those that each
-- cache writes anew (this project's own choice); and those that the settings ignore
abbrev pub rewritten_names : List (List ℕ)
rewritten_names = codes "content-length" ∷ codes "via" ∷ codes "cache-status" ∷ codes "age" ∷ []

abbrev pub is_exempt : Claim → List ℕ → Bool
is_exempt claim name =
    left_out_of_store name claim.reply.head.fields
    || list_any (λ known. bytes_eq known name) rewritten_names
    || list_any (λ known. bytes_eq known name) claim.settings.ignored

-- the names of lines
abbrev pub names_of : List Field → List (List ℕ)
names_of fields = map (λ f. f.name) fields

-- the names that are compared: those of the reply, and those of the state, but of a 304 those that it has to repeat
abbrev pub compared_names : Claim → Stored → List (List ℕ)
compared_names claim state =
    names_of claim.reply.head.fields ++ (if claim.reply.head.status == not_modified then repeated_names else names_of state.fields)

-- the same list of values of a name
abbrev pub same_values : List Field → List Field → List ℕ → Bool
same_values one other name = pointwise bytes_eq (values_of name one) (values_of name other)

abbrev pub has_its_fields : Claim → Stored → Bool
has_its_fields claim state =
    list_all (λ name. is_exempt claim name || same_values claim.reply.head.fields state.fields name) (compared_names claim state)

-- 8: the reply has exactly one Age, a number within the slack of its age (RFC 9111 section 5.1)
abbrev pub is_age : Claim → ℕ → Option ℕ → Bool
is_age claim age None = false
is_age claim age (Some told) = within claim.settings.slack told age

abbrev pub has_its_age : Claim → Stored → Bool
has_its_age claim state = is_age claim (age_of claim state) (option_and_then number_of (only_value (codes "age") claim.reply.head.fields))

-- 9: the mark says no seconds, or those that are left, within the slack (RFC 9211 section 2.4)
abbrev pub is_ttl : Claim → ℤ → Option ℤ → Bool
is_ttl claim left None = true
is_ttl claim left (Some told) = nat_le (nat_abs (told -ℤ left)) claim.settings.slack

abbrev pub has_its_ttl : Claim → Stored → Bool
has_its_ttl claim state = is_ttl claim (pos (lifetime_of state) -ℤ pos (age_of claim state)) claim.ttl

-- the strict filters, in their order; the fifth is that the state may be used
abbrev pub strict_filters : Claim → Kept → List Bool
strict_filters claim kept =
    is_asked_for claim kept.target
    ∷ is_selected claim kept.state
    ∷ is_valid kept.state
    ∷ is_explicit claim kept.state
    ∷ is_usable claim kept.state
    ∷ has_its_body claim kept.state
    ∷ has_its_fields claim kept.state
    ∷ has_its_age claim kept.state
    ∷ has_its_ttl claim kept.state
    ∷ []
