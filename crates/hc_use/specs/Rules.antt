-- The rules that a stored response keeps, one after another.
use Rattle.std.specs.Prelude.{◌≡◌, ℕ, ◌+◌, ◌≤◌, Option, Some, None}
use Rattle.hc_history.specs.declared.reasons.Reason.{Reason}
use Rattle.hc_history.specs.declared.reasons.Reason.TheVariants as reason
use Rattle.hc_history.specs.Names.{reason_number}
use Rattle.hc_history.specs.Reused.{filter_count}
use Rattle.hc_use.specs.declared.rules.Rule.{Rule}
use Rattle.hc_use.specs.declared.rules.Rule.TheVariants.{Asked, Selected, Valid, Lifetime, Use, Body, Fields, Age, Ttl}

-- the reason of a reply for which no response keeps it
abbrev pub reason_of : Rule → Reason
reason_of Asked = reason.NoResponse
reason_of Selected = reason.Vary
reason_of Valid = reason.Invalidated
reason_of Lifetime = reason.NoExplicitFreshness
reason_of Use = reason.NotAllowed
reason_of Body = reason.Body
reason_of Fields = reason.Fields
reason_of Age = reason.Age
reason_of Ttl = reason.Ttl

-- it is the one behind so many that are kept; behind all there is none
abbrev pub IsRuleBehind : ℕ → Option Rule → Type 0
IsRuleBehind kept (Some rule) = reason_number (reason_of rule) ≡ kept + 1
IsRuleBehind kept None = filter_count ≤ kept
