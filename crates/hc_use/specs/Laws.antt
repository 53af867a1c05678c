-- The claims of which the laws of settings speak.
use Rattle.std.specs.Prelude.{ℕ, Option, Some}
use Rattle.hc_history.specs.Claims.{Claim}

-- the same claim in an audit that allows that default lifetime and that grace, as far as they are there, and no others
abbrev pub allowing : Option ℕ → Option ℕ → Claim → Claim
allowing default_lifetime grace claim = record claim {
  settings = record claim.settings { allowed = record claim.settings.allowed { default_lifetime = default_lifetime; grace = grace } };
}

-- with that grace in place of the audit's own
abbrev pub with_grace : ℕ → Claim → Claim
with_grace seconds claim = allowing claim.settings.allowed.default_lifetime (Some seconds) claim

-- with that default lifetime in place of the audit's own
abbrev pub with_default_lifetime : ℕ → Claim → Claim
with_default_lifetime seconds claim = allowing (Some seconds) claim.settings.allowed.grace claim
