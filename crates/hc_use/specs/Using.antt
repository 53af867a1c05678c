-- How old a stored response is at a reply, what forbids to use it, and what would permit it.
use Rattle.std.specs.Prelude.{ℕ, Option, Some, None, if◌then◌else◌}
use Rattle.hc_fresh.specs.Ages.{fresh, staleness}
use Rattle.hc_fresh.specs.Lifetimes.{explicit}
use Rattle.hc_update.specs.declared.stored.Stored.{Stored}
use Rattle.hc_history.specs.Allowing.{allowed_lifetime}
use Rattle.hc_history.specs.Claims.{Claim}
use Rattle.hc_history.specs.Usable.{age_of, lifetime_of}
use Rattle.hc_use.specs.declared.usage.Usage.{Usage}
use Rattle.hc_use.specs.Aging.{parts_of}
use Rattle.hc_use.specs.Forbidding.{forbids_stale, unusable_by}
use Rattle.hc_use.specs.Stale.{is_permitted, is_read, stale_said_of, takes_lifetime, told_setting}

-- the lifetime that it states (RFC 9111 section 4.2.1)
abbrev pub stated_lifetime : Stored → Option ℕ
stated_lifetime state = if explicit state.fields then Some (lifetime_of state) else None

-- the lifetime that the audit gives it, which states none (RFC 9111 section 4.2.2)
abbrev pub lent_to : Claim → Stored → Option ℕ
lent_to claim state = if takes_lifetime state then claim.settings.allowed.default_lifetime else None

-- by how much it is stale, if it isn't fresh (RFC 9111 section 4.2)
abbrev pub stale_by : ℕ → ℕ → Option ℕ
stale_by lifetime age = if fresh lifetime age then None else Some (staleness lifetime age)

abbrev pub usage_of : Claim → Stored → Usage
usage_of claim state = record {
  lifetime = stated_lifetime state;
  is_read = is_read state.fields;
  may_be_guessed = takes_lifetime state;
  lent = lent_to claim state;
  age = age_of claim state;
  parts = parts_of claim state;
  stale_by = stale_by (allowed_lifetime claim state) (age_of claim state);
  forbidden = unusable_by state.fields;
  forbids_stale = forbids_stale state.fields;
  is_permitted = is_permitted claim state;
  slack = claim.settings.slack;
  said = stale_said_of claim state;
  setting = told_setting claim state;
}
