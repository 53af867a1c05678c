-- How a stored response stands, and what a record made of it.
use Rattle.std.specs.Prelude.{◌-◌, ◌+◌, ◌&&◌, ◌||◌, ◌==◌, ℕ, Bool, true, false, Option, Some, None, codes, if◌then◌else◌, max, not, min, ◌^◌}
use Rattle.hc_fresh.specs.Ages.{current_age}
use Rattle.hc_fresh.specs.Lifetimes.{explicit, says}
use Rattle.hc_fresh.specs.declared.ages.Times.{Times}
use Rattle.hc_history.specs.Usable.{lifetime_of}
use Rattle.hc_rules.specs.Storing.{is_heuristically_cacheable}
use Rattle.hc_update.specs.declared.stored.Stored.{Stored}
use Rattle.hc_timelines.specs.declared.changes.Change.{Change}
use Rattle.hc_timelines.specs.declared.changes.Change.TheVariants as change
use Rattle.hc_timelines.specs.declared.changes.Standing.{Standing}

-- ---- how it stands

-- it states no lifetime, and is public or of a status that may be stored where nothing says so
abbrev pub takes_lifetime : Stored → Bool
takes_lifetime state = not (explicit state.fields) && (says (codes "public") state.fields || is_heuristically_cacheable state.status)

-- its lifetime, where one is lent to what states none
abbrev pub lifetime_with : Option ℕ → Stored → ℕ
lifetime_with None state = lifetime_of state
lifetime_with (Some seconds) state = if takes_lifetime state then max (lifetime_of state) seconds else lifetime_of state

-- from when on it is stale
abbrev pub stale_from : ℕ → Times → ℕ
stale_from lifetime times = min (times.response_time + (lifetime - current_age times times.response_time)) (2 ^ 64 - 1)

abbrev pub standing_of : Option ℕ → Stored → Standing
standing_of lent state = record {
  invalid = state.invalid;
  validated_at = state.validated_at;
  lifetime = lifetime_with lent state;
  stale_from = stale_from (lifetime_with lent state) state.times;
}

-- ---- what a record made of it

-- whether it was validated by the record at that position
abbrev pub is_validated_by : ℕ → Option ℕ → Bool
is_validated_by position None = false
is_validated_by position (Some at) = at == position

-- it was stored before
abbrev pub change_from : ℕ → Standing → Standing → Option Change
change_from position before now =
    if is_validated_by position now.validated_at then Some (change.Validated now)
    else if now.invalid && not before.invalid then Some change.Invalidated
    else None

-- and may have been, and may be
abbrev pub change_at : ℕ → Option Standing → Option Standing → Option Change
change_at position before None = None
change_at position None (Some now) = Some (change.Stored now)
change_at position (Some before) (Some now) = change_from position before now
