-- What trimming leaves beside the most recent key.
use Rattle.std.specs.Prelude.{ℕ, ◌-◌, Bool, true, nat_le, nat_lt, ◌==◌, false, length, if◌then◌else◌, List, [], Option, Some, None}
use Rattle.std.specs.Option.{option_map_or}
use Rattle.std.specs.Map.{lookup}
use Rattle.hc_head.specs.declared.head.Target.{Target}
use Rattle.hc_head.specs.Targets.{same_target}
use Rattle.hc_update.specs.declared.stored.Stored.{Stored}
use Rattle.hc_store.specs.Entries.{Entries, variants_weight}
use Rattle.hc_store.specs.Changes.{first_keys, without}

-- the keys that stay where there is that room for them, or none
abbrev pub kept_beside : Option ℕ → Entries → Entries
kept_beside None others = []
kept_beside (Some room) others = first_keys room others

-- the room that the most recent key leaves for others, or none where it is too heavy itself
abbrev pub room_beside : ℕ → ℕ → Option ℕ
room_beside bytes first = if nat_le first bytes then Some (bytes - first) else None

-- whether keys of that weight are too heavy there
abbrev pub is_too_heavy : ℕ → Option ℕ → Bool
is_too_heavy others None = true
is_too_heavy others (Some room) = nat_lt room others

-- what a key that was dropped weighed
abbrev pub dropped_weight : Option (Target × List Stored) → ℕ
dropped_weight None = 0
dropped_weight (Some entry) = variants_weight entry.1

-- without the key, if it has no variants
abbrev pub without_empty : Target → Entries → Entries
without_empty target entries = if option_map_or (λ variants. length variants == 0) (lookup (same_target target) entries) false then without target entries else entries
