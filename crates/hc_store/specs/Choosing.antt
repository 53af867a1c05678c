-- Which variant of a key a request is answered from (RFC 9111 sections 4 and 4.1).
use Rattle.std.specs.Prelude.{ℕ, Bool, ◌&&◌, ◌||◌, ◌==◌, nat_le, nat_lt, nat_eq, if◌then◌else◌, List, [], ◌∷◌, filter, Option, Some, None}
use Rattle.std.specs.List.{best_of}
use Rattle.std.specs.Option.{option_eq}
use Rattle.hc_fields.specs.declared.fields.Field.{Field}
use Rattle.hc_rules.specs.Selecting.{selects}
use Rattle.hc_update.specs.declared.stored.Stored.{Stored}

-- the variant selects a request with those fields
abbrev pub is_selected : List Field → Stored → Bool
is_selected presented variant = selects variant.fields variant.request.fields presented

-- whether a variant goes before one that was added before it: unless its Date is earlier, or with the same Date it came earlier
abbrev pub goes_before : Stored → Stored → Bool
goes_before newer older =
    nat_lt older.times.date newer.times.date
    || (newer.times.date == older.times.date && nat_le older.times.response_time newer.times.response_time)

-- the first of both in the order of choice, where the second was added last
abbrev pub preferred : Option Stored → Stored → Stored
preferred None next = next
preferred (Some best) next = if goes_before next best then next else best

-- the first in the order of choice: the latest Date (RFC 9111 section 4), then the latest to come, then the one added last
abbrev pub first_choice : List Stored → Option Stored
first_choice [] = None
first_choice (variant ∷ later) = Some (best_of goes_before variant later)

-- what a request with those fields is answered from
abbrev pub chosen : List Field → List Stored → Option Stored
chosen presented variants = first_choice (filter (is_selected presented) variants)

-- a variant that the record at that position validated last selects it
abbrev pub is_selected_validated : List Field → ℕ → Stored → Bool
is_selected_validated presented position variant = option_eq nat_eq variant.validated_at (Some position) && is_selected presented variant

-- what it is answered from once the record at that position has validated some
abbrev pub chosen_validated : List Field → ℕ → List Stored → Option Stored
chosen_validated presented position variants = first_choice (filter (is_selected_validated presented position) variants)
