-- What a store holds, and how much that weighs.
use Rattle.std.specs.Prelude.{◌≡◌, ℕ, ◌+◌, ◌<◌, ◌≤◌, Bool, true, not, ◌||◌, List, [], codes, length, slice_get, unwrap_or}
use Rattle.std.specs.List.{sum_by, AllByRecursion, IsDistinct}
use Rattle.std.specs.Map.{keys_of, values_of, lookup}
use Rattle.std.specs.Option.{is_some, option_map_or}
use Rattle.hc_fields.specs.declared.fields.Field.{Field}
use Rattle.hc_fields.specs.Values.{has_name}
use Rattle.hc_head.specs.declared.head.Target.{Target}
use Rattle.hc_head.specs.Targets.{same_target}
use Rattle.hc_update.specs.declared.stored.Stored.{Stored}

-- the keys, the most recently used first, each with its variants: the responses of that target that are stored (RFC 9111 section 2), in the order
-- in which they were added
abbrev pub Entries : Type 0
Entries = List (Target × List Stored)

-- whether something is stored of a target
abbrev pub knows : Target → Entries → Bool
knows target entries = is_some (lookup (same_target target) entries)

-- what is stored of a target
abbrev pub variants_of : Target → Entries → List Stored
variants_of target entries = unwrap_or (lookup (same_target target) entries) []

-- what is stored of the most recent key
abbrev pub recent_variants : Entries → List Stored
recent_variants entries = option_map_or (λ entry. entry.1) (slice_get entries 0) []

-- what holds of each response, with its target
abbrev pub AllHeld : (Target → Stored → Type 0) → Entries → Type 0
AllHeld P entries = AllByRecursion (λ entry. AllByRecursion (P entry.0) entry.1) entries

-- ---- cookies

-- whether a response has a Set-Cookie line (RFC 6265 section 4.1)
abbrev pub sets_cookie : Stored → Bool
sets_cookie stored = has_name (codes "set-cookie") stored.fields

-- whether a store may hold it: one that sets a cookie only where it keeps such responses
abbrev pub may_hold : Bool → Stored → Bool
may_hold keeps_cookies stored = keeps_cookies || not (sets_cookie stored)

-- ---- weights

-- the lengths of all names and values
abbrev pub lines_weight : List Field → ℕ
lines_weight lines = sum_by (λ line. length line.name + length line.value) lines

-- of a response: its body, and the names and values of its fields and of its request's as it was forwarded
abbrev pub weight : Stored → ℕ
weight stored = length stored.body + lines_weight stored.fields + lines_weight stored.request.fields

-- of several
abbrev pub variants_weight : List Stored → ℕ
variants_weight variants = sum_by weight variants

-- of all that is held
abbrev pub entries_weight : Entries → ℕ
entries_weight entries = sum_by variants_weight (values_of entries)

-- ---- bounds

-- a store as contracts see it: what it holds, the most keys, the most that all weighs, and whether it keeps responses that set a cookie
pub record Holdings : Type 0 where
  pub entries : Entries
  pub keys : ℕ
  pub bytes : ℕ
  pub keeps_cookies : Bool

-- a store that holds nothing
abbrev pub empty : ℕ → ℕ → Bool → Holdings
empty keys bytes keeps_cookies = record { entries = []; keys = keys; bytes = bytes; keeps_cookies = keeps_cookies }

-- the most variants of a key
abbrev pub most_variants : ℕ
most_variants = 16

-- a key has variants, and no more than that
abbrev pub HasFewVariants : Target × List Stored → Type 0
HasFewVariants entry = (0 < length entry.1) × (length entry.1 ≤ most_variants)

-- what holds of every store: its bounds, and that it holds no response that sets a cookie, unless it keeps those
pub record IsWithin (store : Holdings) : Type 0 where
  pub some_keys : 0 < store.keys
  pub no_more_keys : store.keys ≤ 65536
  pub few_keys : length store.entries ≤ store.keys
  pub few_variants : AllByRecursion HasFewVariants store.entries
  pub light : entries_weight store.entries ≤ store.bytes
  pub kept : AllHeld (λ target stored. may_hold store.keeps_cookies stored ≡ true) store.entries

-- no key stands twice
abbrev pub HasDistinctKeys : Entries → Type 0
HasDistinctKeys entries = IsDistinct same_target (keys_of entries)
