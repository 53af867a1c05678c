-- What each call makes of the entries, where it finds the memory that it needs.
use Rattle.std.specs.Prelude.{◌≡◌, ℕ, ◌-◌, Bool, true, not, ◌&&◌, ◌||◌, nat_le, if◌then◌else◌, ◌⊎◌, List, [], ◌∷◌, ◌++◌, length, take, drop, filter, map, codes}
use Rattle.std.specs.List.{list_any}
use Rattle.std.specs.Map.{remove_entry, set_value}
use Rattle.hc_fields.specs.Values.{has_name}
use Rattle.hc_head.specs.declared.head.RequestHead.{RequestHead}
use Rattle.hc_head.specs.declared.head.ResponseHead.{ResponseHead}
use Rattle.hc_head.specs.declared.head.Target.{Target}
use Rattle.hc_head.specs.Targets.{same_target}
use Rattle.hc_update.specs.declared.stored.Stored.{Stored}
use Rattle.hc_update.specs.States.{freshened}
use Rattle.hc_update.specs.Identifying.{identifies, may_identify}
use Rattle.hc_update.specs.Sizes.{fits}
use Rattle.hc_store.specs.Entries.{Entries, may_hold, variants_of, variants_weight, most_variants}
use Rattle.hc_store.specs.Choosing.{is_selected}

-- ---- keys

-- a key with its variants, or nothing where there is none
abbrev pub keyed : Target → List Stored → Entries
keyed target [] = []
keyed target (variant ∷ more) = (target, variant ∷ more) ∷ []

-- all other keys
abbrev pub without : Target → Entries → Entries
without target entries = remove_entry (same_target target) entries

-- with those variants at the key, which stays at its place, or goes where there is none
abbrev pub with_variants : Target → List Stored → Entries → Entries
with_variants target [] entries = without target entries
with_variants target (variant ∷ more) entries = set_value (same_target target) entries (variant ∷ more)

-- ---- choosing, and invalidating

-- the key is the most recent, if it is there; also where none of its variants is chosen
abbrev pub after_choose : Target → Entries → Entries
after_choose target entries = keyed target (variants_of target entries) ++ without target entries

-- the key is gone
abbrev pub after_invalidate : Target → Entries → Entries
after_invalidate target entries = without target entries

-- ---- trimming

-- the last n of a list
abbrev pub last_ones : {X : Type 0} → ℕ → List X → List X
last_ones n xs = drop (length xs - n) xs

-- the keys from the first on that weigh at most so much together
abbrev pub first_keys : ℕ → Entries → Entries
first_keys room [] = []
first_keys room (entry ∷ entries) =
    if nat_le (variants_weight entry.1) room then entry ∷ first_keys (room - variants_weight entry.1) entries else []

-- the variants up to the last that weigh at most so much together
abbrev pub last_variants : ℕ → List Stored → List Stored
last_variants room [] = []
last_variants room (variant ∷ more) =
    if nat_le (variants_weight (variant ∷ more)) room then variant ∷ more else last_variants room more

-- what stays so that all weighs at most so much: the least recent other keys go first, and then the first variants of the most recent one
abbrev pub trimmed : ℕ → Entries → Entries
trimmed bytes [] = []
trimmed bytes (entry ∷ entries) =
    if nat_le (variants_weight entry.1) bytes then entry ∷ first_keys (bytes - variants_weight entry.1) entries
    else keyed entry.0 (last_variants bytes entry.1)

-- ---- putting

-- the variants once one is added: those that select its request go, for it takes their place, and so does the first where there are as many as may be
abbrev pub added : Stored → List Stored → List Stored
added stored variants =
    last_ones (most_variants - 1) (filter (λ variant. not (is_selected stored.request.fields variant)) variants) ++ stored ∷ []

-- the key has it, and is the most recent; the least recent one goes where there are too many, and others where they are too heavy
abbrev pub after_put : ℕ → ℕ → Target → Stored → Entries → Entries
after_put keys bytes target stored entries =
    trimmed bytes (take keys ((target, added stored (variants_of target entries)) ∷ without target entries))

-- ---- freshening

-- a 304: what it answers, its head, when the one was sent and the other came, and where it stands
pub record Validation : Type 0 where
  pub forward : RequestHead
  pub not_modified : ResponseHead
  pub request_time : ℕ
  pub response_time : ℕ
  pub position : ℕ

-- whether a variant is freshened by it
abbrev pub is_validated : Validation → Stored → Bool
is_validated validation variant = identifies variant validation.forward validation.not_modified

-- a variant that is
abbrev pub renewed : Validation → Stored → Stored
renewed v variant = freshened variant v.not_modified.fields v.request_time v.response_time v.position

-- a variant behind it, freshened or not
abbrev pub after_validation : Validation → Stored → Stored
after_validation validation variant = if is_validated validation variant then renewed validation variant else variant

-- whether a response may be what a 304 made of a variant: it fits, and sets no cookie where such responses aren't kept
abbrev pub may_become : Bool → Stored → Bool
may_become keeps_cookies freshened = fits freshened && may_hold keeps_cookies freshened

-- whether a variant may stay: it is as it was, or may be what it becomes
abbrev pub may_stay : Bool → Validation → Stored → Bool
may_stay keeps_cookies validation variant = not (is_validated validation variant) || may_become keeps_cookies (renewed validation variant)

-- whether it may be freshened, whatever its Vary line selects
abbrev pub may_be_validated : Validation → Stored → Bool
may_be_validated validation variant = may_identify variant validation.forward validation.not_modified

-- whether it may go: freshening it takes memory, and so does asking what its Vary line selects, where it is freshened if that selects the request
abbrev pub may_go : Validation → Stored → Bool
may_go validation variant = is_validated validation variant || (may_be_validated validation variant && has_name (codes "vary") variant.fields)

-- some variants stay, as memory has it
abbrev pub Leaves : Bool → Validation → List Stored → List Stored → Type 0
Leaves keeps_cookies validation [] left = left ≡ []
Leaves keeps_cookies validation (variant ∷ more) left =
    ((may_go validation variant ≡ true) × Leaves keeps_cookies validation more left)
    ⊎ ((may_stay keeps_cookies validation variant ≡ true) × (rest : List Stored) × (left ≡ variant ∷ rest) × Leaves keeps_cookies validation more rest)

-- those that stay are freshened where it is about them; the key is then the most recent, and others go where they are too heavy
abbrev pub after_freshen : ℕ → Validation → Target → List Stored → Entries → Entries
after_freshen bytes validation target left entries =
    if list_any (is_validated validation) left
    then trimmed bytes ((target, map (after_validation validation) left) ∷ without target entries)
    else with_variants target left entries
