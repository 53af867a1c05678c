-- What each call answers, and what it makes of a store: memory leaves open no more than is said here.
use Rattle.std.specs.Prelude.{◌≡◌, Bool, true, false, not, ◌&&◌, ◌||◌, nat_le, List, Option, Some, None, codes}
use Rattle.std.specs.List.{list_any}
use Rattle.hc_fields.specs.declared.fields.Field.{Field}
use Rattle.hc_fields.specs.Values.{has_name}
use Rattle.hc_head.specs.declared.head.Target.{Target}
use Rattle.hc_update.specs.declared.stored.Stored.{Stored}
use Rattle.hc_update.specs.Sizes.{fits}
use Rattle.hc_store.specs.declared.putting.Put.{Put}
use Rattle.hc_store.specs.declared.putting.Put.TheVariants as put
use Rattle.hc_store.specs.Entries.{Entries, Holdings, knows, may_hold, variants_of, weight}
use Rattle.hc_store.specs.Choosing.{chosen}
use Rattle.hc_store.specs.Changes.{after_choose, after_put, after_freshen, after_invalidate, Validation, Leaves}

-- whether memory may be needed to ask which of them select a request
abbrev pub has_vary : List Stored → Bool
has_vary variants = list_any (λ variant. has_name (codes "vary") variant.fields) variants

-- the same store, with those entries
abbrev pub holding : Entries → Holdings → Holdings
holding entries store = record { entries = entries; keys = store.keys; bytes = store.bytes; keeps_cookies = store.keeps_cookies }

-- ---- choose

-- what is answered, and the store behind it; with no answer, for want of memory, nothing changes
abbrev pub Chooses : Target → List Field → Holdings → Option (Option Stored) → Holdings → Type 0
Chooses target presented old (Some answer) new =
    (answer ≡ chosen presented (variants_of target old.entries)) × (new ≡ holding (after_choose target old.entries) old)
Chooses target presented old None new = (has_vary (variants_of target old.entries) ≡ true) × (new ≡ old)

-- ---- put

-- whether a response is small enough
abbrev pub is_small_enough : Stored → Holdings → Bool
is_small_enough stored store = fits stored && nat_le (weight stored) store.bytes

-- whether it may be put: the store may hold it, and it is small enough
abbrev pub may_put : Stored → Holdings → Bool
may_put stored store = may_hold store.keeps_cookies stored && is_small_enough stored store

-- whether putting one may take memory: a new key does, and so does asking which variants it replaces
abbrev pub grows : Target → Entries → Bool
grows target entries = not (knows target entries) || has_vary (variants_of target entries)

-- what is answered, and the store behind it
abbrev pub Puts : Target → Stored → Holdings → Put → Holdings → Type 0
Puts target stored old put.Stored new =
    (may_put stored old ≡ true) × (new ≡ holding (after_put old.keys old.bytes target stored old.entries) old)
Puts target stored old put.SetsCookie new = (may_hold old.keeps_cookies stored ≡ false) × (new ≡ old)
Puts target stored old put.TooLarge new = (may_hold old.keeps_cookies stored ≡ true) × (is_small_enough stored old ≡ false) × (new ≡ old)
Puts target stored old put.NoMemory new = (may_put stored old ≡ true) × (grows target old.entries ≡ true) × (new ≡ old)

-- ---- freshen

-- the store behind it
pub record Freshens (validation : Validation) (target : Target) (old new : Holdings) : Type 0 where
  pub left : List Stored
  pub leaves : Leaves old.keeps_cookies validation (variants_of target old.entries) left
  pub becomes : new ≡ holding (after_freshen old.bytes validation target left old.entries) old

-- ---- invalidate

abbrev pub invalidated : Target → Holdings → Holdings
invalidated target store = holding (after_invalidate target store.entries) store
