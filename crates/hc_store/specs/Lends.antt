-- What a store is once a variant that it lent is given back.
use Rattle.std.specs.Prelude.{⊤}
use Rattle.std.specs.Borrow.{Fml, RattleType, MutBor, follows_so}
use Rattle.std.specs.declared.hash.Hasher as hasher
use Rattle.std.specs.declared.hash.BuildHasher as builder
use mathlib.Core.Option.{none}
use Rattle.hc_store.specs.Entries.{Holdings}
use Rattle.hc_store.specs.contracts.store.Store.{the_row}

module _ (S H : RattleType) (build : builder.Ghosts S.Denot H.Denot) (hash : hasher.Ghosts H.Denot) where
  -- that holds of it
  abbrev pub ends_so : MutBor Holdings → (Holdings → Type 0) → Fml
  ends_so store P = follows_so (the_row S H build hash) (the_row S H build hash) store.ghost_name none (λ _ _. ⊤) P
