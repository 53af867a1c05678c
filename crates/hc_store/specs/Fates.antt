-- What becomes of the variants of a key that a 304 came for.
use Rattle.std.specs.Prelude.{◌≡◌, Bool, true, false, List, map}
use Rattle.std.specs.List.{list_any}
use Rattle.hc_update.specs.declared.stored.Stored.{Stored}
use Rattle.hc_store.specs.declared.freshening.Fate.{Fate}
use Rattle.hc_store.specs.declared.freshening.Fate.TheVariants as fate
use Rattle.hc_store.specs.Changes.{Validation, Leaves, after_validation, is_validated, may_become, renewed, may_go}

-- what became of one of them
abbrev pub HasFate : Bool → Validation → Stored → Fate → Stored → Type 0
HasFate keeps_cookies v old fate.Stays new = (is_validated v old ≡ false) × (new ≡ old)
HasFate keeps_cookies v old fate.Freshened new = (is_validated v old ≡ true) × (new ≡ renewed v old) × (may_become keeps_cookies new ≡ true)
HasFate keeps_cookies v old fate.Goes new = may_go v old ≡ true

-- what became of them all, and whether one was freshened
pub record IsLeft (keeps_cookies : Bool) (v : Validation) (old : List Stored) (any : Bool) (new : List Stored) : Type 0 where
  pub left : List Stored
  pub leaves : Leaves keeps_cookies v old left
  pub becomes : new ≡ map (after_validation v) left
  pub some : any ≡ list_any (is_validated v) left
