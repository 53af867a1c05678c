-- What the definitions of choosing and trimming come to.
use Rattle.std.specs.Prelude.{◌≡◌, Bool, true, false, List, ◌∷◌, ◌++◌, filter}
use Rattle.std.specs.List.{AllByRecursion}
use Rattle.hc_update.specs.declared.stored.Stored.{Stored}
use Rattle.hc_store.specs.Choosing.{goes_before}

-- the first of those that pass a test, by Date, by when they came, and by when they were added: it goes before each that was added before it,
-- and none that was added behind it goes before it
pub record IsFirstChoice (test : Stored → Bool) (variants : List Stored) (choice : Stored) : Type 0 where
  pub before : List Stored
  pub behind : List Stored
  pub there : variants ≡ before ++ choice ∷ behind
  pub passes : test choice ≡ true
  pub goes_first : AllByRecursion (λ older. goes_before choice older ≡ true) (filter test before)
  pub goes_last : AllByRecursion (λ newer. goes_before newer choice ≡ false) (filter test behind)
