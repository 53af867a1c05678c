-- Numbers by a key.
use Rattle.std.specs.Prelude.{◌≡◌, ℕ, Bool, true, false, List, [], Option, Some, None, if◌then◌else◌}
use Rattle.std.specs.declared.cmp.Ordering.{Ordering}
use Rattle.std.specs.BTreeMap.{BTreeMap, is_at, get as kept_at}
use Rattle.std.specs.BTreeSet.{BTreeSet}
use Rattle.std.specs.List.{list_any}
use Rattle.std.specs.List.Sorted.{IsStrictlySortedBy}
use Rattle.std.specs.FinMap.{get}
use Rattle.std.specs.Ordering.{nat_cmp}
use Rattle.hc_service.specs.State.{Table}

abbrev pub numbers_of : Option (BTreeSet ℕ) → List ℕ
numbers_of None = []
numbers_of (Some set) = set.keys

-- a number is among them
abbrev pub is_among : List ℕ → ℕ → Bool
is_among numbers n = list_any (is_at (nat_cmp n)) numbers

-- whether something is there that passes
abbrev pub passes_at : {X : Type 0} → (X → Bool) → Option X → Bool
passes_at pass None = false
passes_at pass (Some x) = pass x

-- they rise, and are those that pass
pub record AreNumbers (numbers : List ℕ) (pass : ℕ → Bool) : Type 0 where
  pub rise : IsStrictlySortedBy nat_cmp numbers
  pub are : (n : ℕ) → is_among numbers n ≡ pass n

module _ {K : Type 0} (cmp : K → K → Ordering) where
  -- the numbers for a key, by the order of keys
  abbrev pub numbers_at : BTreeMap K (BTreeSet ℕ) → K → List ℕ
  numbers_at sets key = numbers_of (kept_at cmp sets key)

  -- the number is one of those for the key from now on, and for other keys nothing changes
  pub record AddsNumber (old : BTreeMap K (BTreeSet ℕ)) (key : K) (number : ℕ) (new : BTreeMap K (BTreeSet ℕ)) : Type 0 where
    pub there : (q : K) (pass : ℕ → Bool) → is_at (cmp key) q ≡ true → AreNumbers (numbers_at old key) pass
        → AreNumbers (numbers_at new q) (λ n. if is_at (nat_cmp number) n then true else pass n)
    pub others : (q : K) → is_at (cmp key) q ≡ false → numbers_at new q ≡ numbers_at old q

  -- the number is none of those for the key from now on, and for other keys nothing changes
  pub record RemovesNumber (old : BTreeMap K (BTreeSet ℕ)) (key : K) (number : ℕ) (new : BTreeMap K (BTreeSet ℕ)) : Type 0 where
    pub there : (q : K) (pass : ℕ → Bool) → is_at (cmp key) q ≡ true → AreNumbers (numbers_at old key) pass
        → AreNumbers (numbers_at new q) (λ n. if is_at (nat_cmp number) n then false else pass n)
    pub others : (q : K) → is_at (cmp key) q ≡ false → numbers_at new q ≡ numbers_at old q

  -- the numbers for each key are those at which the table has something that belongs to the key
  abbrev pub AreGrouped : {X : Type 0} → (K → X → Bool) → BTreeMap K (BTreeSet ℕ) → Table X → Type 0
  AreGrouped belongs sets table = (key : K) → AreNumbers (numbers_at sets key) (λ n. passes_at (belongs key) (get table n))
