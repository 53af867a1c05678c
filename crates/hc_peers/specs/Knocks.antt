-- Guests who knock, and the line in which they stand.
use Rattle.std.specs.Prelude.{◌≡◌, ◌||◌, ◌==◌, ℕ, Bool, true, false, List, [], ◌∷◌, Some}
use Rattle.std.specs.BTreeMap.{BTreeMap, get}
use Rattle.std.specs.Ordering.{nat_cmp}
use Rattle.hc_peers.specs.declared.guests.Guest.{Guest}

-- whether a number is in a list
abbrev pub is_in : ℕ → List ℕ → Bool
is_in n [] = false
is_in n (m ∷ rest) = (m == n) || is_in n rest

-- each guest who knocks stands in the line
abbrev pub KnocksStand : {S : Type 0} → BTreeMap ℕ (Guest S) → List ℕ → Type 0
KnocksStand {S} links knocking = (n : ℕ) (guest : Guest S) → get nat_cmp links n ≡ Some guest → guest.knocks ≡ true → is_in n knocking ≡ true
