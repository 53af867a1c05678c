-- What the outlets of parts were given.
use Rattle.std.specs.Prelude.{ℕ, List, [], ◌∷◌, ◌++◌, Option, Some, None, slice_get, decimal}
use Rattle.hc_split.specs.declared.outlets.Outlet.{Outlet}

-- a position in a table: a decimal and a line feed
abbrev pub position_line : ℕ → List ℕ
position_line position = decimal position ++ 10 ∷ []

module _ {W : Type 0} (contents : W → Option (List ℕ)) where
  abbrev pub text_in : Option (Outlet W) → Option (List ℕ)
  text_in None = None
  text_in (Some outlet) = contents outlet.text

  abbrev pub table_in : Option (Outlet W) → Option (List ℕ)
  table_in None = None
  table_in (Some outlet) = contents outlet.table

  -- the octets that a part has, as far as they are known
  abbrev pub text_of : List (Outlet W) → ℕ → Option (List ℕ)
  text_of outlets k = text_in (slice_get outlets k)

  -- and its table
  abbrev pub table_of : List (Outlet W) → ℕ → Option (List ℕ)
  table_of outlets k = table_in (slice_get outlets k)
