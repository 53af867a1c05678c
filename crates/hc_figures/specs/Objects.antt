-- What objects and arrays have that are made, unless memory was refused.
use Rattle.std.specs.Prelude.{◌≡◌, ℕ, List, false, map}
use Rattle.serde_json.specs.Data.{Data, Members}
use Rattle.serde_json.specs.View.{members_view, view}
use Rattle.hc_figures.specs.Nesting.{MembersNestTo, ValuesNestTo}
use Rattle.hc_figures.specs.declared.members.Object.{Object}
use Rattle.hc_figures.specs.declared.members.Array.{Array}

-- these members
pub record Has (object : Object) (all : Members) : Type 0 where
  pub has : object.is_refused ≡ false → members_view object.members.entries ≡ all

-- none that nests deeper
pub record HasDepth (n : ℕ) (object : Object) : Type 0 where
  pub nests : object.is_refused ≡ false → MembersNestTo n object.members

-- these values
pub record Holds (array : Array) (all : List Data) : Type 0 where
  pub holds : array.is_refused ≡ false → map view array.values.items ≡ all

-- none that nests deeper
pub record HoldsDepth (n : ℕ) (array : Array) : Type 0 where
  pub nests : array.is_refused ≡ false → ValuesNestTo n array.values
