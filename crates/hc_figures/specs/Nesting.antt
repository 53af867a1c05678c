-- How deep values nest: a text or a number not at all, an array or an object one level more than what it has.
use Rattle.std.specs.Prelude.{◌≤◌, ℕ, String, Vec}
use Rattle.std.specs.declared.collections.BTreeMap.{BTreeMap}
use Rattle.std.specs.declared.alloc.Global.{Global}
use Rattle.serde_json.specs.Data.{depth, items_depth, members_depth}
use Rattle.serde_json.specs.View.{items_view, members_view, view}
use Rattle.serde_json.specs.declared.value.Value.{Value}

-- no deeper than so many levels
abbrev pub NestsTo : ℕ → Value → Type 0
NestsTo n value = depth (view value) ≤ n

-- nor does any of the members
abbrev pub MembersNestTo : ℕ → BTreeMap (String Global) Value Global → Type 0
MembersNestTo n members = members_depth (members_view members.entries) ≤ n

-- nor any of the values
abbrev pub ValuesNestTo : ℕ → Vec Value Global → Type 0
ValuesNestTo n values = items_depth (items_view values.items) ≤ n
