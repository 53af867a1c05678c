-- What a tally has counted.
use Rattle.std.specs.Prelude.{◌≡◌, ◌≤◌, ◌-◌, ◌^◌, ℕ, List, Some, min}
use Rattle.serde_json.specs.Data.{Data, Members, depth}
use Rattle.serde_json.specs.Find.{as_object}
use Rattle.serde_json.specs.View.{members_view, view}
use Rattle.hc_figures.specs.Nesting.{MembersNestTo}
use Rattle.hc_figures.specs.declared.baseline.Baseline.{Baseline}
use Rattle.hc_figures.specs.declared.tally.Tally.{Tally}
use Rattle.hc_figures.specs.Kinds.{Kind, times}
use Rattle.hc_figures.specs.Reports.{base_in, count_under, gone_in}

-- how many a baseline has of a kind
abbrev pub base_of : Baseline → Kind → ℕ
base_of baseline = base_in (view baseline.report)

-- how many of its wrong replies aren't among these, by their kinds, up to the greatest number
abbrev pub gone_from : Baseline → List Kind → ℕ
gone_from baseline kinds = min (gone_in (view baseline.report) (λ kind. times kind kinds)) (2 ^ 64 - 1)

-- the members count these by their kind, each up to the greatest number
abbrev pub AreCounts : Members → List Kind → Type 0
AreCounts counts kinds = (kind : Kind) → count_under kind counts ≡ min (times kind kinds) (2 ^ 64 - 1)

-- it has counted these, by members that have no members
pub record HasCounted (tally : Tally) (kinds : List Kind) : Type 0 where
  pub are : AreCounts (members_view tally.counts.entries) kinds
  pub nest : MembersNestTo 0 tally.counts

-- the value is an object that counts these
pub record CountsKinds (value : Data) (kinds : List Kind) : Type 0 where
  pub counts : Members
  pub is : as_object value ≡ Some counts
  pub are : AreCounts counts kinds
  pub nests : depth value ≤ 1
