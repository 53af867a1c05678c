-- What a report says in JSON of a baseline against which it is held.
use Rattle.std.specs.Prelude.{◌≡◌, ◌-◌, ◌^◌, ℕ, Option, None, Some, codes, length, min, option_and_then}
use Rattle.serde_json.specs.Data.{Members}
use Rattle.serde_json.specs.Find.{get, get_member}
use Rattle.serde_json.specs.View.{members_view, view}
use Rattle.hc_figures.specs.Entries.{number_data}
use Rattle.hc_figures.specs.declared.baseline.Baseline.{Baseline}
use Rattle.hc_figures.specs.declared.tally.Tally.{Tally}
use Rattle.hc_figures.specs.Reports.{count_under, gone_in, known_of}
use Rattle.hc_figures.specs.Tallies.{base_of}
use Rattle.hc_report.specs.declared.counting.CountingReport.{CountingReport}

-- how many the baseline has of those that were counted
abbrev pub known_in : Baseline → Tally → ℕ
known_in baseline tally = min (known_of (base_of baseline) (members_view tally.counts.entries) (members_view tally.counts.entries)) (2 ^ 64 - 1)

-- and how many of its own weren't counted
abbrev pub gone_by : Baseline → Tally → ℕ
gone_by baseline tally = min (gone_in (view baseline.report) (λ kind. count_under kind (members_view tally.counts.entries))) (2 ^ 64 - 1)

-- the members say how many of the report's wrong replies it has, how many it hasn't, and how many of its own aren't there any more
pub record SayHeld (baseline : Baseline) (report : CountingReport) (members : Members) : Type 0 where
  pub known : get_member (codes "known") members ≡ Some (number_data (known_in baseline report.tally))
  pub new : option_and_then (get (codes "count")) (get_member (codes "new") members) ≡ Some (number_data (length report.wrongs.items - known_in baseline report.tally))
  pub gone : option_and_then (get (codes "count")) (get_member (codes "gone") members) ≡ Some (number_data (gone_by baseline report.tally))

-- where there is a baseline
abbrev pub SayHeldBy : Option Baseline → CountingReport → Members → Type 0
SayHeldBy None report all = Unit {0}
SayHeldBy (Some baseline) report all = SayHeld baseline report all
