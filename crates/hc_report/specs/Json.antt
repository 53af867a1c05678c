-- What a report writes in JSON.
use Rattle.std.specs.Prelude.{◌≡◌, ℕ, List, Option, Some}
use Rattle.serde_json.specs.Data.{Data, Members, object}
use Rattle.serde_json.specs.Read.{read}
use Rattle.hc_history.specs.declared.settings.Settings.{Settings}
use Rattle.hc_history.specs.declared.verdicts.Counts.{Counts}
use Rattle.hc_history.specs.declared.wrong.Ending.{Ending}
use Rattle.hc_figures.specs.declared.counts.ReplyCounts.{ReplyCounts}
use Rattle.hc_figures.specs.declared.listed.ListedReplies.{ListedReplies}
use Rattle.hc_figures.specs.Reading.{IsReportIn}
use Rattle.hc_figures.specs.declared.baseline.Baseline.{Baseline}
use Rattle.hc_figures.specs.Kinds.{Kind}
use Rattle.hc_report.specs.declared.counting.CountingReport.{CountingReport}
use Rattle.hc_report.specs.Counting.{HaveCounts}
use Rattle.hc_report.specs.Held.{SayHeldBy}
use Rattle.hc_report.specs.Made.{SaySettings}

-- the text is JSON of the report on a transcript that ends so: so much was counted of its replies and of its records, and these are wrong
pub record WritesReport (text : List ℕ) (wrongs : ListedReplies) (replies : ReplyCounts) (ending : Ending) (counts : Option Counts) : Type 0 where
  pub report : Data
  pub is_json : read text ≡ Some report
  pub is_report : IsReportIn wrongs replies ending counts report

-- and of one that counts: it has all wrong replies by these kinds, too, by which settings it was made, and what a baseline has of them, if there is one
pub record WritesAll (text : List ℕ) (report : CountingReport) (kinds : List Kind) (settings : Settings) (base : Option Baseline) (ending : Ending) (counts : Option Counts) : Type 0 where
  pub members : Members
  pub is_json : read text ≡ Some (object members)
  pub is_report : IsReportIn report.report.wrongs report.report.replies ending counts (object members)
  pub have_counts : HaveCounts members kinds
  pub say_settings : SaySettings settings members
  pub say_held : SayHeldBy base report members
