-- What a report has counted of all wrong replies.
use Rattle.std.specs.Prelude.{◌≡◌, ◌≤◌, ℕ, List, [], ◌∷◌, Some, codes, length, option_and_then}
use Rattle.hc_transcript.specs.Items.{Item}
use Rattle.hc_history.specs.declared.wrong.WrongReply.{WrongReply}
use Rattle.serde_json.specs.Data.{Members}
use Rattle.serde_json.specs.Find.{as_object, get_member}
use Rattle.hc_figures.specs.Kinds.{Kind}
use Rattle.hc_figures.specs.Tallies.{AreCounts, HasCounted}
use Rattle.hc_report.specs.declared.counting.CountingReport.{CountingReport}
use Rattle.hc_report.specs.Kinds.{AreShownIn, kinds_in}
use Rattle.hc_report.specs.Told.{TellsOf}

-- none of them stands behind the last position
abbrev pub StandUpTo : ℕ → List WrongReply → Type 0
StandUpTo last [] = Unit {0}
StandUpTo last (wrong ∷ wrongs) = (wrong.position ≤ last) × StandUpTo last wrongs

-- it tells what a report tells of the wrong replies, and each of them
pub record TellsAllOf (report : CountingReport) (wrongs : List WrongReply) : Type 0 where
  pub told : TellsOf report.report wrongs
  pub all : report.wrongs.items ≡ wrongs

-- these are the items among which the wrong replies stand that it tells, and it has counted their kinds
pub record HasCountedIn (report : CountingReport) (h : List Item) : Type 0 where
  pub stand : StandUpTo (length h) report.wrongs.items
  pub counts : HasCounted report.tally (kinds_in h report.wrongs.items)

-- it has heard of these items, and lists what is shown of the requests among them
pub record HasHeardOf (report : CountingReport) (h : List Item) : Type 0 where
  pub counted : HasCountedIn report h
  pub shown : AreShownIn h report.report.wrongs.listed.items

-- ---- what it writes

-- the members of the JSON object have the counts of these kinds, where a baseline has them
abbrev pub HaveCounts : Members → List Kind → Type 0
HaveCounts members kinds = (counts : Members) × (option_and_then as_object (get_member (codes "baseline") members) ≡ Some counts) × AreCounts counts kinds
