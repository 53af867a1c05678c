-- What a reader finds among the members of a report.
use Rattle.std.proofs.Common.{◌≡◌, ◌∙◌, ℕ, List, [], ◌∷◌, Option, None, Some, ap, codes, map, option_and_then, refl}
use Rattle.serde_json.specs.Data.{Data, Members, object}
use Rattle.serde_json.specs.Find.{get}
use Rattle.serde_json.specs.View.{items_of}
use Rattle.hc_figures.specs.Entries.{object_with}
use Rattle.hc_history.specs.declared.verdicts.Counts.{Counts}
use Rattle.hc_history.specs.declared.wrong.Ending.{Ending}
use Rattle.hc_history.specs.declared.wrong.Ending.TheVariants.{Whole, Broken}
use Rattle.hc_history.specs.declared.wrong.WrongReply.{WrongReply}
use Rattle.hc_figures.specs.declared.counts.ReplyCounts.{ReplyCounts}
use Rattle.hc_figures.specs.declared.listed.ListedReplies.{ListedReplies}
use Rattle.hc_figures.specs.declared.listed.ListedReply.{ListedReply}
use Rattle.hc_figures.specs.Figures.{HaveFigures}
use Rattle.hc_figures.specs.Json.{end_entries, listed_data, verdict_entries}
use Rattle.hc_figures.specs.Reading.{AreCountsIn, AreListedIn, AreWrongIn, IsEndIn, IsReportIn, IsVerdictIn, inside}

verdict_read : (first : Option WrongReply) (ending : Ending) → IsVerdictIn first ending (object_with (verdict_entries first ending))
verdict_read (Some wrong) ending = (refl, record { position = refl; reason = refl; name = refl })
verdict_read None Whole = refl
verdict_read None (Broken position fault) = (refl, record { position_is = refl; fault_is = refl; name = refl })

end_read : (ending : Ending) → IsEndIn ending (object_with (end_entries ending))
end_read Whole = refl
end_read (Broken position fault) = (refl, record { position_is = refl; fault_is = refl; name = refl })

listed_read : (replies : List ListedReply) → AreListedIn replies (items_of (map listed_data replies))
listed_read [] = tt
listed_read (reply ∷ replies) = (record { wrong = record { position = refl; reason = refl; name = refl }; method = refl; target = refl }, listed_read replies)

-- what a member has, the report has inside
inside_is : (first second : List ℕ) (d : Data) (report : Data) (value : Option Data) → get first report ≡ Some d → get second d ≡ value → inside first second report ≡ value
inside_is first second d report value there is = ap (option_and_then (get second)) there ∙ is

counts_read : (replies : ReplyCounts) (wrongs : ListedReplies) (ending : Ending) (counts : Option Counts) (ms : Members) → HaveFigures replies wrongs ending counts ms
    → AreCountsIn replies (object ms)
counts_read replies wrongs ending counts ms have =
    let all = have.all in
    let said = all.1.1.1.0 in
    let octets = all.1.1.1.1.0 in
    record {
      all = inside_is (codes "replies") (codes "all") _ (object ms) _ said refl;
      hits = inside_is (codes "replies") (codes "hits") _ (object ms) _ said refl;
      forwarded = inside_is (codes "replies") (codes "forwarded") _ (object ms) _ said refl;
      collapsed = inside_is (codes "replies") (codes "collapsed") _ (object ms) _ said refl;
      unmarked = inside_is (codes "replies") (codes "unmarked") _ (object ms) _ said refl;
      both = inside_is (codes "replies") (codes "both") _ (object ms) _ said refl;
      hit_octets = inside_is (codes "octets") (codes "hits") _ (object ms) _ octets refl;
      forwarded_octets = inside_is (codes "octets") (codes "forwarded") _ (object ms) _ octets refl;
      judged = all.1.1.1.1.1.0;
      warning = all.1.1.1.1.1.1.0;
    }

wrong_read : (replies : ReplyCounts) (wrongs : ListedReplies) (ending : Ending) (counts : Option Counts) (ms : Members) → HaveFigures replies wrongs ending counts ms
    → AreWrongIn wrongs (object ms)
wrong_read replies wrongs ending counts ms have =
    let there = have.all.1.1.1.1.1.1.1.0 in
    record {
      count = inside_is (codes "wrong") (codes "count") _ (object ms) _ there refl;
      items = items_of (map listed_data wrongs.listed.items);
      listed = inside_is (codes "wrong") (codes "listed") _ (object ms) _ there refl;
      are = listed_read wrongs.listed.items;
      unlisted = inside_is (codes "wrong") (codes "unlisted") _ (object ms) _ there refl;
    }

-- the object of the figures is read as the report
pub report_read : (replies : ReplyCounts) (wrongs : ListedReplies) (ending : Ending) (counts : Option Counts) (ms : Members) → HaveFigures replies wrongs ending counts ms
    → IsReportIn wrongs replies ending counts (object ms)
report_read replies wrongs ending counts ms have = record {
  verdict = object_with (verdict_entries wrongs.first ending);
  has_verdict = have.all.0;
  is_verdict = verdict_read wrongs.first ending;
  end = object_with (end_entries ending);
  has_end = have.all.1.0;
  is_end = end_read ending;
  records = have.all.1.1.0;
  are_counts = counts_read replies wrongs ending counts ms have;
  are_wrong = wrong_read replies wrongs ending counts ms have;
}
