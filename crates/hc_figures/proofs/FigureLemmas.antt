-- The figures among the members of a report.
use Rattle.std.proofs.Common.{◌≡◌, ◌≤◌, ◌∙◌, ℕ, Bool, true, false, List, [], ◌∷◌, Option, None, Some, ap, codes, cond, map, option_map, refl, sym, true≢false, arith}
use Rattle.serde_json.specs.Data.{Data, Members, depth, items_depth, members_depth, null, put, string}
use Rattle.serde_json.specs.View.{items_of}
use Rattle.serde_json.proofs.Views.{get_member-put_other}
use Rattle.hc_figures.specs.Entries.{object_with, some_data, with_all}
use Rattle.hc_figures.proofs.EntryLemmas.{all_depth, all_there, put_depth}
use Rattle.hc_history.specs.declared.verdicts.Counts.{Counts}
use Rattle.hc_history.specs.declared.wrong.Ending.{Ending}
use Rattle.hc_history.specs.declared.wrong.Ending.TheVariants.{Whole, Broken}
use Rattle.hc_history.specs.declared.wrong.WrongReply.{WrongReply}
use Rattle.hc_figures.specs.declared.counts.ReplyCounts.{ReplyCounts}
use Rattle.hc_figures.specs.declared.listed.ListedReplies.{ListedReplies}
use Rattle.hc_figures.specs.declared.listed.ListedReply.{ListedReply}
use Rattle.hc_figures.specs.Counts.{have_no_mark}
use Rattle.hc_figures.specs.Figures.{HaveFigures, LeavesFigures, deepest, figure_entries, is_figure}
use Rattle.hc_figures.specs.Json.{end_entries, listed_data, verdict_entries, wrongs_entries}

-- ---- how deep they nest

verdict_depth : (first : Option WrongReply) (ending : Ending) → depth (object_with (verdict_entries first ending)) ≤ deepest
verdict_depth (Some wrong) ending = omega arith
verdict_depth None Whole = omega arith
verdict_depth None (Broken position fault) = omega arith

end_depth : (ending : Ending) → depth (object_with (end_entries ending)) ≤ deepest
end_depth Whole = omega arith
end_depth (Broken position fault) = omega arith

listed_depth : (replies : List ListedReply) → items_depth (items_of (map listed_data replies)) ≤ 1
listed_depth [] = omega arith
listed_depth (reply ∷ replies) = omega (arith, listed_depth replies)

wrongs_depth : (wrongs : ListedReplies) → depth (object_with (wrongs_entries wrongs)) ≤ deepest
wrongs_depth wrongs = omega (arith, listed_depth wrongs.listed.items)

either_depth : (b : Bool) (text : List ℕ) → depth (cond b (string text) null) ≤ deepest
either_depth true text = omega arith
either_depth false text = omega arith

records_depth : (counts : Option Counts) → depth (some_data (option_map (λ c. c.records) counts)) ≤ deepest
records_depth (Some counts) = omega arith
records_depth None = omega arith

pub figures_depth : (replies : ReplyCounts) (wrongs : ListedReplies) (ending : Ending) (counts : Option Counts) (ms : Members) → members_depth ms ≤ deepest
    → members_depth (with_all (figure_entries replies wrongs ending counts) ms) ≤ deepest
figures_depth replies wrongs ending counts ms few =
    all_depth (figure_entries replies wrongs ending counts) ms deepest
    (verdict_depth wrongs.first ending, (end_depth ending, (records_depth counts, (omega arith, (omega arith, (omega arith, (either_depth (have_no_mark replies) _, (wrongs_depth wrongs, tt)))))))) few

-- ---- what is put in

pub figures_put : (replies : ReplyCounts) (wrongs : ListedReplies) (ending : Ending) (counts : Option Counts) (old new : Members) → members_depth old ≤ deepest
    → new ≡ with_all (figure_entries replies wrongs ending counts) old → HaveFigures replies wrongs ending counts new
figures_put replies wrongs ending counts old new few is = rw is (record {
  all = all_there (figure_entries replies wrongs ending counts) old refl;
  nest = figures_depth replies wrongs ending counts old few;
})

pub leaves : (name : List ℕ) (d : Data) (old new : Members) → is_figure name ≡ false → depth d ≤ deepest → new ≡ put name d old → LeavesFigures old new
leaves name d old new other few is = rw is (record {
  same = λ figure one. get_member-put_other figure name d old (λ (same : figure ≡ name). true≢false (sym one ∙ ap is_figure same ∙ other));
  nest = λ q. put_depth name d old deepest few q;
})

pub leaves_on : (old mid new : Members) → LeavesFigures old mid → LeavesFigures mid new → LeavesFigures old new
leaves_on old mid new first second = record {
  same = λ figure one. second.same figure one ∙ first.same figure one;
  nest = λ q. second.nest (first.nest q);
}

pub left_figures : (replies : ReplyCounts) (wrongs : ListedReplies) (ending : Ending) (counts : Option Counts) (old new : Members) → HaveFigures replies wrongs ending counts old
    → LeavesFigures old new → HaveFigures replies wrongs ending counts new
left_figures replies wrongs ending counts old new have left =
    let all = have.all in
    record {
      all = (
        left.same (codes "verdict") refl ∙ all.0,
        (
          left.same (codes "ends") refl ∙ all.1.0,
          (
            left.same (codes "records") refl ∙ all.1.1.0,
            (
              left.same (codes "replies") refl ∙ all.1.1.1.0,
              (left.same (codes "octets") refl ∙ all.1.1.1.1.0, (left.same (codes "judged") refl ∙ all.1.1.1.1.1.0, (left.same (codes "warning") refl ∙ all.1.1.1.1.1.1.0, (left.same (codes "wrong") refl ∙ all.1.1.1.1.1.1.1.0, tt)))),
            ),
          ),
        ),
      );
      nest = left.nest have.nest;
    }
