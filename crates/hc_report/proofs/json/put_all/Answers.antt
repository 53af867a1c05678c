use Rattle.std.proofs.Common.{arith, codes, refl}
use Rattle.serde_json.specs.Data.{no_members}
use Rattle.hc_figures.specs.Entries.{number_data, with_all}
use Rattle.hc_figures.specs.Figures.{figure_entries}
use Rattle.hc_figures.proofs.FigureLemmas.{figures_put}
use Rattle.hc_report.proofs.JsonLemmas.{figures_keep, some_value}
use Rattle.hc_report.proofs.json.put_all.Goals as goal

pub returns : goal.returns
returns c = λ begun.
    let replies = c.args.report.now.replies in
    let wrongs = c.args.report.now.wrongs in
    let ending = c.args.ending in
    let counts = c.args.counts in
    let groups = some_value c.groups_json.result 3 c.groups_json.ensures in
    let suspects = some_value c.suspects_json.result 3 c.suspects_json.ensures in
    let tries = some_value c.tries_json.result 3 c.tries_json.ensures in
    let all = with_all (figure_entries replies wrongs ending counts) no_members in
    let figures = figures_put replies wrongs ending counts no_members all (omega arith) refl in
    let first = c.put.ensures.has groups.0 groups.1 all (c.put_figures.ensures no_members begun) in
    let second = c.number-2.ensures.has _ (c.number.ensures.has _ first) in
    let third = c.put-3.ensures.has tries.0 tries.1 _ (c.put-2.ensures.has suspects.0 suspects.1 _ second) in (
      _,
      third,
      figures_keep replies wrongs ending counts (codes "tries") tries.0 _ refl tries.2
          (figures_keep replies wrongs ending counts (codes "suspected") suspects.0 _ refl suspects.2
          (figures_keep replies wrongs ending counts (codes "ungrouped") (number_data _) _ refl (omega arith)
          (figures_keep replies wrongs ending counts (codes "unrecorded") (number_data _) _ refl (omega arith)
          (figures_keep replies wrongs ending counts (codes "groups") groups.0 all refl groups.2 figures)))),
    )
