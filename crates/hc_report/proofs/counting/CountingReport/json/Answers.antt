use Rattle.std.proofs.Common.{List, option_map, refl, string_bytes, subst}
use Rattle.std.proofs.lemmas.Result.{IfOk-weaker}
use Rattle.serde_json.specs.Data.{object}
use Rattle.serde_json.specs.View.{view}
use Rattle.hc_history.specs.declared.wrong.WrongReply.{WrongReply}
use Rattle.hc_figures.specs.Tallies.{HasCounted}
use Rattle.hc_figures.proofs.FigureLemmas.{left_figures}
use Rattle.hc_report.specs.Kinds.{kinds_in}
use Rattle.hc_report.specs.Made.{settings_members}
use Rattle.hc_report.proofs.JsonLemmas.{all_figures, few_levels, some_value, told_put, writes_all}
use Rattle.hc_report.proofs.counting.CountingReport.json.Goals as goal

pub returns : goal.returns
returns c = λ h wrongs told counted.
    let self = c.args.self in
    let base = option_map (λ b. b.now) c.args.baseline in
    let settings = c.args.settings.now in
    let ending = c.args.ending in
    let counts = c.args.counts in
    let made = view c.into_counts.result in
    let kinds = kinds_in h wrongs in
    let kinds_counted = subst (λ (ws : List WrongReply). HasCounted self.tally (kinds_in h ws)) told.all counted.counts in
    let are = c.into_counts.ensures kinds kinds_counted in
    let found = c.put_all.ensures c.new-object.ensures.has in
    let held = c.put_held.ensures found.0 found.1 in
    let figures = left_figures self.report.replies self.report.wrongs ending counts found.0 held.0 found.2 held.2 in
    let targets = some_value c.targets_json.result 1 c.targets_json.ensures in
    let behind_targets = c.put.ensures.has targets.0 targets.1 _ (c.some.ensures.has held.0 held.1) in
    let behind_settings = c.put-2.ensures.has (object (settings_members settings)) (c.into_value-settings.ensures.has (settings_members settings) c.settings_object.ensures) _ behind_targets in
    let has = c.put-3.ensures.has made refl _ behind_settings in
    let said = told_put self base settings ending counts self.source.format targets.0 held.0 figures held.3 targets.2 in
    let few = few_levels self.report.replies self.report.wrongs ending counts _ (all_figures self kinds settings base ending counts made _ said are) in
    IfOk-weaker c.into_text.result _ _ (λ text reads. writes_all self kinds settings base ending counts (string_bytes text) made _ said are reads) (c.into_text.ensures _ has few)
