use Rattle.std.proofs.Common.{◌≡◌, ◌∙◌, ℕ, List, ap, refl, rules, subst, take}
use Rattle.serde_json.specs.Data.{no_members, null, put}
use Rattle.serde_json.specs.View.{view}
use Rattle.serde_json.specs.declared.value.Value.{the_lemmas}
use Rattle.serde_json.specs.declared.value.Value.TheVariants.{Null}
use Rattle.hc_figures.specs.Entries.{with_all}
use Rattle.hc_figures.specs.Objects.{Has}
use Rattle.hc_shown.specs.Octets.{octets_text}
use Rattle.hc_report.specs.Made.{name_entries}
use Rattle.hc_report.proofs.MadeLemmas.{name_put}
use Rattle.hc_report.proofs.made.in_order.Goals as goal

pub loop-name-preserved : goal.loop-name-preserved
loop-name-preserved c =
    let names = c.args.names.now in
    let index = c.loop-name.name-index in
    let before = with_all (take index (name_entries names)) no_members in
    let is_null : view Null ≡ null = search (rules, the_lemmas) in
    let shown = c.as_str.ensures.value ∙ c.in_ok-shown.ensures ∙ ap octets_text (c.as_slice.ensures ∙ c.name-item.is) in
    subst (Has c.put.new.self) (name_put names index _ no_members before _ c.loop-name-test.true refl (ap (λ (name : List ℕ). put name null before) shown))
    (c.put.ensures.has null is_null before c.loop-name.invariant)
