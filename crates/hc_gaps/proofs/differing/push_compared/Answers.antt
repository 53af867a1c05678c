use Rattle.std.proofs.Common.{◌≡◌, ◌==◌, true, false, rules, Bor, List, ℕ, [], OnOk, ap, subst, ◌∙◌}
use Rattle.hc_fields.specs.declared.fields.Field.{Field}
use Rattle.hc_head.specs.Statuses.{not_modified}
use Rattle.hc_rules.specs.Conditions.{repeated_names}
use Rattle.hc_history.specs.Filters.{names_of}
use Rattle.hc_gaps.specs.Differing.{with_names}
use Rattle.hc_gaps.proofs.NameLemmas.{name_taken, of_304, of_other, plain}
use Rattle.hc_gaps.proofs.differing.push_compared.Goals as goal

pub returns-then-ne : goal.returns-then-ne
returns-then-ne c =
    let claim = c.args.claim.now in
    let state = c.args.state.now in
    let before = plain c.args.names.now.items in
    let first : plain c.push_names.new.names.items ≡ with_names before (names_of claim.reply.head.fields) = search rules in
    let is : (claim.reply.head.status == not_modified) ≡ false = search rules in
    subst (λ (all : List (List ℕ)). OnOk c.push_names-then-ne.result (plain c.push_names-then-ne.new.names.items ≡ all))
    (ap (λ (names : List (List ℕ)). with_names names (names_of state.fields)) first ∙ of_other before claim state is)
    (subst (λ (lines : List Field). OnOk c.push_names-then-ne.result (plain c.push_names-then-ne.new.names.items ≡ with_names (plain c.push_names.new.names.items) (names_of lines)))
    c.lent.ensures c.push_names-then-ne.ensures)

pub loop-name-init : goal.loop-name-init
loop-name-init c =
    let claim = c.args.claim.now in
    let before = plain c.args.names.now.items in
    let first : plain c.push_names.new.names.items ≡ with_names before (names_of claim.reply.head.fields) = search rules in
    let is : (claim.reply.head.status == not_modified) ≡ true = search rules in
    ap (λ (names : List (List ℕ)). with_names names repeated_names) first ∙ of_304 before claim c.args.state.now is

pub loop-name-preserved : goal.loop-name-preserved
loop-name-preserved c =
    let none : Bor (List ℕ) = record { ref_ptr = (0, 0); now = [] } in
    name_taken (plain c.loop-name.names.items) (plain c.push_new.new.names.items) _ _ c.loop-name.name-index none c.loop-name-test.true
    c.in_ok-push_new.ensures c.loop-name.invariant
