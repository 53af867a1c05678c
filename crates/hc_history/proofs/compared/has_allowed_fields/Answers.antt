use Rattle.std.proofs.Common.{◌≡◌, Bool, IfOk, List, ap, subst, sym, ◌∙◌}
use Rattle.hc_fields.specs.declared.fields.Field.{Field}
use Rattle.hc_history.proofs.ComparedLemmas.{has_lines, fields_lacked, fields_of_304, fields_of_other}
use Rattle.hc_history.proofs.compared.has_allowed_fields.Goals as goal

pub returns-then-not-has : goal.returns-then-not-has
returns-then-not-has c =
    fields_lacked c.args.claim.now c.args.state.now
    (ap (λ (lines : List Field). has_lines c.args.claim.now c.args.state.now lines) (sym c.fields.ensures) ∙ sym c.in_ok-has.ensures ∙ c.if-not-has.true)

pub returns-then-is_not_modified : goal.returns-then-is_not_modified
returns-then-is_not_modified c =
    subst (λ (b : Bool). IfOk c.has_each.result (λ has. has ≡ b))
    (fields_of_304 c.args.claim.now c.args.state.now
    (ap (λ (lines : List Field). has_lines c.args.claim.now c.args.state.now lines) (sym c.fields.ensures) ∙ sym c.in_ok-has.ensures ∙ c.if-not-has.false)
    (sym c.is_not_modified.ensures ∙ c.if-is_not_modified.true))
    c.has_each.ensures

pub returns-else-is_not_modified : goal.returns-else-is_not_modified
returns-else-is_not_modified c =
    subst (λ (b : Bool). IfOk c.has_lines_besides.result (λ has. has ≡ b))
    (fields_of_other c.args.claim.now c.args.state.now
    (ap (λ (lines : List Field). has_lines c.args.claim.now c.args.state.now lines) (sym c.fields.ensures) ∙ sym c.in_ok-has.ensures ∙ c.if-not-has.false)
    (sym c.is_not_modified.ensures ∙ c.if-is_not_modified.false))
    c.has_lines_besides.ensures

pub has_lines_besides-requires : goal.has_lines_besides-requires
has_lines_besides-requires c =
    ap (λ (lines : List Field). has_lines c.args.claim.now c.args.state.now lines) (sym c.fields.ensures) ∙ sym c.in_ok-has.ensures ∙ c.if-not-has.false
