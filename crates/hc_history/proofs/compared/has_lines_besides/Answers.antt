use Rattle.std.proofs.Common.{◌≡◌, List, true, ap, sym, ◌∙◌}
use Rattle.hc_fields.specs.declared.fields.Field.{Field}
use Rattle.hc_fields.specs.Values.{has_name}
use Rattle.hc_history.specs.Allowing.{has_its_values}
use Rattle.hc_history.proofs.ComparedLemmas.{line_passed, values_of_own}
use Rattle.hc_history.proofs.compared.has_lines_besides.Goals as goal
use Rattle.hc_history.proofs.compared.has_lines_besides.Goals.{else-not-contains-via-then-not-contains+in_ok-has_its_values+else-not-branch, else-not-contains-via-else-not-contains}

pub loop-name-preserved : goal.loop-name-preserved
loop-name-preserved c =
    let has : has_its_values c.args.claim.now c.args.state.now c.in-Some.name.now ≡ true =
    elim c.else-not-contains.branch [
      | else-not-contains-via-then-not-contains+in_ok-has_its_values+else-not-branch w ↦ sym w.in_ok-has_its_values.ensures ∙ w.if-not-branch.false
      | else-not-contains-via-else-not-contains w ↦
          values_of_own c.args.claim.now c.args.state.now c.in-Some.name.now c.args.claim.now.reply.head.fields c.requires
          (ap (λ (fs : List Field). has_name c.in-Some.name.now fs) (sym c.fields.ensures) ∙ sym c.contains.ensures ∙ w.if-not-contains.false)
    ] in
    line_passed c.args.claim.now c.args.state.now c.in-Some.name.now c.in-Some.field-0-1.now c.loop-name.rest c.pass.new.self c.in-Some.ensures has ∙ c.loop-name.invariant
