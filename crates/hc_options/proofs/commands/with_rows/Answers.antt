use Rattle.std.proofs.Common.{List, arith, map, subst, take}
use Rattle.std.proofs.lemmas.List.{take_all}
use Rattle.hc_options.specs.declared.rows.Row.{Row}
use Rattle.hc_options.specs.Commands.{IsMade, with_rules}
use Rattle.hc_options.specs.Rows.{row_rule}
use Rattle.hc_options.proofs.RowLemmas.{next_made}
use Rattle.hc_options.proofs.commands.with_rows.Goals as goal

pub loop-row-preserved : goal.loop-row-preserved
loop-row-preserved c = λ app made.
    let rows = c.args.rows.now in
    let i = c.loop-row.row-index in
    let so_far = with_rules app (map row_rule (take i rows)) in
    next_made app rows i _ c.with_row-command.result c.loop-row-test.true (c.with_row-command.ensures so_far (c.loop-row.invariant app made))

pub returns : goal.returns
returns c = λ app made.
    let all = take_all c.loop-row.row-index c.args.rows.now (omega (arith, c.loop-row-test.false)) in
    subst (λ (t : List Row). IsMade (with_rules app (map row_rule t)) c.loop-row.command) all (c.loop-row.invariant app made)
