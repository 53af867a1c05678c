use Rattle.std.proofs.Common.{inr, ◌∙◌, sym}
use Rattle.hc_command.proofs.HeldLemmas.{ends_unchanged, ends_with_gone}
use Rattle.hc_command.proofs.reporting.ended_strictly.Goals as goal

pub returns-then-not-is_fewer : goal.returns-then-not-is_fewer
returns-then-not-is_fewer g c =
    ends_unchanged c.args.strict c.args.least c.args.end.now c.ended-status.result _ _ (sym c.is_fewer.ensures ∙ c.if-not-is_fewer.true) c.ended-status.ensures

pub returns-in-Ok : goal.returns-in-Ok
returns-in-Ok g c =
    inr (ends_with_gone c.args.strict c.args.least c.args.end.now c.ended-status.result _ _ _ (sym c.is_fewer.ensures ∙ c.if-not-is_fewer.false) c.ended-status.ensures
    c.in-Ok.ensures)
