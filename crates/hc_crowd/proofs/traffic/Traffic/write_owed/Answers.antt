use Rattle.std.proofs.Common.{◌∙◌}
use Rattle.hc_crowd.proofs.traffic.Traffic.write_owed.Goals as goal

pub owed-preserved : goal.owed-preserved
owed-preserved g c = (
  λ bounds log t. c.hear_if.ensures.kept.tells bounds log (c.write_next.ensures.tells bounds log (c.owed.invariant.0 bounds log t)),
  c.hear_if.ensures.places ∙ c.write_next.ensures.places ∙ c.owed.invariant.1,
)

pub returns-clause-tells : goal.returns-clause-tells
returns-clause-tells g c = λ bounds log t. c.write_next.ensures.tells bounds log (c.owed.invariant.0 bounds log t)
