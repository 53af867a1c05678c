use Rattle.std.proofs.Common.{[], subst, sym}
use Rattle.hc_report.specs.Kinds.{AreShownIn}
use Rattle.hc_report.proofs.report.Report.new.Goals as goal

pub returns-clause-hears : goal.returns-clause-hears
returns-clause-hears c = subst (AreShownIn []) (sym c.new-3.ensures.none) tt
