use Rattle.hc_audit.specs.Hearing.{item_judged}
use Rattle.hc_report.proofs.KindLemmas.{shown_later}
use Rattle.hc_report.proofs.report.ReportWitness.see.Goals as goal

pub returns-in-Right-clause-heard : goal.returns-in-Right-clause-heard
returns-in-Right-clause-heard g c = λ h shown behind. shown_later (item_judged c.args.judged.now) h c.args.self.now.wrongs.listed.items shown
