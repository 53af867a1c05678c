use Rattle.hc_audit.specs.Hearing.{item_passed}
use Rattle.hc_report.proofs.KindLemmas.{always, shown_later}
use Rattle.hc_report.proofs.report.ReportWitness.pass.Goals as goal

pub returns-clause-heard : goal.returns-clause-heard
returns-clause-heard g c = λ h shown behind. always c.pass.result (shown_later (item_passed c.args.passed.now) h c.args.self.now.wrongs.listed.items shown)
