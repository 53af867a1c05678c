use Rattle.std.proofs.Common.{refl}
use Rattle.std.proofs.lemmas.Result.{on_ok_weaker}
use Rattle.hc_audit.specs.Hearing.{item_passed}
use Rattle.hc_report.specs.declared.counting.CountingReport.{CountingReport}
use Rattle.hc_report.proofs.KindLemmas.{counted_later}
use Rattle.hc_report.proofs.counting.CountingReportWitness.pass.Goals as goal

pub returns-clause-told : goal.returns-clause-told
returns-clause-told g c = λ wrongs tells. on_ok_weaker c.pass.result (λ told. record { told = told; all = tells.all }) (c.pass.ensures.told wrongs tells.told)

pub returns-clause-heard : goal.returns-clause-heard
returns-clause-heard g c = λ h before behind.
    let old = c.args.self.now in
    let new : CountingReport = record { alloc = old.alloc; report = c.pass.new.self; wrongs = old.wrongs; tally = old.tally; source = old.source; cases = old.cases } in
    on_ok_weaker c.pass.result (λ shown. record { counted = counted_later old new (item_passed c.args.passed.now) h refl refl before.counted; shown = shown }) (c.pass.ensures.heard h before.shown behind)
