use Rattle.std.proofs.Common.{◌∷◌, refl, subst, sym}
use Rattle.std.proofs.lemmas.Result.{on_ok_weaker}
use Rattle.hc_audit.specs.Hearing.{item_judged}
use Rattle.hc_report.specs.declared.counting.CountingReport.{CountingReport}
use Rattle.hc_report.specs.declared.report.Report.{Report}
use Rattle.hc_report.specs.Kinds.{AreShownIn}
use Rattle.hc_report.proofs.KindLemmas.{counted_later, told_right, told_wrong}
use Rattle.hc_report.proofs.counting.CountingReportWitness.see.Goals as goal

pub returns-in-Right-clause-told : goal.returns-in-Right-clause-told
returns-in-Right-clause-told g c = λ wrongs tells.
    let judged = c.args.judged.now in
    let old = c.args.self.now in
    let new : CountingReport = record { alloc = old.alloc; report = c.see.new.self; wrongs = old.wrongs; tally = old.tally; source = c.see-2.new.self; cases = old.cases } in
    told_right old new wrongs judged.position judged.finding c.in-Right.is tells (c.in_ok-see.ensures.told wrongs tells.told) refl

pub returns-in-Right-clause-heard : goal.returns-in-Right-clause-heard
returns-in-Right-clause-heard g c = λ h heard behind.
    let old = c.args.self.now in
    let new : CountingReport = record { alloc = old.alloc; report = c.see.new.self; wrongs = old.wrongs; tally = old.tally; source = c.see-2.new.self; cases = old.cases } in
    record { counted = counted_later old new (item_judged c.args.judged.now) h refl refl heard.counted; shown = c.in_ok-see.ensures.heard h heard.shown behind }

pub returns-in-Wrong-clause-told : goal.returns-in-Wrong-clause-told
returns-in-Wrong-clause-told g c = λ wrongs tells.
    let judged = c.args.judged.now in
    on_ok_weaker c.count.result
    (λ all. told_wrong c.args.self.now c.count.new.self c.see.new.self wrongs judged.position c.in-Wrong.reason judged.finding c.in-Wrong.is tells (c.in_ok-see.ensures.told wrongs tells.told)
    c.count.ensures.report all)
    c.count.ensures.all

pub returns-in-Wrong-clause-heard : goal.returns-in-Wrong-clause-heard
returns-in-Wrong-clause-heard g c = λ h heard behind.
    let item = item_judged c.args.judged.now in
    let shown = c.in_ok-see.ensures.heard h heard.shown behind in
    on_ok_weaker c.count.result
    (λ counted. record { counted = counted; shown = subst (λ (r : Report). AreShownIn (item ∷ h) r.wrongs.listed.items) (sym c.count.ensures.report) shown })
    (c.count.ensures.heard h (record { stand = heard.counted.stand; counts = heard.counted.counts }) behind)
