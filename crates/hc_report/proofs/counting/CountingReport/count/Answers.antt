use Rattle.std.proofs.Common.{◌∙◌, ℕ, ap, refl}
use Rattle.hc_transcript.specs.History.{exchange_of}
use Rattle.hc_history.specs.declared.wrong.WrongReply.{WrongReply}
use Rattle.hc_audit.specs.Hearing.{item_judged}
use Rattle.hc_report.specs.declared.counting.CountingReport.{CountingReport}
use Rattle.hc_report.proofs.KindLemmas.{counted_one, kind_shown}
use Rattle.hc_report.proofs.counting.CountingReport.count.Goals as goal

pub returns-clause-heard : goal.returns-clause-heard
returns-clause-heard g c = λ h counted behind.
    let judged = c.args.judged.now in
    let why = c.args.reason in
    let made : ℕ → WrongReply = λ position. record { position = position; reason = why } in
    let new : CountingReport = record { alloc = c.args.self.now.alloc; report = c.args.self.now.report; wrongs = c.push.new.self; tally = c.take.new.self; source = c.args.self.now.source; cases = c.take-2.new.self } in
    let kind_is = c.as_str.ensures.value ∙ c.in_ok-kind.ensures ∙ kind_shown (exchange_of judged.exchange h) c.in_ok-request.request why (c.in_ok-request.ensures h behind.index) in
    counted_one c.args.self.now new (item_judged judged) h why (made judged.position) c.as_str.result.now counted (ap made behind.position) kind_is c.in_ok-push.ensures.items
    (λ kinds has. c.in_ok-take.ensures kinds has)

pub returns-clause-report : goal.returns-clause-report
returns-clause-report g c = refl

pub returns-clause-all : goal.returns-clause-all
returns-clause-all g c = c.in_ok-push.ensures.items
