use Rattle.hc_audit.specs.Hearing.{item_judged}
use Rattle.hc_history.specs.declared.wrong.WrongReply.{WrongReply}
use Rattle.hc_report.proofs.KindLemmas.{always, shown_next}
use Rattle.hc_report.proofs.report.Report.take_wrong.Goals as goal

pub returns-clause-told : goal.returns-clause-told
returns-clause-told g c = λ wrongs told. always c.take.result (c.in_ok-note.ensures.listed wrongs told)

pub returns-clause-shown : goal.returns-clause-shown
returns-clause-shown g c = λ h shown behind.
    let judged = c.args.judged.now in
    let item = item_judged judged in
    let wrong : WrongReply = record { position = judged.position; reason = c.args.reason } in
    always c.take.result
    (shown_next item h c.args.self.now.wrongs.listed.items c.note.new.self.listed.items wrong c.in_ok-request.request shown behind.position
    (c.in_ok-request.ensures h behind.index) c.in_ok-note.ensures.next)
