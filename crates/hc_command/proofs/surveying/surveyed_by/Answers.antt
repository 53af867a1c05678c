use Rattle.std.proofs.Common.{[], Some, ◌∙◌, ap}
use Rattle.std.proofs.lemmas.Result.{IfOk-weaker}
use Rattle.hc_command.specs.Report.{Input}
use Rattle.hc_command.proofs.ReportLemmas.{surveyed_enough, surveyed_to_a_break, surveyed_to_the_end}
use Rattle.hc_command.proofs.surveying.surveyed_by.Goals as goal

pub returns-in-Some-Broken-clause-surveyed : goal.returns-in-Some-Broken-clause-surveyed
returns-in-Some-Broken-clause-surveyed g c = λ settings told.
    let pulled = c.in_ok-position.ensures.pulled in
    let input : Input = record { had = g.R.Read.remaining c.args.input.now; left = g.R.Read.remaining c.pull.new.input } in
    surveyed_to_a_break g.I.Index.seen c.pull.new.fed.survey _ _ _ settings input pulled.octets pulled.consumed _ (pulled.goes_by settings [] told)
    c.in-Some-Broken.position c.in-Some-Broken.fault (c.in-Some-Broken.is ∙ ap Some c.in-Some-Broken.field-0-is)

pub returns-in-Some-Enough-clause-surveyed : goal.returns-in-Some-Enough-clause-surveyed
returns-in-Some-Enough-clause-surveyed g c = λ settings told.
    let pulled = c.in_ok-position.ensures.pulled in
    let input : Input = record { had = g.R.Read.remaining c.args.input.now; left = g.R.Read.remaining c.pull.new.input } in
    let fed = pulled.goes_by settings [] told in
    IfOk-weaker c.concluded.result _ _ (λ outcome is.
    surveyed_enough g.I.Index.seen c.pull.new.fed.survey _ _ _ settings input pulled.octets pulled.consumed _ fed outcome (c.in-Some-Enough.is ∙ ap Some c.in-Some-Enough.field-0-is) is)
    (c.concluded.ensures.outcome settings pulled.octets fed.history fed.wrongs fed.surveys)

pub returns-in-None-clause-surveyed : goal.returns-in-None-clause-surveyed
returns-in-None-clause-surveyed g c = λ settings told.
    let pulled = c.in_ok-position.ensures.pulled in
    let input : Input = record { had = g.R.Read.remaining c.args.input.now; left = g.R.Read.remaining c.pull.new.input } in
    let fed = pulled.goes_by settings [] told in
    IfOk-weaker c.concluded-in-None.result _ _ (λ outcome is.
    surveyed_to_the_end g.I.Index.seen c.pull.new.fed.survey _ _ _ settings input pulled.octets pulled.consumed _ fed outcome (c.in_ok-position.ensures.end c.in-None.is) is)
    (c.concluded-in-None.ensures.outcome settings pulled.octets fed.history fed.wrongs fed.surveys)
