use Rattle.std.proofs.Common.{◌∙◌, sym}
use Rattle.hc_command.proofs.ReportLemmas.{no_of_first, none_wrong}
use Rattle.hc_command.proofs.surveying.Outcome.verdict.Goals as goal

pub returns-in-Some-clause-verdict : goal.returns-in-Some-clause-verdict
returns-in-Some-clause-verdict c = λ octets settings h wrongs is first.
    no_of_first octets settings h wrongs c.args.self.now c.in-Some.field-0 is (sym c.in-Some.is ∙ first)

pub returns-in-None-clause-verdict : goal.returns-in-None-clause-verdict
returns-in-None-clause-verdict c = λ octets settings h wrongs is first.
    c.verdict_without.ensures.verdict octets settings h (none_wrong octets settings h wrongs c.args.self.now is (sym c.in-None.is ∙ first))
