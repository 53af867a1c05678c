use Rattle.std.proofs.Common.{string_bytes}
use Rattle.hc_cases.proofs.AnswerLemmas.{line_of_case}
use Rattle.hc_cases.proofs.answers.line_of.Goals as goal

pub returns : goal.returns
returns g c = line_of_case string_bytes c.case_line.result c.args.case.now c.match-ask.text.now c.case_line.ensures
