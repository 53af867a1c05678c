use Rattle.hc_cases.proofs.AnswerLemmas.{next_case}
use Rattle.std.proofs.Common.{string_bytes}
use Rattle.hc_cases.proofs.answers.answer_all.Goals as goal

pub cases-preserved : goal.cases-preserved
cases-preserved g c = next_case c.args.cases.now c.cases.case-index _ (string_bytes c.in_ok-line.line) c.as_str.result.now
    _ (g.W.Write.contents c.cases.output) _ c.cases-test.true c.in_ok-line.ensures c.as_str.ensures.value c.cases.invariant c.in_ok-printed.ensures
