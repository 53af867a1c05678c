use Rattle.std.proofs.Common.{take}
use Rattle.std.specs.Prelude.{map}
use Rattle.hc_cases.specs.Answers.{AnswersEach}
use Rattle.hc_cases.proofs.answers.answer_all.Given as goal

-- the cases so far have their lines
abbrev pub invariant-cases : goal.invariant-cases
invariant-cases g l =
    AnswersEach (map (λ case. case.now) (take l.case-index l.cases)) (g.W.Write.contents l.fn.output) (g.W.Write.contents l.output)
