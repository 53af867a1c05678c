use Rattle.hc_parts.proofs.WrongLemmas.{of_part, of_whole}
use Rattle.hc_parts.proofs.laws.wrong_replies_of_parts_are_those_of_the_whole.Goals as goal

pub returns-clause-part : goal.returns-clause-part
returns-clause-part c = λ part format settings k h turn joined others wrongs there are other has. of_part part format settings k h turn joined others wrongs there are other has

pub returns-clause-whole : goal.returns-clause-whole
returns-clause-whole c = of_whole
