use Rattle.hc_parts.proofs.OpenLemmas.{targets_kept}
use Rattle.hc_parts.proofs.PartLemmas.{all_here, all_there, right_there, wrong_there}
use Rattle.hc_parts.proofs.laws.parts_are_judged_as_the_whole.Goals as goal

pub returns-clause-right : goal.returns-clause-right
returns-clause-right c = λ part format settings k h item turn joined goes. right_there part k (targets_kept part) format settings h item turn joined goes

pub returns-clause-wrong : goal.returns-clause-wrong
returns-clause-wrong c = λ part format settings k h item why turn joined goes. wrong_there part k (targets_kept part) format settings h item why turn joined goes

pub returns-clause-all : goal.returns-clause-all
returns-clause-all c = λ part format settings h turn joined.
    (λ right k. all_there part k (targets_kept part) format settings h turn joined right, λ right. all_here part format settings h (targets_kept part) turn joined right)
