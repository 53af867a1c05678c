use Rattle.hc_service.proofs.StepLemmas.{run_keeps}
use Rattle.hc_service.proofs.laws.runs_of_turns_keep_agreement.Goals as goal

pub returns : goal.returns
returns c = λ settings good turns s actions other h stands run few.
    run_keeps settings good
    (record {
      writable = c.forwards_are_writable.ensures.plain;
      keeps_target = c.forwards_keep_the_target.ensures.plain;
      unconditional_writable = c.forwards_are_writable.ensures.unconditional;
      unconditional_keeps = c.forwards_keep_the_target.ensures.unconditional;
      conditional_writable = c.forwards_are_writable.ensures.conditional;
      conditional_keeps = c.forwards_keep_the_target.ensures.conditional;
    })
    turns s actions other h stands run few
