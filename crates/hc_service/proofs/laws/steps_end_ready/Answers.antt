use Rattle.hc_service.proofs.RunLemmas.{steps_ready}
use Rattle.hc_service.proofs.laws.steps_end_ready.Goals as goal

pub returns : goal.returns
returns c = λ settings good events results s steps few.
    steps_ready settings good
    (record {
      writable = c.forwards_are_writable.ensures.plain;
      keeps_target = c.forwards_keep_the_target.ensures.plain;
      unconditional_writable = c.forwards_are_writable.ensures.unconditional;
      unconditional_keeps = c.forwards_keep_the_target.ensures.unconditional;
      conditional_writable = c.forwards_are_writable.ensures.conditional;
      conditional_keeps = c.forwards_keep_the_target.ensures.conditional;
    })
    events results s steps few
