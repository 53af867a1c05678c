use Rattle.hc_service.proofs.TurnLemmas.{turn_keeps}
use Rattle.hc_service.proofs.laws.turns_keep_agreement.Goals as goal

pub returns : goal.returns
returns c = λ settings good turn s actions other h stands takes few.
    turn_keeps s h stands settings good
    (record {
      writable = c.forwards_are_writable.ensures.plain;
      keeps_target = c.forwards_keep_the_target.ensures.plain;
      unconditional_writable = c.forwards_are_writable.ensures.unconditional;
      unconditional_keeps = c.forwards_keep_the_target.ensures.unconditional;
      conditional_writable = c.forwards_are_writable.ensures.conditional;
      conditional_keeps = c.forwards_keep_the_target.ensures.conditional;
    })
    turn actions other takes few
