use Rattle.hc_service.proofs.EventLemmas.{event_keeps}
use Rattle.hc_service.proofs.laws.events_keep_agreement.Goals as goal

pub returns : goal.returns
returns c = λ settings good event s actions other h agrees serves few.
    event_keeps settings good
    (record {
      writable = c.forwards_are_writable.ensures.plain;
      keeps_target = c.forwards_keep_the_target.ensures.plain;
      unconditional_writable = c.forwards_are_writable.ensures.unconditional;
      unconditional_keeps = c.forwards_keep_the_target.ensures.unconditional;
      conditional_writable = c.forwards_are_writable.ensures.conditional;
      conditional_keeps = c.forwards_keep_the_target.ensures.conditional;
    })
    event s actions other h agrees serves few
