use Rattle.hc_order.proofs.EndLemmas.{event_awaits, new_awaits, steps_await}
use Rattle.hc_order.proofs.RestLemmas.{agreed_awaits}
use Rattle.hc_order.proofs.resting.leaving_connections_await_a_reply.Goals as goal

pub returns-clause-begins : goal.returns-clause-begins
returns-clause-begins c = new_awaits

pub returns-clause-event : goal.returns-clause-event
returns-clause-event c = λ settings event s actions other was v. event_awaits settings event s actions other v was

pub returns-clause-run : goal.returns-clause-run
returns-clause-run c = steps_await

pub returns-clause-agrees : goal.returns-clause-agrees
returns-clause-agrees c = agreed_awaits
