use Rattle.std.proofs.Common.{refl}
use Rattle.hc_core.proofs.SendLemmas.{of_ok, when_ok}
use Rattle.hc_core.proofs.desk.Desk.send_behind.Goals as goal

pub returns-clause-sends : goal.returns-clause-sends
returns-clause-sends g c = when_ok c.send_forward.result _ (λ ok. record {
  numbers = of_ok c.send_forward.result _ c.send_forward.ensures.numbers ok;
  links = λ forwards are place. of_ok c.send_forward.result _ (c.send_forward.ensures.links forwards are place) ok;
  keeps = record { name = refl; clients = refl; exchanges = refl; store = refl };
  actions = of_ok c.send_forward.result _ c.send_forward.ensures.actions ok;
})
