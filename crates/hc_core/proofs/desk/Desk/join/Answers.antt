use Rattle.std.proofs.Common.{refl}
use Rattle.hc_core.proofs.SendLemmas.{of_ok, when_ok}
use Rattle.hc_core.proofs.desk.Desk.join.Goals as goal

pub returns-clause-joins : goal.returns-clause-joins
returns-clause-joins g c = when_ok c.await_reply.result _ (λ ok. record {
  numbers = refl;
  clients = λ connections k are is. of_ok c.await_reply.result _ (c.await_reply.ensures.clients connections k are is) ok;
  exchanges = λ table are. of_ok c.await_reply.result _ (c.await_reply.ensures.exchanges table are) ok;
  links = refl;
  keeps = record { name = refl; store = refl };
})
