use Rattle.std.proofs.Common.{refl, subst, sym}
use Rattle.std.specs.FinMap.{insert}
use Rattle.hc_head.specs.declared.head.Target.{Target}
use Rattle.hc_service.specs.Numbers.{one_more}
use Rattle.hc_service.specs.Turns.{sent_forward}
use Rattle.hc_open.specs.Links.{AreLinks, HasPlace}
use Rattle.hc_core.proofs.SendLemmas.{of_ok, when_ok}
use Rattle.hc_core.proofs.desk.Desk.go_forward.Goals as goal

pub returns-clause-goes : goal.returns-clause-goes
returns-clause-goes g c = when_ok c.await_reply.result _ (λ ok. record {
  numbers = c.in_ok-send_forward.ensures.numbers;
  clients = λ connections k are is. of_ok c.await_reply.result _ (c.await_reply.ensures.clients connections k are is) ok;
  exchanges = λ table are. of_ok c.await_reply.result _ (c.await_reply.ensures.exchanges table are) ok;
  links = λ forwards are place.
      subst (λ (t : Target). AreLinks c.send_forward.new.links (insert forwards (one_more c.args.self.now.numbers.forward)
      (sent_forward c.args.forward.head t c.args.self.now.numbers.moment c.args.purpose)))
      c.in_ok-target.ensures (c.in_ok-send_forward.ensures.links forwards are
      (subst (λ (t : Target). HasPlace (sent_forward c.args.forward.head t c.args.self.now.numbers.moment c.args.purpose) forwards) (sym c.in_ok-target.ensures) place));
  keeps = record { name = refl; store = refl };
  actions = c.in_ok-send_forward.ensures.actions;
})
