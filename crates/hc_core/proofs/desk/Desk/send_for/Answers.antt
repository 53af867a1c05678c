use Rattle.std.proofs.Common.{refl, subst}
use Rattle.std.specs.FinMap.{insert}
use Rattle.hc_head.specs.declared.head.Target.{Target}
use Rattle.hc_service.specs.declared.open.Purpose.TheVariants as purpose
use Rattle.hc_service.specs.Numbers.{one_more}
use Rattle.hc_service.specs.Turns.{sent_forward}
use Rattle.hc_open.specs.Links.{AreLinks}
use Rattle.hc_open.proofs.BehindLemmas.{reply_has_place}
use Rattle.hc_core.proofs.SendLemmas.{of_ok, when_ok}
use Rattle.hc_core.proofs.desk.Desk.send_for.Goals as goal

pub returns : goal.returns
returns g c =
    let d = c.args.self.now in
    let w = c.args.held in
    when_ok c.put_exchange.result _ (λ ok. record {
      asks = record {
        name = refl;
        numbers = c.in_ok-send_forward.ensures.numbers;
        clients = λ connections k are is. of_ok c.put_exchange.result _ (c.put_exchange.ensures.clients connections k are is) ok;
        exchanges = λ awaits are. of_ok c.put_exchange.result _ (c.put_exchange.ensures.exchanges awaits are) ok;
        links = λ forwards are.
            subst (λ (t : Target). AreLinks c.send_forward.new.links (insert forwards (one_more d.numbers.forward)
            (sent_forward c.args.request.head t d.numbers.moment (purpose.Reply w.number c.args.cause c.args.kind))))
            c.in_ok-target.ensures
            (c.in_ok-send_forward.ensures.links forwards are
            (reply_has_place c.args.request.head c.in_ok-target.target d.numbers.moment w.number c.args.cause c.args.kind forwards));
        actions = c.in_ok-send_forward.ensures.actions;
      };
      store = refl;
    })
