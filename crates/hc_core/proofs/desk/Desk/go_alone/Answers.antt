use Rattle.std.proofs.Common.{subst}
use Rattle.hc_head.specs.declared.head.RequestHead.{RequestHead}
use Rattle.hc_framing.specs.declared.message.Message.{Message}
use Rattle.hc_service.specs.declared.cases.Cause.TheVariants.{UriMiss}
use Rattle.hc_service.specs.Turns.{released}
use Rattle.hc_service.specs.declared.open.ForwardKind.TheVariants.{Joinable}
use Rattle.hc_service.specs.declared.open.Purpose.TheVariants as purpose
use Rattle.hc_core.specs.Ending.{AsksFor}
use Rattle.hc_core.specs.Standing.{at_desk}
use Rattle.hc_core.proofs.SendLemmas.{alone_is, on_ok_by}
use Rattle.hc_core.proofs.desk.Desk.go_alone.Goals as goal

pub returns : goal.returns
returns g c =
    let d = c.args.self.now in
    let w = c.args.held in
    on_ok_by c.send_for.result _ _
    (λ sends. record {
      asks = subst (λ (r : Message RequestHead). AsksFor {S = g.row.S.Denot} {H = g.row.S-Hasher.Denot} w (released w.exchange) r (purpose.Reply w.number UriMiss Joinable) (at_desk c.args.actions.now.items d) (at_desk c.send_for.new.actions.items c.send_for.new.self))
          (alone_is _ d.name w.exchange.target w.exchange.request c.in_ok-request.request c.in_ok-request.ensures c.as_slice-name.ensures)
          (record { name = sends.asks.name; numbers = sends.asks.numbers; clients = sends.asks.clients; exchanges = sends.asks.exchanges; links = sends.asks.links; actions = sends.asks.actions });
      store = sends.store;
    })
    c.send_for.ensures
