use Rattle.std.proofs.Common.{List, sym, ap, ◌∙◌}
use Rattle.hc_history.specs.Seen.{WindowResponse}
use Rattle.hc_index.specs.Lists.{Watched, exchange_seen, forward_seen}
use Rattle.hc_index.proofs.WindowLemmas.{window_pushed}
use Rattle.hc_index.proofs.exchanges.add_to_window.Goals as goal

pub returns : goal.returns
returns c =
    let exchange = c.args.exchange.now.exchange in
    ap (λ (window : List WindowResponse). let w : Watched = record { exchange = exchange_seen exchange; window = window } in w)
    (window_pushed exchange c.args.exchange.now.window.items c.push_back.new.self.items c.in_ok-answer.answer (forward_seen c.args.forward.now) c.args.cause c.args.response.now
    (sym c.same_target.ensures ∙ c.if-not-same_target.false) c.in_ok-answer.ensures c.in_ok-push_back.ensures.items)
