use Rattle.std.proofs.Common.{◌≡◌, Some, inr, sym, ap}
use Rattle.hc_index.specs.Lists.{live_in, open_in, watched_exchange, window_of}
use Rattle.hc_index.proofs.list_index.ListIndexKeeping.opened.Goals as goal

pub returns : goal.returns
returns c =
    let watched = c.in-Some.watched.now in
    let is : Some watched ≡ open_in c.args.number c.args.self.now.exchanges.items = rw (← c.as_slice.ensures.value) c.in-Some.ensures in
    inr (record {
      is_open = sym (ap watched_exchange is);
      error = c.position_of.ensures;
      failure = c.position_of-2.ensures;
      live = ap (live_in watched.exchange.target) c.as_slice-2.ensures.value;
      window = ap window_of is;
    })
