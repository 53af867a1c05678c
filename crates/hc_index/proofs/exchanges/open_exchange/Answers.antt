use Rattle.std.proofs.Common.{ap, ◌∙◌}
use Rattle.hc_index.specs.Lists.{open_in}
use Rattle.hc_index.proofs.OpenLemmas.{opened}
use Rattle.hc_index.proofs.exchanges.open_exchange.Goals as goal

pub returns : goal.returns
returns c = λ e.
    ap (open_in e) c.in_ok-push.ensures.items
    ∙ opened e c.close_exchange.new.exchanges.items c.args.watched (open_in e c.args.exchanges.now.items) (c.close_exchange.ensures e)
