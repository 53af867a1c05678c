use Rattle.std.specs.Ordering.{nat_cmp}
use Rattle.hc_open.specs.Links.{waits_at}
use Rattle.hc_open.specs.Tables.{IsSame}
use Rattle.hc_open.proofs.GroupLemmas.{grouped_empty}
use Rattle.hc_open.proofs.StartLemmas.{none_alike}
use Rattle.hc_open.proofs.open_exchanges.OpenExchanges.new.Goals as goal

pub returns : goal.returns
returns c = record {
  by_number = none_alike IsSame c.new.result c.new.ensures.empty;
  waiting = grouped_empty nat_cmp waits_at c.new-2.result.sets c.new-2.ensures;
}
