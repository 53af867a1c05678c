use Rattle.hc_open.specs.Links.{IsLink, by_target, is_joinable_for}
use Rattle.hc_open.proofs.BehindLemmas.{none_behind}
use Rattle.hc_open.proofs.GroupLemmas.{grouped_empty}
use Rattle.hc_open.proofs.StartLemmas.{none_alike}
use Rattle.hc_open.proofs.open_links.OpenLinks.new.Goals as goal

pub returns : goal.returns
returns c = record {
  by_number = none_alike IsLink c.new.result c.new.ensures.empty;
  behind = none_behind c.new-2.result c.new-2.ensures.empty;
  joinable = grouped_empty by_target is_joinable_for c.new-3.result.sets c.new-3.ensures;
}
