use Rattle.std.proofs.Common.{lit<, ap, ◌∙◌}
use Rattle.hc_open.specs.Links.{IsClient}
use Rattle.hc_open.proofs.StartLemmas.{none_alike}
use Rattle.hc_service.specs.Numbers.{no_numbers}
use Rattle.hc_core.proofs.desk.Desk.new.Goals as goal

pub returns : goal.returns
returns g c = λ settings options name-is room-is store-is. record {
  name = name-is;
  numbers = c.new.ensures ∙ ap no_numbers room-is;
  clients = none_alike IsClient c.new-2.result c.new-2.ensures.empty;
  exchanges = c.new-3.ensures;
  links = c.new-4.ensures;
  store = store-is;
  in_time = lit< tt;
}
