use Rattle.std.proofs.Common.{Some}
use Rattle.std.specs.Option.{option_map}
use Rattle.std.proofs.lemmas.Result.{on_ok_weaker}
use Rattle.hc_index.specs.Lists.{cause_seen, forward_seen}
use Rattle.hc_index.proofs.ForwardLemmas.{replaced}
use Rattle.hc_index.proofs.forwards.OpenForwards.open.Goals as goal

pub returns : goal.returns
returns c =
    let old = c.args.self.now.by_number in
    let new = c.insert.new.self in
    on_ok_weaker c.add_cause.result
    (λ added. record {
      forward = replaced (option_map forward_seen) c.args.number (Some c.args.forward) old new c.in_ok-insert.ensures.updates.0;
      cause = replaced cause_seen c.args.number (Some c.args.forward) old new c.in_ok-insert.ensures.updates.0;
      has_forward = added;
    })
    c.add_cause.ensures
