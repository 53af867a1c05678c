use Rattle.std.proofs.Common.{None, ap, refl}
use Rattle.std.specs.Option.{option_map}
use Rattle.hc_index.specs.Lists.{cause_seen, forward_seen}
use Rattle.hc_index.proofs.ForwardLemmas.{replaced}
use Rattle.hc_index.proofs.forwards.OpenForwards.take.Goals as goal

pub returns : goal.returns
returns c =
    let old = c.args.self.now.by_number in
    let new = c.remove.new.self in
    record {
      was_open = ap (option_map forward_seen) c.remove.ensures.value;
      its_cause = ap cause_seen c.remove.ensures.value;
      forward = replaced (option_map forward_seen) c.args.number None old new c.remove.ensures.updates.0;
      cause = replaced cause_seen c.args.number None old new c.remove.ensures.updates.0;
      has_forward = λ e. refl;
    }
