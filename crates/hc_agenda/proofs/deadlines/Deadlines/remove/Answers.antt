use Rattle.std.proofs.Common.{◌≡◌, ℕ, ◌+◌, cond, Option, None, subst}
use Rattle.std.specs.BTreeMap.{btree_map_len}
use Rattle.std.specs.Option.{is_some}
use Rattle.hc_agenda.proofs.DeadlineLemmas.{count_out}
use Rattle.hc_agenda.proofs.DueLemmas.{taken_out, tick_put}
use Rattle.hc_agenda.proofs.deadlines.Deadlines.remove.Goals as goal

pub invariant_of-self : goal.invariant_of-self
invariant_of-self c =
    let now = c.args.self.now in
    record {
      queued = taken_out now.queue now.ticks now.queued c.take_out.new.queue c.remove-tick.new.self c.args.timeout c.args.number
          c.remove-tick.result c.remove-tick.ensures.value c.remove-tick.ensures.updates.0 c.take_out.ensures;
    }

pub returns : goal.returns
returns c =
    let now = c.args.self.now in
    record {
      at = tick_put c.args.timeout c.args.number None now.ticks c.remove-tick.new.self c.remove-tick.ensures.updates.0;
      count = subst (λ (o : Option ℕ). btree_map_len c.remove-tick.new.self + cond (is_some o) 1 0 ≡ btree_map_len now.ticks + 0) c.remove-tick.ensures.value
          (count_out c.remove-tick.result (btree_map_len now.ticks) (btree_map_len c.remove-tick.new.self) c.remove-tick.ensures.len);
    }
