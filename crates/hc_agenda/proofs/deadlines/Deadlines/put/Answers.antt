use Rattle.std.proofs.Common.{◌≡◌, ℕ, ◌+◌, true, cond, Option, Some, subst, rules}
use Rattle.std.specs.BTreeMap.{btree_map_len}
use Rattle.std.specs.Option.{is_some}
use Rattle.hc_agenda.proofs.DeadlineLemmas.{count_put}
use Rattle.hc_agenda.proofs.DueLemmas.{new_to_it, put_anew, tick_put}
use Rattle.hc_agenda.proofs.deadlines.Deadlines.put.Goals as goal

pub invariant_of-self-2 : goal.invariant_of-self-2
invariant_of-self-2 c =
    let now = c.args.self.now in
    let new : c.in_ok-is_new.is_new ≡ true = search rules in
    record {
      queued = put_anew now.queue now.ticks now.queued c.take_out.new.queue c.insert-2.new.self c.args.deadline.timeout c.args.deadline.number
          c.args.deadline.tick c.insert.new.self c.in-Ok.before (new_to_it _ _ c.in_ok-is_new.ensures.added new) c.in_ok-is_new.ensures.updates.0
          c.in-Ok.ensures.old c.in-Ok.ensures.updates.0 c.take_out.ensures;
    }

pub returns-clause-ok : goal.returns-clause-ok
returns-clause-ok c =
    let now = c.args.self.now in
    record {
      at = tick_put c.args.deadline.timeout c.args.deadline.number (Some c.args.deadline.tick) now.ticks c.insert-2.new.self c.in-Ok.ensures.updates.0;
      count = subst (λ (o : Option ℕ). btree_map_len c.insert-2.new.self + cond (is_some o) 1 0 ≡ btree_map_len now.ticks + 1) c.in-Ok.ensures.old
          (count_put c.in-Ok.before (btree_map_len now.ticks) (btree_map_len c.insert-2.new.self) c.in-Ok.ensures.len);
    }
