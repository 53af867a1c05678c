use Rattle.std.proofs.Common.{Some, None}
use Rattle.hc_index.specs.Maps.{ClosesAt}
use Rattle.hc_index.proofs.TargetsLemmas.{written_back, taken_out, closes_to}
use Rattle.hc_index.proofs.targets.close_at.Goals as goal

pub returns-then-is_nothing : goal.returns-then-is_nothing
returns-then-is_nothing c =
    let target = c.args.target.now in
    taken_out target c.args.targets.now (c.get_mut.follows.lender c.close.new.self) c.remove.new.self c.in-Some.here.now c.close.new.self
    (ClosesAt target c.args.number) c.in-Some.ensures.value (c.get_mut.follows.holds c.close.new.self) c.remove.ensures.updates
    (closes_to target c.args.number (Some c.in-Some.here.now) (Some c.close.new.self) None (c.close.ensures target) (c.is_nothing.ensures c.if-is_nothing.true target))

pub returns-else-is_nothing : goal.returns-else-is_nothing
returns-else-is_nothing c =
    let target = c.args.target.now in
    written_back target c.args.targets.now (c.get_mut.follows.lender c.close.new.self) c.in-Some.here.now c.close.new.self
    (ClosesAt target c.args.number) c.in-Some.ensures.value (c.get_mut.follows.holds c.close.new.self) (c.close.ensures target)
