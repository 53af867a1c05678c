use Rattle.std.proofs.Common.{Bool, Some, cond, ap, ◌∙◌}
use Rattle.std.specs.BTreeMap.{get}
use Rattle.hc_index.specs.Lists.{by_target}
use Rattle.hc_index.proofs.PositionLemmas.{tied}
use Rattle.hc_index.proofs.list_index.keep_position.Goals as goal

pub returns : goal.returns
returns c = λ other.
    c.in_ok-insert.ensures.updates.0 other
    ∙ ap (λ (b : Bool). cond b (Some c.args.position) (get by_target c.args.positions.now other)) (tied c.args.target other)
