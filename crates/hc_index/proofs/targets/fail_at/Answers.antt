use Rattle.std.proofs.Common.{Some, None, refl}
use Rattle.hc_index.specs.Maps.{FailsAt}
use Rattle.hc_index.proofs.TargetsLemmas.{written_back, put_in, fails_from}
use Rattle.hc_index.proofs.targets.fail_at.Goals as goal

pub returns-in-Some : goal.returns-in-Some
returns-in-Some c =
    let target = c.args.target in
    written_back target c.args.targets.now (c.get_mut.follows.lender c.fail.new.self) c.in-Some.here.now c.fail.new.self
    (FailsAt target c.args.position) c.in-Some.ensures.value (c.get_mut.follows.holds c.fail.new.self) (c.fail.ensures target)

pub returns : goal.returns
returns c =
    let target = c.args.target in
    put_in target target c.args.targets.now _ c.insert.new.self c.fail-2.new.self (FailsAt target c.args.position) c.in_default.ensures.value
    c.get_mut.follows.holds-at-none refl c.in_ok-insert.ensures.updates
    (fails_from target c.args.position None (Some c.new-here.result) (Some c.fail-2.new.self) (c.new-here.ensures target) (c.fail-2.ensures target))
