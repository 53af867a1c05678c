use Rattle.std.proofs.Common.{Some, None}
use Rattle.std.proofs.lemmas.Result.{IfOk-weaker}
use Rattle.hc_index.specs.Maps.{OpensAt}
use Rattle.hc_index.proofs.TargetsLemmas.{written_back, put_in, opens_from}
use Rattle.hc_index.proofs.targets.open_at.Goals as goal

pub returns-in-Some : goal.returns-in-Some
returns-in-Some c =
    let target = c.args.target.now in
    IfOk-weaker c.open.result _ _
    (λ behind opens. written_back target c.args.targets.now (c.get_mut.follows.lender c.open.new.self) c.in-Some.here.now c.open.new.self
    (OpensAt target c.args.number behind) c.in-Some.ensures.value (c.get_mut.follows.holds c.open.new.self) opens)
    (c.open.ensures target)

pub returns : goal.returns
returns c =
    let target = c.args.target.now in
    let behind = c.in_ok-behind.behind in
    put_in target c.in_ok-copy.field-0 c.args.targets.now _ c.insert.new.self c.open-2.new.self (OpensAt target c.args.number behind) c.in_default.ensures.value
    c.get_mut.follows.holds-at-none c.in_ok-copy.ensures c.in_ok-insert.ensures.updates
    (opens_from target c.args.number behind None (Some c.new-here.result) (Some c.open-2.new.self) (c.new-here.ensures target) (c.in_ok-behind.ensures target))
