use Rattle.std.proofs.Common.{Some, None}
use Rattle.std.proofs.lemmas.Result.{on_ok_weaker}
use Rattle.hc_index.specs.Lists.{forward_seen}
use Rattle.hc_index.specs.Maps.{AnswersAt}
use Rattle.hc_index.proofs.TargetsLemmas.{written_back, put_in, left_alone, answers_from, answers_to}
use Rattle.hc_index.proofs.targets.answer_at.Goals as goal

pub returns-in-Some : goal.returns-in-Some
returns-in-Some c =
    let forward = forward_seen c.args.forward in
    on_ok_weaker c.answer.result
    (λ answers. written_back forward.target c.args.targets.now (c.get_mut.follows.lender c.answer.new.self) c.in-Some.here.now c.answer.new.self
    (AnswersAt forward c.args.cause c.args.position c.args.moment c.args.response) c.in-Some.ensures.value (c.get_mut.follows.holds c.answer.new.self) answers)
    c.answer.ensures

pub returns-in_ok-insert : goal.returns-in_ok-insert
returns-in_ok-insert c =
    let forward = forward_seen c.args.forward in
    put_in forward.target c.in_ok-target.target c.args.targets.now _ c.insert.new.self c.answer-2.new.self (AnswersAt forward c.args.cause c.args.position c.args.moment c.args.response)
    c.in_default.ensures.value c.get_mut.follows.holds-at-none c.in_ok-target.ensures c.in_ok-insert.ensures.updates
    (answers_from forward c.args.cause c.args.position c.args.moment c.args.response None (Some c.new-here.result) (Some c.answer-2.new.self) (c.new-here.ensures forward.target)
    c.in_ok-answer.ensures)

-- nothing is kept of a target of which no more is known than of one that was never seen
pub returns-else-not-is_nothing : goal.returns-else-not-is_nothing
returns-else-not-is_nothing c =
    let forward = forward_seen c.args.forward in
    left_alone forward.target c.args.targets.now c.get_mut.follows.lender-at-none (AnswersAt forward c.args.cause c.args.position c.args.moment c.args.response)
    c.in_default.ensures.value c.get_mut.follows.holds-at-none
    (answers_to forward c.args.cause c.args.position c.args.moment c.args.response None (Some c.answer-2.new.self) None
    (answers_from forward c.args.cause c.args.position c.args.moment c.args.response None (Some c.new-here.result) (Some c.answer-2.new.self) (c.new-here.ensures forward.target)
    c.in_ok-answer.ensures)
    (c.is_nothing.ensures c.if-not-is_nothing.false forward.target))
