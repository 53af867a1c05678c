use Rattle.std.proofs.Common.{true, refl}
use Rattle.hc_head.specs.Methods.{is_head}
use Rattle.hc_service.specs.Turns.Failure.{IsCutOff}
use Rattle.std.specs.FinMap.{get}
use Rattle.hc_core.proofs.UnreadLemmas.{answer_of_link, failure_of_link, left_way, none_or_some, right_way, same_forward, stands_without, taken_link}
use Rattle.hc_core.proofs.desk.Desk.end_origin.Goals as goal

pub returns-in_default : goal.returns-in_default
returns-in_default g c = λ settings s awaited stands there.
    absurd (none_or_some (get s.forwards c.args.f) awaited (c.in_default.ensures s.forwards stands.links).0 there)

pub returns-in-Response : goal.returns-in-Response
returns-in-Response g c = λ settings s awaited stands there.
    let d = c.args.self.now in
    let link = c.in-Some.link in
    let taken = c.in-Some.ensures s.forwards stands.links in
    let was = taken_link link (get s.forwards c.args.f) taken.0 awaited taken.1 there taken.2 in
    let ends = (rw c.in-Response.is at (c.in_ok-ended.ensures.gives (is_head awaited.forward.request.method) awaited.received was.reads)) in
    left_way c.answer.result _ _
    (c.answer.ensures settings s awaited true
    (stands_without g.row.S.Denot g.row.S-Hasher.Denot settings d s c.args.f awaited stands there c.take.new.self taken.3) there
    (same_forward link awaited was) (answer_of_link link awaited was true awaited.received c.in-Response.response ends))

pub returns : goal.returns
returns g c = λ settings s awaited stands there.
    let d = c.args.self.now in
    let link = c.in-Some.link in
    let taken = c.in-Some.ensures s.forwards stands.links in
    let was = taken_link link (get s.forwards c.args.f) taken.0 awaited taken.1 there taken.2 in
    let ends = (rw c.in-Failed.is at (c.in_ok-ended.ensures.gives (is_head awaited.forward.request.method) awaited.received was.reads)) in
    right_way c.break_off.result _ _
    (c.break_off.ensures settings s awaited IsCutOff
    (stands_without g.row.S.Denot g.row.S-Hasher.Denot settings d s c.args.f awaited stands there c.take.new.self taken.3) there
    (same_forward link awaited was) refl (failure_of_link link awaited was IsCutOff awaited.received ends.failure))
