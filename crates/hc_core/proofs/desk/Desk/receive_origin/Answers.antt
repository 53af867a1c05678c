use Rattle.std.proofs.Common.{ℕ, Some, false, refl, sym, subst, ◌++◌}
use Rattle.std.specs.BTreeMap.{BTreeMap}
use Rattle.std.specs.FinMap.{remove}
use Rattle.hc_head.specs.Methods.{is_head}
use Rattle.hc_service.specs.Turns.{after_origin_octets}
use Rattle.hc_service.specs.Turns.Failure.{IsBroken}
use Rattle.hc_open.specs.declared.links.Link.{Link}
use Rattle.hc_open.specs.Links.{IsLink}
use Rattle.hc_open.specs.Tables.{AreAlike}
use Rattle.hc_core.proofs.UnreadLemmas.{answer_of_link, failure_of_link, link_of, same_forward, received_link}
use Rattle.hc_open.proofs.TableLemmas.{alike_put, alike_taken}
use Rattle.hc_core.proofs.ReceiveLemmas.{received_links, receives_answer, receives_failure, receives_on, state_received, received_there, received_without}
use Rattle.hc_core.proofs.desk.Desk.receive_origin.Goals as goal

pub returns-in_ok-insert-in-More : goal.returns-in_ok-insert-in-More
returns-in_ok-insert-in-More g c = λ settings s awaited stands there.
    let d = c.args.self.now in
    let link = c.in-Some.link in
    let was = link_of g.row.S.Denot g.row.S-Hasher.Denot settings d s c.args.f awaited stands there link (sym c.in-Some.ensures.value) in
    let left = alike_taken IsLink d.links.by_number c.remove.new.self s.forwards c.args.f (Some link) stands.links.by_number c.in-Some.ensures.updates c.in-Some.ensures.value c.in-Some.ensures.len in
    let heard = (rw c.in-More.is at (c.in_ok-heard.ensures.gives (is_head awaited.forward.request.method) awaited.received was.reads)) in
    receives_on g.row.S.Denot g.row.S-Hasher.Denot settings d s c.args.f c.args.octets.now awaited stands there _ c.args.actions.now.items
    (received_links g.row.S.Denot g.row.S-Hasher.Denot settings d s c.args.f c.args.octets.now awaited stands there c.insert.new.self
    (alike_put IsLink c.remove.new.self c.insert.new.self (remove s.forwards c.args.f) c.args.f _ (after_origin_octets c.args.octets.now awaited) c.in_ok-insert-in-More.field-0 left
    (received_link link awaited was c.args.octets.now c.hear.new.self heard.1) c.in_ok-insert-in-More.ensures.updates c.in_ok-insert-in-More.ensures.old c.in_ok-insert-in-More.ensures.len))
    heard.0

pub returns-in_ok-client-in-Response : goal.returns-in_ok-client-in-Response
returns-in_ok-client-in-Response g c = λ settings s awaited stands there.
    let d = c.args.self.now in
    let octets = c.args.octets.now in
    let link = c.in-Some.link in
    let was = link_of g.row.S.Denot g.row.S-Hasher.Denot settings d s c.args.f awaited stands there link (sym c.in-Some.ensures.value) in
    let left = alike_taken IsLink d.links.by_number c.remove.new.self s.forwards c.args.f (Some link) stands.links.by_number c.in-Some.ensures.updates c.in-Some.ensures.value c.in-Some.ensures.len in
    let forgotten = subst (λ (m : BTreeMap ℕ Link). AreAlike IsLink m (remove s.forwards c.args.f)) (sym c.forget.ensures.by_number) left in
    let heard = (rw c.in-Response.is at (c.in_ok-heard.ensures.gives (is_head awaited.forward.request.method) awaited.received was.reads)) in
    receives_answer g.row.S.Denot g.row.S-Hasher.Denot settings d s c.args.f octets awaited stands there c.in_ok-client-in-Response.client c.args.actions.now.items c.answer.new.actions.items c.answer.new.self
    (c.in_ok-client-in-Response.ensures settings (state_received g.row.S.Denot g.row.S-Hasher.Denot settings d s c.args.f octets awaited stands there) (after_origin_octets octets awaited) false
    (received_without g.row.S.Denot g.row.S-Hasher.Denot settings d s c.args.f octets awaited stands there c.forget.new.self (let others = c.forget.ensures.others s.forwards awaited stands.links.behind stands.links.joinable there (same_forward link awaited was) in record { by_number = forgotten; behind = others.0; joinable = others.1 }))
    (received_there g.row.S.Denot g.row.S-Hasher.Denot settings d s c.args.f octets awaited stands there)
    (same_forward link awaited was) (answer_of_link link awaited was false (awaited.received ++ octets) c.in-Response.response heard))

pub returns-in_ok-client-in-Failed : goal.returns-in_ok-client-in-Failed
returns-in_ok-client-in-Failed g c = λ settings s awaited stands there.
    let d = c.args.self.now in
    let octets = c.args.octets.now in
    let link = c.in-Some.link in
    let was = link_of g.row.S.Denot g.row.S-Hasher.Denot settings d s c.args.f awaited stands there link (sym c.in-Some.ensures.value) in
    let left = alike_taken IsLink d.links.by_number c.remove.new.self s.forwards c.args.f (Some link) stands.links.by_number c.in-Some.ensures.updates c.in-Some.ensures.value c.in-Some.ensures.len in
    let forgotten = subst (λ (m : BTreeMap ℕ Link). AreAlike IsLink m (remove s.forwards c.args.f)) (sym c.forget-in-Failed.ensures.by_number) left in
    let heard = (rw c.in-Failed.is at (c.in_ok-heard.ensures.gives (is_head awaited.forward.request.method) awaited.received was.reads)) in
    receives_failure g.row.S.Denot g.row.S-Hasher.Denot settings d s c.args.f octets awaited stands there c.in_ok-client-in-Failed.client c.args.actions.now.items c.break_off.new.actions.items c.break_off.new.self
    (c.in_ok-client-in-Failed.ensures settings (state_received g.row.S.Denot g.row.S-Hasher.Denot settings d s c.args.f octets awaited stands there) (after_origin_octets octets awaited) IsBroken
    (received_without g.row.S.Denot g.row.S-Hasher.Denot settings d s c.args.f octets awaited stands there c.forget-in-Failed.new.self (let others = c.forget-in-Failed.ensures.others s.forwards awaited stands.links.behind stands.links.joinable there (same_forward link awaited was) in record { by_number = forgotten; behind = others.0; joinable = others.1 }))
    (received_there g.row.S.Denot g.row.S-Hasher.Denot settings d s c.args.f octets awaited stands there)
    (same_forward link awaited was) refl (failure_of_link link awaited was IsBroken (awaited.received ++ octets) heard.failure))
