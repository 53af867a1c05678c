use Rattle.std.proofs.Common.{sym, ◌∙◌, inr}
use Rattle.hc_core.proofs.EventLemmas.{can_step, can_take, keeps, refused, told}
use Rattle.hc_core.proofs.machine.Core.serve.Goals as goal

pub returns-in-Some-clause-gives : goal.returns-in-Some-clause-gives
returns-in-Some-clause-gives g c = λ settings s stands ready.
    refused c.in-Some.fault settings c.args.event s c.args.self.now c.in-Some.ensures.kind
    (c.in-Some.ensures.tests settings s (keeps settings s c.self.inside.failed c.self.inside.desk c.args.self.now c.self.view_is stands))

pub returns-in-Some-clause-first : goal.returns-in-Some-clause-first
returns-in-Some-clause-first g c = λ settings s stands.
    told c.in-Some.fault c.args.event s c.in-Some.ensures.kind
    (c.in-Some.ensures.tests settings s (keeps settings s c.self.inside.failed c.self.inside.desk c.args.self.now c.self.view_is stands))

pub serve-requires-clause-can : goal.serve-requires-clause-can
serve-requires-clause-can g c =
    let can = can_step c.self.inside.failed c.self.inside.desk c.self.invariant c.if-self.false in
    can_take g.row.S.Denot g.row.S-Hasher.Denot c.args.event c.self.inside.desk can
    (sym (c.first_fault.ensures.tests can.settings can.state can.stands) ∙ c.in_default.is)

pub invariant_of-self : goal.invariant_of-self
invariant_of-self g c =
    let can = can_step c.self.inside.failed c.self.inside.desk c.self.invariant c.if-self.false in
    let gives = c.in-Ok.ensures can.settings can.state can.stands
    (sym (c.first_fault.ensures.tests can.settings can.state can.stands) ∙ c.in_default.is) in
    inr (record { settings = can.settings; state = gives.state; stands = gives.stands })

pub returns-in-Ok-clause-gives : goal.returns-in-Ok-clause-gives
returns-in-Ok-clause-gives g c = λ settings s stands ready.
    let stands-inside = keeps settings s c.self.inside.failed c.self.inside.desk c.args.self.now c.self.view_is stands in
    let gives = c.in-Ok.ensures settings s stands-inside (sym (c.first_fault.ensures.tests settings s stands-inside) ∙ c.in_default.is) in
    (gives.state, record { works = c.if-self.false; stands = gives.stands }, gives.serves ready)
