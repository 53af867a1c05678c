use Rattle.std.proofs.Common.{sym, ◌∙◌, subst}
use Rattle.hc_head.specs.declared.head.Target.{Target}
use Rattle.hc_open.specs.Groups.{AddsNumber}
use Rattle.hc_open.specs.Links.{by_target}
use Rattle.hc_open.proofs.BehindLemmas.{comes_joinable, stays_joinable}
use Rattle.hc_open.proofs.WaitLemmas.{on_ok}
use Rattle.hc_open.proofs.open_links.OpenLinks.note_joinable.Goals as goal

pub returns-then-not-may_be_joined-clause-joinable : goal.returns-then-not-may_be_joined-clause-joinable
returns-then-not-may_be_joined-clause-joinable c = λ forwards a are none same.
    stays_joinable c.args.self.now.joinable.sets forwards c.args.number a c.args.forward.now are same none (sym c.may_be_joined.ensures ∙ c.if-not-may_be_joined.true)

pub returns-clause-joinable : goal.returns-clause-joinable
returns-clause-joinable c = λ forwards a are none same.
    let m = c.args.self.now.joinable.sets in
    on_ok c.add.result
    (λ adds. comes_joinable m forwards c.args.number a c.args.forward.now are same none (sym c.may_be_joined.ensures ∙ c.if-not-may_be_joined.false) c.add.new.self.sets
    (subst (λ (t : Target). AddsNumber by_target m t c.args.number c.add.new.self.sets) c.in_ok-target.ensures adds))
    c.add.ensures
