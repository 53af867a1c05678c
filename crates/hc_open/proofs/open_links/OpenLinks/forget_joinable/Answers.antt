use Rattle.std.proofs.Common.{sym, ◌∙◌}
use Rattle.hc_open.proofs.BehindLemmas.{keeps_joinable, leaves_joinable}
use Rattle.hc_open.proofs.open_links.OpenLinks.forget_joinable.Goals as goal

pub returns-then-not-may_be_joined-clause-joinable : goal.returns-then-not-may_be_joined-clause-joinable
returns-then-not-may_be_joined-clause-joinable c = λ forwards a are there same.
    keeps_joinable c.args.self.now.joinable.sets forwards c.args.number a c.args.forward.now are same there (sym c.may_be_joined.ensures ∙ c.if-not-may_be_joined.true)

pub returns-clause-joinable : goal.returns-clause-joinable
returns-clause-joinable c = λ forwards a are there same.
    leaves_joinable c.args.self.now.joinable.sets forwards c.args.number a c.args.forward.now are same there (sym c.may_be_joined.ensures ∙ c.if-not-may_be_joined.false)
    c.remove.new.self.sets c.remove.ensures
