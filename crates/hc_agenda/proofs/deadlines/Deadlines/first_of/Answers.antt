use Rattle.std.proofs.Common.{sym, ◌∙◌}
use Rattle.hc_agenda.proofs.DeadlineLemmas.{first_stands, none_stands, other_stands}
use Rattle.hc_agenda.proofs.DueLemmas.{same_timeout_one}
use Rattle.hc_agenda.proofs.deadlines.Deadlines.first_of.Goals as goal

pub returns-in_default : goal.returns-in_default
returns-in_default c = none_stands c.args.self.now c.args.timeout c.range.result (c.range.ensures.in_range tt) c.in_default.ensures.steps.0

pub returns-then-eq : goal.returns-then-eq
returns-then-eq c =
    first_stands c.args.self.now c.args.timeout c.range.result (c.range.ensures.in_range tt) c.in-Some.first.now _ c.in-Some.ensures.steps
    (same_timeout_one c.in-Some.first.now.timeout c.args.timeout (sym c.eq.ensures ∙ c.if-eq.true))

pub returns : goal.returns
returns c = other_stands c.args.self.now c.args.timeout c.range.result (c.range.ensures.in_range tt) c.in-Some.first.now _ c.in-Some.ensures.steps (sym c.eq.ensures ∙ c.if-eq.false)
