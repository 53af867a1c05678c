use Rattle.std.proofs.Common.{sym, ◌∙◌}
use Rattle.hc_audit.specs.Hearing.{item_judged}
use Rattle.hc_why.proofs.SeekingLemmas.{found_already, found_later, found_newest, is_found, stays_elsewhere, stays_known}
use Rattle.hc_why.proofs.seeking.ReplyAt.take.Goals as goal

pub returns-then-judged-self-clause-told : goal.returns-then-judged-self-clause-told
returns-then-judged-self-clause-told g c = λ wrongs before.
    stays_elsewhere c.args.self.now wrongs c.args.judged.now.position c.args.judged.now.finding c.if-judged-self.true before

pub returns-then-judged-self-clause-found : goal.returns-then-judged-self-clause-found
returns-then-judged-self-clause-found g c = λ h before behind.
    found_later c.args.self.now (item_judged c.args.judged.now) h (λ next. absurd (c.if-judged-self.true (behind.position ∙ sym next))) before

pub returns-then-is_some-clause-told : goal.returns-then-is_some-clause-told
returns-then-is_some-clause-told g c = λ wrongs before.
    stays_known c.args.self.now wrongs c.args.judged.now.position c.args.judged.now.finding (sym c.is_some.ensures ∙ c.if-is_some.true) before

pub returns-then-is_some-clause-found : goal.returns-then-is_some-clause-found
returns-then-is_some-clause-found g c = λ h before behind.
    found_already c.args.self.now (item_judged c.args.judged.now) h (sym c.is_some.ensures ∙ c.if-is_some.true) before

pub returns-clause-told : goal.returns-clause-told
returns-clause-told g c = λ wrongs before.
    is_found c.args.self.now wrongs c.args.judged.now.position c.args.judged.now.finding c.reason_in-self.result c.in_ok-self.field-0
    c.if-judged-self.false (sym c.is_some.ensures ∙ c.if-is_some.false) c.reason_in-self.ensures c.in_ok-self.ensures.told before

pub returns-clause-found : goal.returns-clause-found
returns-clause-found g c = λ h before behind.
    found_newest c.args.self.now c.reason_in-self.result c.in_ok-self.field-0 (item_judged c.args.judged.now) h (sym c.if-judged-self.false ∙ behind.position) behind.is_open
    (c.in_ok-self.ensures.there h behind.index behind.is_open)
