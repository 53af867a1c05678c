use Rattle.std.proofs.Common.{◌≡◌, true}
use Rattle.hc_audit.specs.Hearing.{item_judged}
use Rattle.hc_why.specs.Explaining.{judged_of}
use Rattle.hc_explain.proofs.HearingLemmas.{told_later, told_newest}
use Rattle.hc_explain.proofs.explaining.Explaining.tell.Goals as goal

pub returns-then-not-is_as-clause-told : goal.returns-then-not-is_as-clause-told
returns-then-not-is_as-clause-told g c = λ h behind past told.
    let self = c.args.self.now in
    told_later self.form (item_judged c.args.judged.now) h self.found.position self.found.finding self.told told

pub returns-clause-told : goal.returns-clause-told
returns-clause-told g c = λ h behind past told.
    let self = c.args.self.now in
    let judged = c.args.judged.now in
    let is : c.is_as.result ≡ true = c.if-not-is_as.false in
    let same = c.is_as.ensures.same is in
    told_newest self.form (judged_of judged) h self.found.position self.found.finding c.in_ok-self.field-0 behind.position same.position same.finding
    (c.in_ok-self.ensures h self.found.target behind (past same.position) (c.is_as.ensures.target h behind.index is))
