use Rattle.std.proofs.Common.{◌≡◌, false, length}
use Rattle.hc_audit.specs.Hearing.{item_passed}
use Rattle.hc_explain.proofs.HearingLemmas.{before_too, has_come, on_all, told_later}
use Rattle.hc_explain.proofs.explaining.ExplainingWitness.pass.Goals as goal

pub returns-then-self-passed-clause-heard : goal.returns-then-self-passed-clause-heard
returns-then-self-passed-clause-heard g c = λ h heard behind.
    let self = c.args.self.now in
    record {
      before = λ few. absurd (has_come self.found.position c.args.passed.now.position h c.if-self-passed.true behind.position few);
      past = λ after. absurd cc;
      told = told_later self.form (item_passed c.args.passed.now) h self.found.position self.found.finding self.told heard.told;
    }

pub returns-clause-heard : goal.returns-clause-heard
returns-clause-heard g c = λ h heard behind.
    let self = c.args.self.now in
    let target = self.found.target in
    on_all {After = self.is_after ≡ false} c.pass.result
    (λ after. c.pass.ensures.ends h target (heard.past after).ends behind)
    (λ after. c.pass.ensures.known h target (heard.past after).known behind)
    (λ after. c.pass.ensures.asked h target (heard.past after).asked behind)
    (λ ends known asked. record {
      before = λ few. heard.before (before_too self.found.position (length h) few);
      past = λ after. record { ends = ends after; known = known after; asked = asked after };
      told = told_later self.form (item_passed c.args.passed.now) h self.found.position self.found.finding self.told heard.told;
    })
