use Rattle.std.proofs.Common.{◌∙◌, length, refl, sym}
use Rattle.hc_audit.specs.Hearing.{item_judged}
use Rattle.hc_past.specs.Remembered.{all_known_of, ends_of, open_sent}
use Rattle.hc_explain.proofs.HearingLemmas.{before_too, has_come, heard_after, not_yet, on_ok, told_later}
use Rattle.hc_explain.proofs.explaining.ExplainingWitness.see.Goals as goal

pub returns-then-judged-self-clause-heard : goal.returns-then-judged-self-clause-heard
returns-then-judged-self-clause-heard g c = λ h heard behind.
    let self = c.args.self.now in
    record {
      before = λ few. heard.before (before_too self.found.position (length h) few);
      past = λ after.
          let past = heard.past after in
          let judged = c.args.judged.now in
          let target = self.found.target in
          record {
            ends = c.answer.ensures.ends target (ends_of target.path h) past.ends;
            known = c.answer.ensures.known target (open_sent target.path h) (all_known_of target.path h) past.known;
            asked = c.answer.ensures.asked h target judged.moment judged.reply past.asked behind.position;
          };
      told = told_later self.form (item_judged c.args.judged.now) h self.found.position self.found.finding self.told heard.told;
    }

pub returns-clause-heard : goal.returns-clause-heard
returns-clause-heard g c = λ h heard behind.
    let self = c.args.self.now in
    on_ok c.tell.result
    (c.tell.ensures.told h behind (λ at. heard.past (heard.before (not_yet self.found.position h (sym at ∙ behind.position)))) heard.told)
    (λ told. heard_after _ c.tell.new.self (item_judged c.args.judged.now) h c.tell.ensures.kept refl told
    (has_come self.found.position c.args.judged.now.position h c.if-judged-self.false behind.position))
