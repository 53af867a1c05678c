use Rattle.std.proofs.Common.{◌∷◌, sym, subst}
use Rattle.hc_transcript.specs.Items.{Item}
use Rattle.hc_history.specs.Found.{AnswersOpen}
use Rattle.hc_audit.proofs.JudgeLemmas.{ahead_open, ahead_position, marked_here}
use Rattle.hc_audit.proofs.SurveyLemmas.{told_here, wrong_goes_on}
use Rattle.hc_audit.proofs.judge.Judge.take_in.Goals as goal

pub returns-clause-goes_on : goal.returns-clause-goes_on
returns-clause-goes_on g c = λ settings octets was.
    let seen = g.I.Index.seen in
    let judge = c.args.self.now in
    let h = was.0 in
    let w = was.2 in
    let a = w.ahead in
    let item = c.view-view.ensures.item a.item a.lends in
    let position = ahead_position seen judge settings octets h c.args.format a in
    let opens = subst (λ (i : Item). AnswersOpen h i) (sym item) (ahead_open seen judge settings octets h c.args.format a) in
    let told = c.in_ok-mark.ensures.told h was.1 a.index position opens was.3 in (
      a.item ∷ h,
      told.0,
      wrong_goes_on seen judge _ settings octets c.args.format h was.1 told.0 w (told_here c.args.format _ settings h _ a.item was.1 told.0 a.settings_are item told.1) c.note.ensures.format
          (c.in_ok-note.ensures.read settings octets h a (marked_here c.args.format _ settings _ a.item h _ a.settings_are item (c.in_ok-mark.ensures.mark h a.index opens))),
      told.2,
      subst (λ (i : Item). g.W.Witness.hears c.tell.new.witness (i ∷ h)) item (c.in_ok-mark.ensures.heard h a.index position opens was.4),
    )
