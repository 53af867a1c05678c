use Rattle.std.proofs.Common.{◌++◌, ◌∷◌, sym, subst}
use Rattle.hc_transcript.specs.Items.{Item}
use Rattle.hc_audit.specs.Told.{wrong_of}
use Rattle.hc_audit.proofs.SurveyLemmas.{handed, handed_item, told_reply}
use Rattle.hc_audit.proofs.judge.Judge.tell.Goals as goal

pub returns-clause-told : goal.returns-clause-told
returns-clause-told g c = λ h wrongs seen position opens tells.
    let reply = c.in-Some.judged in (
      wrongs ++ wrong_of reply.position reply.finding,
      told_reply c.args.format c.args.self.now.settings h c.args.item.now _ reply _ wrongs opens (c.in_ok-judged.ensures.finding h seen) c.in-Some.is
          c.in_ok-judged.ensures.position position,
      c.in_ok-see.ensures.told wrongs tells,
    )

pub returns-clause-heard : goal.returns-clause-heard
returns-clause-heard g c = λ h seen position opens hears.
    subst (λ (i : Item). g.W.Witness.hears c.see.new.self (i ∷ h)) (sym (handed_item c.args.item.now _ c.in-Some.judged c.in-Some.is c.in_ok-judged.ensures.reply))
    (c.in_ok-see.ensures.heard h hears
    (handed g.I.Index.seen c.args.format c.args.self.now.settings c.args.self.now.index h c.args.item.now _ c.in-Some.judged _ opens seen (c.in_ok-judged.ensures.finding h seen)
    c.in-Some.is c.in_ok-judged.ensures.position position (c.in_ok-judged.ensures.mark h seen opens) c.in_ok-judged.ensures.reply c.in_ok-judged.ensures.known))
