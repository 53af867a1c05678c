use Rattle.std.proofs.Common.{Bool, ap, refl, ◌∙◌}
use Rattle.hc_transcript.specs.History.{exchange_of}
use Rattle.hc_history.specs.Marks.{mark_by}
use Rattle.hc_audit.proofs.JudgeLemmas.{own_mark, mark_known}
use Rattle.hc_audit.proofs.judge.Judge.mark_of.Goals as goal

pub returns-then-not-allowed : goal.returns-then-not-allowed
returns-then-not-allowed g c = λ h seen some.
    c.mark.ensures ∙ own_mark c.args.format c.args.self.now.settings (exchange_of c.args.exchange h) c.args.reply.now h c.if-not-allowed.true

pub returns : goal.returns
returns g c = λ h seen some.
    c.mark_by.ensures
    ∙ ap (λ (b : Bool). mark_by c.args.format c.args.self.now.settings.allowed b c.args.reply.now) (c.has_forward.ensures c.args.format h seen)
    ∙ mark_known c.args.format c.args.self.now.settings c.args.exchange c.args.reply.now h (exchange_of c.args.exchange h) refl some
