use Rattle.std.proofs.Common.{inl, inr, map, subst}
use Rattle.clap.specs.declared.error.ErrorKind.{ErrorKind}
use Rattle.hc_options.specs.declared.auditing.AuditTerms.{AuditTerms}
use Rattle.hc_options.specs.Commands.{IsErrorStatus}
use Rattle.hc_options.proofs.AuditWordLemmas.{one_audit, refused_for_memory}
use Rattle.hc_auditing.specs.Audit.{Answers}
use Rattle.hc_auditing.proofs.program.answered.Goals as goal

pub returns-in-Ok-clause-audit : goal.returns-in-Ok-clause-audit
returns-in-Ok-clause-audit g c = λ name file word same.
    subst (λ (t : AuditTerms). Answers t.minimums c.audited.result (g.W.Write.contents c.args.output.now) (g.W.Write.contents c.audited.new.output)
    (g.E.Write.contents c.args.faults.now) (g.E.Write.contents c.audited.new.faults)) (c.in-Ok.ensures.audit name file word same).1 c.audited.ensures

pub returns-in-Ok-clause-asked : goal.returns-in-Ok-clause-asked
returns-in-Ok-clause-asked g c = λ file terms none asks.
    subst (λ (t : AuditTerms). Answers t.minimums c.audited.result (g.W.Write.contents c.args.output.now) (g.W.Write.contents c.audited.new.output)
    (g.E.Write.contents c.args.faults.now) (g.E.Write.contents c.audited.new.faults))
    (one_audit _ c.in-Ok.order.terms terms c.in-Ok.ensures.asked.terms_are asks.terms_are) c.audited.ensures

pub returns-in-Err-clause-audit : goal.returns-in-Err-clause-audit
returns-in-Err-clause-audit g c = λ name file word same.
    inl (subst (λ (k : ErrorKind). IsErrorStatus k c.shown.result) (c.in-Err.ensures.audit name file word same) c.shown.ensures.status)

pub returns-in-Err-clause-asked : goal.returns-in-Err-clause-asked
returns-in-Err-clause-asked g c = λ file terms none asks.
    inl (subst (λ (k : ErrorKind). IsErrorStatus k c.shown.result)
    (refused_for_memory (map g.S.AsStr.text c.args.words.now) file terms c.in-Err.error none asks c.in-Err.ensures.refused) c.shown.ensures.status)

pub returns-in-Err-clause-ends : goal.returns-in-Err-clause-ends
returns-in-Err-clause-ends g c = inr c.shown.ensures.ends
