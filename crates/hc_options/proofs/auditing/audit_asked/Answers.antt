use Rattle.hc_options.proofs.AuditWordLemmas.{audit_words}
use Rattle.hc_options.proofs.auditing.audit_asked.Goals as goal

pub returns-clause-audit : goal.returns-clause-audit
returns-clause-audit g c = λ name file word same.
    audit_words _ name file word same c.asked.result c.asked.ensures.asked c.asked.ensures.refused
