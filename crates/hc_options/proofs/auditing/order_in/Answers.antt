use Rattle.std.proofs.Common.{codes, inl, refl, subst}
use Rattle.std.specs.Prelude.{IfErr, IfOk}
use Rattle.clap.specs.Words.{found_of}
use Rattle.hc_options.specs.Auditing.{AsksAudit}
use Rattle.hc_options.specs.Refusals.{Refuses}
use Rattle.hc_options.specs.Rows.{audit_entries, audited, is_taken}
use Rattle.hc_options.proofs.ParseLemmas.{no_value, same_values}
use Rattle.hc_options.proofs.auditing.order_in.Goals as goal

pub returns-in-None-clause-err : goal.returns-in-None-clause-err
returns-in-None-clause-err c = record {
  entry = audited;
  is_among = inl refl;
  is_required = refl;
  is_left_out = no_value _ c.in-None.ensures.rows (codes "FILE");
}

pub returns-in-Some-clause-ok : goal.returns-in-Some-clause-ok
returns-in-Some-clause-ok c =
    subst (λ v. IfOk c.audit_in.result (λ order. AsksAudit v order.file.now order.terms))
    (same_values _ (found_of c.in-Some.found.now) c.in-Some.ensures.rows) c.audit_in.ensures.ok

pub returns-in-Some-clause-err : goal.returns-in-Some-clause-err
returns-in-Some-clause-err c =
    subst (λ v. IfErr c.audit_in.result (Refuses is_taken audit_entries v)) (same_values _ (found_of c.in-Some.found.now) c.in-Some.ensures.rows)
    c.audit_in.ensures.err
