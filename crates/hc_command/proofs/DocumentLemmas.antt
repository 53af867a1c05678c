-- How a report ends that is in HTML, or isn't.
use Rattle.std.proofs.Common.{◌≡◌, ◌⊎◌, ℕ, Bool, List, None, Option, inl, inr, subst, sym}
use Rattle.hc_arguments.specs.Tasks.{Form}
use Rattle.hc_options.specs.declared.auditing.AuditTerms.{AuditTerms}
use Rattle.hc_options.specs.declared.auditing.Minimums.{Minimums}
use Rattle.hc_history.specs.declared.settings.Settings.{Settings}
use Rattle.hc_history.specs.declared.verdicts.Verdict.{Verdict}
use Rattle.hc_auditing.specs.Minimums.{EndsBy}
use Rattle.hc_command.specs.Documents.{Documented, DocumentsBy, ReportedAs, SaysDocument}

-- it is the one that was asked
pub reported_as : (html one : Bool) (form : Form) (terms : AuditTerms) (status : ℕ) (old new faults_old faults_new : Option (List ℕ)) → html ≡ one
    → ReportedAs one form terms status old new faults_old faults_new → ReportedAs html form terms status old new faults_old faults_new
reported_as html one form terms status old new faults_old faults_new is reported = subst (λ (b : Bool). ReportedAs b form terms status old new faults_old faults_new) (sym is) reported

-- it ends by the verdict on it
pub documents_by : (settings : Settings) (least : Minimums) (verdict : Verdict) (input : Option (List ℕ)) (status : ℕ) (old new faults_old faults_new : Option (List ℕ))
    → SaysDocument settings verdict input old new → (status ≡ 3) ⊎ EndsBy least verdict status faults_old faults_new → DocumentsBy settings least input status old new faults_old faults_new
documents_by settings least verdict input status old new faults_old faults_new says (inl failed) = inl failed
documents_by settings least verdict input status old new faults_old faults_new says (inr ends) = inr (verdict, says, ends)

-- where it isn't known what was read, what fails ends so
pub document_fails : (terms : AuditTerms) (status : ℕ) (old new faults_old faults_new : Option (List ℕ)) → status ≡ 3 → Documented terms status old new faults_old faults_new
document_fails terms status old new faults_old faults_new is = (None, inl is)
