-- What a report in HTML leaves on its two writers.
use Rattle.std.specs.Prelude.{◌≡◌, ◌⊎◌, ℕ, List, Bool, true, false, Option, IfSome}
use Rattle.std.specs.Io.KnownBytes.{Appends, Keeps}
use Rattle.hc_history.specs.declared.settings.Settings.{Settings}
use Rattle.hc_history.specs.declared.verdicts.Verdict.{Verdict}
use Rattle.hc_history.specs.Verdicts.{IsVerdict}
use Rattle.hc_html.specs.Marked.{IsDocument}
use Rattle.hc_arguments.specs.Tasks.{Form}
use Rattle.hc_options.specs.declared.auditing.AuditTerms.{AuditTerms}
use Rattle.hc_options.specs.declared.auditing.Minimums.{Minimums}
use Rattle.hc_auditing.specs.Line.{IsVerdictLine}
use Rattle.hc_auditing.specs.Minimums.{EndsBy}
use Rattle.hc_command.specs.Reporting.{ReportedFor}

-- it is a document that says the line of that verdict first
abbrev pub IsDocumentOf : Verdict → List ℕ → Type 0
IsDocumentOf verdict text = (line : List ℕ) × IsVerdictLine verdict line × IsDocument line text

-- the verdict is that on all octets that the input had, where these are known, and the writer got a document of it
pub record SaysDocument (settings : Settings) (verdict : Verdict) (input old new : Option (List ℕ)) : Type 0 where
  pub is : IfSome input (λ octets. IsVerdict octets settings verdict)
  pub text : List ℕ
  pub is_document : IsDocumentOf verdict text
  pub written : Appends old new text

-- and it ends by that verdict; where there is none, the status is 3
abbrev pub DocumentsBy : Settings → Minimums → Option (List ℕ) → ℕ → Option (List ℕ) → Option (List ℕ) → Option (List ℕ) → Option (List ℕ) → Type 0
DocumentsBy settings least input status old new faults_old faults_new =
    (status ≡ 3) ⊎ ((verdict : Verdict) × SaysDocument settings verdict input old new × EndsBy least verdict status faults_old faults_new)

-- where the input isn't known
abbrev pub Documented : AuditTerms → ℕ → Option (List ℕ) → Option (List ℕ) → Option (List ℕ) → Option (List ℕ) → Type 0
Documented terms status old new faults_old faults_new = (input : Option (List ℕ)) × DocumentsBy terms.settings terms.minimums input status old new faults_old faults_new

-- where another form is asked, too, or it can't be read twice, nothing is written on the output, and the status is 64, or 3
abbrev pub DocumentedAlone : AuditTerms → ℕ → Option (List ℕ) → Option (List ℕ) → Option (List ℕ) → Option (List ℕ) → Type 0
DocumentedAlone terms status old new faults_old faults_new =
    (((status ≡ 64) ⊎ (status ≡ 3)) × Keeps old new) ⊎ Documented terms status old new faults_old faults_new

-- in HTML, or not
abbrev pub ReportedAs : Bool → Form → AuditTerms → ℕ → Option (List ℕ) → Option (List ℕ) → Option (List ℕ) → Option (List ℕ) → Type 0
ReportedAs true form terms status old new faults_old faults_new = DocumentedAlone terms status old new faults_old faults_new
ReportedAs false form terms status old new faults_old faults_new = ReportedFor form.baseline form terms status old new faults_old faults_new

abbrev pub ReportedOn : Form → AuditTerms → ℕ → Option (List ℕ) → Option (List ℕ) → Option (List ℕ) → Option (List ℕ) → Type 0
ReportedOn form terms status old new faults_old faults_new = ReportedAs form.html form terms status old new faults_old faults_new
