-- How the program ends.
use Rattle.std.specs.Prelude.{◌≡◌, ◌⊎◌, ℕ, List, Bool, Option}
use Rattle.std.specs.Io.KnownBytes.{Keeps}
use Rattle.hc_options.specs.declared.auditing.AuditTerms.{AuditTerms}
use Rattle.hc_options.specs.declared.auditing.Minimums.{Minimums}
use Rattle.hc_arguments.specs.Tasks.{Form, Task}
use Rattle.hc_arguments.specs.Tasks.Task.{ToAudit, ToReport, ToExplain, ToShow, ToReplay, ToConvert, ToSplit, ToJoin, ToServe, ToProxy}
use Rattle.hc_auditing.specs.Audit.{Answers}
use Rattle.hc_command.specs.Convert.{Converted}
use Rattle.hc_command.specs.Replay.{Played}
use Rattle.hc_command.specs.Report.{Explained}
use Rattle.hc_command.specs.Documents.{ReportedOn}
use Rattle.hc_command.specs.Show.{ShownFor}
use Rattle.hc_parting.specs.Ends.{EndsJoin, EndsSplit}
use Rattle.hc_shown.specs.declared.span.Span.{Span}

-- another program does that: it is refused, or memory was, and nothing was written on the output
abbrev pub IsElsewhere : ℕ → Option (List ℕ) → Option (List ℕ) → Type 0
IsElsewhere status old new = ((status ≡ 64) ⊎ (status ≡ 3)) × Keeps old new

-- what is answered to a task
abbrev pub Does : Task → ℕ → Option (List ℕ) → Option (List ℕ) → Option (List ℕ) → Option (List ℕ) → Type 0
Does (ToAudit file terms) status old new faults_old faults_new = Answers terms.minimums status old new faults_old faults_new
Does (ToReport file terms form) status old new faults_old faults_new = ReportedOn form terms status old new faults_old faults_new
Does (ToExplain file terms) status old new faults_old faults_new = Explained terms.json terms.position status old new faults_old faults_new
Does (ToShow file span) status old new faults_old faults_new = ShownFor span status old new faults_old faults_new
Does (ToReplay file) status old new faults_old faults_new = Played status old new faults_old faults_new
Does (ToConvert file) status old new faults_old faults_new = Converted status old new faults_old faults_new
Does (ToSplit file parts dir) status old new faults_old faults_new = EndsSplit status old new
Does (ToJoin dir least) status old new faults_old faults_new = EndsJoin least status old new
Does (ToServe listen origin connections file settings) status old new faults_old faults_new = IsElsewhere status old new
Does (ToProxy asked) status old new faults_old faults_new = IsElsewhere status old new

-- a task is answered, help or the version is shown, or the words are refused with nothing on the output
abbrev pub Ends : ℕ → Option (List ℕ) → Option (List ℕ) → Option (List ℕ) → Option (List ℕ) → Type 0
Ends status old new faults_old faults_new = ((least : Minimums) × Answers least status old new faults_old faults_new)
    ⊎ ((form : Form) × (terms : AuditTerms) × ReportedOn form terms status old new faults_old faults_new)
    ⊎ ((json : Bool) × (position : Option ℕ) × Explained json position status old new faults_old faults_new)
    ⊎ ((span : Span) × ShownFor span status old new faults_old faults_new)
    ⊎ Played status old new faults_old faults_new ⊎ Converted status old new faults_old faults_new ⊎ IsElsewhere status old new
    ⊎ EndsSplit status old new ⊎ ((least : Minimums) × EndsJoin least status old new)
    ⊎ ((status ≡ 0) × Keeps faults_old faults_new) ⊎ ((status ≡ 64) × Keeps old new)
