-- How the program ends, by the task that its words ask for.
use Rattle.std.proofs.Common.{◌≡◌, ◌⊎◌, ℕ, Bool, true, false, List, Option, Some, None, inl, inr, subst}
use Rattle.std.specs.Io.KnownBytes.{Keeps}
use Rattle.hc_options.specs.declared.auditing.AuditTerms.{AuditTerms}
use Rattle.hc_arguments.specs.Tasks.{Form, Task}
use Rattle.hc_arguments.specs.Tasks.Task.{ToAudit, ToReport, ToExplain, ToShow, ToReplay, ToConvert, ToSplit, ToJoin, ToServe, ToProxy}
use Rattle.hc_auditing.specs.Ends.{EndsUnasked}
use Rattle.hc_command.specs.Ends.{Does, Ends}
use Rattle.hc_command.specs.Report.{Explained, ExplainedTwice}
use Rattle.hc_command.specs.Documents.{ReportedAs}
use Rattle.hc_command.specs.Reporting.{ReportedAlone, ReportedFor}

pub does_as : (done task : Task) (status : ℕ) (old new faults_old faults_new : Option (List ℕ)) → done ≡ task
    → Does done status old new faults_old faults_new → Does task status old new faults_old faults_new
does_as done task status old new faults_old faults_new same does = subst (λ (t : Task). Does t status old new faults_old faults_new) same does

-- where memory is refused, any task may end so
explained_with_3 : (json : Bool) (position : Option ℕ) (status : ℕ) (old new faults_old faults_new : Option (List ℕ)) → status ≡ 3
    → ExplainedTwice json position status old new faults_old faults_new
explained_with_3 json None status old new faults_old faults_new is = inl is
explained_with_3 json (Some place) status old new faults_old faults_new is = inl is

-- what can't be read twice is said with 64 or 3, and writes nothing
pub explained_untwice : (json : Bool) (position : Option ℕ) (status : ℕ) (old new faults_old faults_new : Option (List ℕ)) → (status ≡ 64) ⊎ (status ≡ 3)
    → Keeps old new → Explained json position status old new faults_old faults_new
explained_untwice json position status old new faults_old faults_new (inl is) kept = inl (is, kept)
explained_untwice json position status old new faults_old faults_new (inr is) kept = inr (explained_with_3 json position status old new faults_old faults_new is)

alone_with_3 : (strict : Bool) (form : Form) (terms : AuditTerms) (status : ℕ) (old new faults_old faults_new : Option (List ℕ)) → status ≡ 3
    → Keeps old new → ReportedAlone strict form terms status old new faults_old faults_new
alone_with_3 true form terms status old new faults_old faults_new is kept = (inr is, kept)
alone_with_3 false form terms status old new faults_old faults_new is kept = inl is

report_with_3 : (baseline : Option (List ℕ)) (form : Form) (terms : AuditTerms) (status : ℕ) (old new faults_old faults_new : Option (List ℕ)) → status ≡ 3
    → Keeps old new → ReportedFor baseline form terms status old new faults_old faults_new
report_with_3 None form terms status old new faults_old faults_new is kept = alone_with_3 form.strict form terms status old new faults_old faults_new is kept
report_with_3 (Some name) form terms status old new faults_old faults_new is kept = inr (inl is)

report_as_3 : (html : Bool) (form : Form) (terms : AuditTerms) (status : ℕ) (old new faults_old faults_new : Option (List ℕ)) → status ≡ 3
    → Keeps old new → ReportedAs html form terms status old new faults_old faults_new
report_as_3 true form terms status old new faults_old faults_new is kept = inl (inr is, kept)
report_as_3 false form terms status old new faults_old faults_new is kept = report_with_3 form.baseline form terms status old new faults_old faults_new is kept

pub fails_with_3 : (task : Task) (status : ℕ) (old new faults_old faults_new : Option (List ℕ)) → status ≡ 3 → Keeps old new
    → Does task status old new faults_old faults_new
fails_with_3 (ToAudit file terms) status old new faults_old faults_new is kept = inl is
fails_with_3 (ToReport file terms form) status old new faults_old faults_new is kept = report_as_3 form.html form terms status old new faults_old faults_new is kept
fails_with_3 (ToExplain file terms) status old new faults_old faults_new is kept = inr (explained_with_3 terms.json terms.position status old new faults_old faults_new is)
fails_with_3 (ToShow file span) status old new faults_old faults_new is kept = inl is
fails_with_3 (ToReplay file) status old new faults_old faults_new is kept = inl is
fails_with_3 (ToConvert file) status old new faults_old faults_new is kept = inl is
fails_with_3 (ToSplit file parts dir) status old new faults_old faults_new is kept = inl is
fails_with_3 (ToJoin dir least) status old new faults_old faults_new is kept = inl is
fails_with_3 (ToServe listen origin connections file settings) status old new faults_old faults_new is kept = (inr is, kept)
fails_with_3 (ToProxy asked) status old new faults_old faults_new is kept = (inr is, kept)

-- and what is answered to a task is how the program ends
pub does_ends : (task : Task) (status : ℕ) (old new faults_old faults_new : Option (List ℕ)) → Does task status old new faults_old faults_new
    → Ends status old new faults_old faults_new
does_ends (ToAudit file terms) status old new faults_old faults_new does = inl (terms.minimums, does)
does_ends (ToReport file terms form) status old new faults_old faults_new does = inr (inl (form, terms, does))
does_ends (ToExplain file terms) status old new faults_old faults_new does = inr (inr (inl (terms.json, terms.position, does)))
does_ends (ToShow file span) status old new faults_old faults_new does = inr (inr (inr (inl (span, does))))
does_ends (ToReplay file) status old new faults_old faults_new does = inr (inr (inr (inr (inl does))))
does_ends (ToConvert file) status old new faults_old faults_new does = inr (inr (inr (inr (inr (inl does)))))
does_ends (ToSplit file parts dir) status old new faults_old faults_new does = inr (inr (inr (inr (inr (inr (inr (inl does)))))))
does_ends (ToJoin dir least) status old new faults_old faults_new does = inr (inr (inr (inr (inr (inr (inr (inr (inl (least, does)))))))))
does_ends (ToServe listen origin connections file settings) status old new faults_old faults_new does = inr (inr (inr (inr (inr (inr (inl does))))))
does_ends (ToProxy asked) status old new faults_old faults_new does = inr (inr (inr (inr (inr (inr (inl does))))))

-- so is what is said where nothing is done
pub unasked_ends : (status : ℕ) (old new faults_old faults_new : Option (List ℕ)) → EndsUnasked status old new faults_old faults_new
    → Ends status old new faults_old faults_new
unasked_ends status old new faults_old faults_new (inl failed) = inr (inr (inr (inr (inl (inl failed)))))
unasked_ends status old new faults_old faults_new (inr (inl shown)) = inr (inr (inr (inr (inr (inr (inr (inr (inr (inl shown)))))))))
unasked_ends status old new faults_old faults_new (inr (inr refused)) = inr (inr (inr (inr (inr (inr (inr (inr (inr (inr refused)))))))))
