-- What a report on all replies of a transcript leaves on its two writers, and by which verdict it ends.
use Rattle.std.specs.Prelude.{◌≡◌, ◌⊎◌, ◌++◌, ◌&&◌, ◌==◌, ℕ, List, [], ◌∷◌, Bool, true, false, Option, Some, None, IfSome, codes, decimal, if◌then◌else◌, nat_lt}
use Rattle.std.specs.Io.KnownBytes.{Appends, Consumes, Keeps}
use Rattle.hc_transcript.specs.Items.{Item}
use Rattle.hc_history.specs.declared.settings.Settings.{Settings}
use Rattle.hc_history.specs.declared.verdicts.Verdict.{Verdict}
use Rattle.hc_history.specs.declared.verdicts.Verdict.TheVariants.{Yes, Malformed}
use Rattle.hc_history.specs.declared.wrong.WrongReply.{WrongReply}
use Rattle.hc_history.specs.Verdicts.{IsVerdict}
use Rattle.hc_figures.specs.declared.baseline.Baseline.{Baseline}
use Rattle.hc_figures.specs.Kinds.{AreKnown}
use Rattle.hc_figures.specs.Tallies.{base_of, gone_from}
use Rattle.hc_report.specs.declared.counting.CountingReport.{CountingReport}
use Rattle.hc_report.specs.Counting.{HasCountedIn, HasHeardOf, TellsAllOf}
use Rattle.hc_report.specs.Json.{WritesAll}
use Rattle.hc_report.specs.Kinds.{kinds_in}
use Rattle.hc_report.specs.Made.{made_by}
use Rattle.hc_arguments.specs.Tasks.{Form}
use Rattle.hc_options.specs.declared.auditing.AuditTerms.{AuditTerms}
use Rattle.hc_options.specs.declared.auditing.Minimums.{Minimums}
use Rattle.hc_command.specs.declared.reporting.Concluded.{Concluded}
use Rattle.hc_command.specs.declared.reporting.ReportEnd.{ReportEnd}
use Rattle.hc_command.specs.declared.reporting.ReportForm.{ReportForm}
use Rattle.hc_command.specs.declared.surveying.Outcome.{Outcome}
use Rattle.hc_command.specs.declared.surveying.Outcome.TheVariants.{Whole, Broken}
use Rattle.hc_auditing.specs.Line.{status_of}
use Rattle.hc_auditing.specs.Minimums.{EndsBy, shortfall_lines, status_by}
use Rattle.hc_command.specs.Report.{Input, IsSurveyed, SaysLineFirst, ending_of, whole_counts}

-- ---- by which verdict it ends

-- the verdict on octets that end so, if none of their replies is held against them
abbrev pub verdict_without : Outcome → Verdict
verdict_without (Whole counts) = Yes counts
verdict_without (Broken position fault) = Malformed position fault

-- where the baseline has all these wrong replies, of each kind as many as there are, or more, it is the verdict without them, and else the report's own
abbrev pub IsLastBy : Baseline → List Item → List WrongReply → Outcome → Verdict → Verdict → Type 0
IsLastBy baseline h wrongs outcome verdict last =
    (AreKnown (base_of baseline) (kinds_in h wrongs) × (last ≡ verdict_without outcome)) ⊎ ((¬ AreKnown (base_of baseline) (kinds_in h wrongs)) × (last ≡ verdict))

-- where there is no baseline, it is the report's own, and nothing is gone
abbrev pub IsLast : Option Baseline → List Item → List WrongReply → Outcome → Verdict → ReportEnd → Type 0
IsLast None h wrongs outcome verdict end = (end.verdict ≡ verdict) × (end.gone ≡ 0)
IsLast (Some baseline) h wrongs outcome verdict end = IsLastBy baseline h wrongs outcome verdict end.verdict × (end.gone ≡ gone_from baseline (kinds_in h wrongs))

-- these are all items and all wrong replies of what was read of the input, and of all that it had, where that is known
pub record AreOfInput (settings : Settings) (input : Input) (history : List Item) (wrongs : List WrongReply) (outcome : Outcome) : Type 0 where
  pub read : List ℕ
  pub consumed : Consumes input.had input.left read
  pub are : IsSurveyed read settings history wrongs outcome
  pub all : IfSome input.had (λ octets. IsSurveyed octets settings history wrongs outcome)

-- and so it is by them
pub record IsHeldAgainst (baseline : Baseline) (settings : Settings) (verdict : Verdict) (end : ReportEnd) (input : Input) : Type 0 where
  pub history : List Item
  pub wrongs : List WrongReply
  pub outcome : Outcome
  pub of_input : AreOfInput settings input history wrongs outcome
  pub is_last : IsLastBy baseline history wrongs outcome verdict end.verdict
  pub gone_is : end.gone ≡ gone_from baseline (kinds_in history wrongs)

abbrev pub EndsFor : Option Baseline → Settings → Verdict → ReportEnd → Input → Type 0
EndsFor None settings verdict end input = (end.verdict ≡ verdict) × (end.gone ≡ 0)
EndsFor (Some baseline) settings verdict end input = IsHeldAgainst baseline settings verdict end input

-- ---- by which status it ends

-- whether it is asked for, some are gone, and that is the status
abbrev pub is_fewer : Bool → ℕ → ℕ → Bool
is_fewer strict gone status = strict && (nat_lt 0 gone && (status == 0))

-- and so it ends by what is gone: with 5 in place of 0
abbrev pub ends_by_gone : Bool → Minimums → ReportEnd → Bool
ends_by_gone strict least end = is_fewer strict end.gone (status_by least end.verdict)

abbrev pub status_strictly : Bool → Minimums → ReportEnd → ℕ
status_strictly strict least end = if ends_by_gone strict least end then 5 else status_by least end.verdict

-- the line that says how many are gone
abbrev pub gone_line : ℕ → List ℕ
gone_line gone = codes "fewer wrong: gone=" ++ (decimal gone ++ 10 ∷ [])

-- what is said of how it ends
abbrev pub lines_strictly : Bool → Minimums → ReportEnd → List ℕ
lines_strictly strict least end = shortfall_lines least end.verdict ++ (if ends_by_gone strict least end then gone_line end.gone else [])

-- this is the status, and the faults got the lines that say what is too few or how many are gone, and nothing else
pub record EndsStrictly (strict : Bool) (least : Minimums) (end : ReportEnd) (status : ℕ) (faults_old faults_new : Option (List ℕ)) : Type 0 where
  pub has_status : status ≡ status_strictly strict least end
  pub says : Appends faults_old faults_new (lines_strictly strict least end)

-- ---- by which settings the baseline was made

-- by these, or it doesn't say by which, or there is none
abbrev pub IsMadeBy : Option Baseline → Settings → Type 0
IsMadeBy None settings = Unit {0}
IsMadeBy (Some baseline) settings = made_by baseline settings ≡ true

-- by others
abbrev pub IsMadeByOthers : Option Baseline → Settings → Type 0
IsMadeByOthers None settings = ⊥
IsMadeByOthers (Some baseline) settings = made_by baseline settings ≡ false

-- ---- what is said

-- the writer got a line of JSON, and this is its status: what a report writes that has heard of all items and tells all wrong replies of what was read of the input,
-- on which the verdict is that
pub record SaysInJson (base : Option Baseline) (settings : Settings) (verdict : Verdict) (status : ℕ) (input : Input) (old new : Option (List ℕ)) : Type 0 where
  pub text : List ℕ
  pub has_status : status ≡ status_of verdict
  pub written : Appends old new (text ++ 10 ∷ [])
  pub history : List Item
  pub wrongs : List WrongReply
  pub outcome : Outcome
  pub of_input : AreOfInput settings input history wrongs outcome
  pub is : IsVerdict of_input.read settings verdict
  pub report : CountingReport
  pub told : TellsAllOf report wrongs
  pub heard : HasHeardOf report history
  pub all : WritesAll text report (kinds_in history wrongs) settings base (ending_of outcome) (whole_counts outcome)

-- in JSON, or as text
abbrev pub SaysReportIn : Bool → Option Baseline → Settings → Verdict → ℕ → Input → Option (List ℕ) → Option (List ℕ) → Type 0
SaysReportIn true base settings verdict status input old new = SaysInJson base settings verdict status input old new
SaysReportIn false base settings verdict status input old new = SaysLineFirst verdict status old new

-- the verdict is that on all octets that the input had, where these are known, and the writer got what a report says of it, which ends so
pub record SaysReportOf (json : Bool) (base : Option Baseline) (settings : Settings) (end : ReportEnd) (input : Input) (old new : Option (List ℕ)) : Type 0 where
  pub verdict : Verdict
  pub is : IfSome input.had (λ octets. IsVerdict octets settings verdict)
  pub says : SaysReportIn json base settings verdict (status_of verdict) input old new
  pub ends : EndsFor base settings verdict end input

-- behind it stand annotations, if they are asked for
abbrev pub Annotates : Bool → Option (List ℕ) → Option (List ℕ) → Type 0
Annotates true old new = (text : List ℕ) × Appends old new text
Annotates false old new = new ≡ old

-- a report in that form, and the annotations that it has
abbrev pub SaysAll : ReportForm → Settings → ReportEnd → Input → Option (List ℕ) → Option (List ℕ) → Type 0
SaysAll form settings end input old new =
    (reported : Option (List ℕ)) × SaysReportOf form.json form.baseline settings end input old reported × Annotates form.annotates reported new

-- where the baseline was made by these settings, a report in that form and on those terms says so on the output, and ends so; where it was made by others, the status
-- is 64, and nothing is said there; where there is no verdict, the status is 3
abbrev pub ReportsBy : ReportForm → AuditTerms → Input → ℕ → Option (List ℕ) → Option (List ℕ) → Option (List ℕ) → Option (List ℕ) → Type 0
ReportsBy form terms input status old new faults_old faults_new =
    (status ≡ 3) ⊎ ((status ≡ 64) × IsMadeByOthers form.baseline terms.settings × Keeps old new)
    ⊎ ((end : ReportEnd) × IsMadeBy form.baseline terms.settings × SaysAll form terms.settings end input old new
    × EndsStrictly form.strict terms.minimums end status faults_old faults_new)

-- ---- where the input isn't known

-- what is said is said of some input
abbrev pub SaysOfSome : Bool → Bool → Settings → Verdict → Option (List ℕ) → Option (List ℕ) → Type 0
SaysOfSome json annotates settings verdict old new =
    (input : Input) × (reported : Option (List ℕ)) × SaysReportIn json None settings verdict (status_of verdict) input old reported × Annotates annotates reported new

abbrev pub ReportedBy : Bool → Bool → AuditTerms → ℕ → Option (List ℕ) → Option (List ℕ) → Option (List ℕ) → Option (List ℕ) → Type 0
ReportedBy json annotates terms status old new faults_old faults_new =
    (status ≡ 3) ⊎ ((verdict : Verdict) × SaysOfSome json annotates terms.settings verdict old new × EndsBy terms.minimums verdict status faults_old faults_new)

-- the same in that form, with its baseline
abbrev pub HeldBy : ReportForm → AuditTerms → ℕ → Option (List ℕ) → Option (List ℕ) → Option (List ℕ) → Option (List ℕ) → Type 0
HeldBy form terms status old new faults_old faults_new = (input : Input) × ReportsBy form terms input status old new faults_old faults_new

-- with its baseline, or without one
abbrev pub ReportedIn : Option Baseline → ReportForm → AuditTerms → ℕ → Option (List ℕ) → Option (List ℕ) → Option (List ℕ) → Option (List ℕ) → Type 0
ReportedIn None form terms status old new faults_old faults_new = ReportedBy form.json form.annotates terms status old new faults_old faults_new
ReportedIn (Some baseline) form terms status old new faults_old faults_new = HeldBy form terms status old new faults_old faults_new

-- ---- where it isn't known what the baseline is

-- where no baseline is named, it can't be asked whether that has more: then nothing is written on the output and the status is 64, or 3
abbrev pub ReportedAlone : Bool → Form → AuditTerms → ℕ → Option (List ℕ) → Option (List ℕ) → Option (List ℕ) → Option (List ℕ) → Type 0
ReportedAlone false form terms status old new faults_old faults_new = ReportedBy form.json form.annotates terms status old new faults_old faults_new
ReportedAlone true form terms status old new faults_old faults_new = ((status ≡ 64) ⊎ (status ≡ 3)) × Keeps old new

-- the form that is asked, with the baseline that was in a file
abbrev pub form_with : Baseline → Form → ReportForm
form_with baseline form = record { json = form.json; baseline = Some baseline; strict = form.strict; annotates = form.annotates }

-- and with the name of a file that is to have one: where it has none, nothing is written on the output and the status is 64, or 3 where it can't be read
abbrev pub ReportedFor : Option (List ℕ) → Form → AuditTerms → ℕ → Option (List ℕ) → Option (List ℕ) → Option (List ℕ) → Option (List ℕ) → Type 0
ReportedFor None form terms status old new faults_old faults_new = ReportedAlone form.strict form terms status old new faults_old faults_new
ReportedFor (Some name) form terms status old new faults_old faults_new = (((status ≡ 64) ⊎ (status ≡ 3)) × Keeps old new) ⊎ (status ≡ 3)
    ⊎ ((baseline : Baseline) × HeldBy (form_with baseline form) terms status old new faults_old faults_new)

-- ---- what private functions promise

-- the writer got a line of JSON, which is what the report writes of the items that it has heard of and the wrong replies that it tells, and this is its status
pub record WritesInJson (report : CountingReport) (base : Option Baseline) (settings : Settings) (concluded : Concluded) (status : ℕ) (old new : Option (List ℕ)) : Type 0 where
  pub text : List ℕ
  pub has_status : status ≡ status_of concluded.verdict
  pub written : Appends old new (text ++ 10 ∷ [])
  pub all : (h : List Item) (wrongs : List WrongReply) → TellsAllOf report wrongs → HasCountedIn report h
      → WritesAll text report (kinds_in h wrongs) settings base (ending_of concluded.outcome) (whole_counts concluded.outcome)

abbrev pub WritesIn : Bool → CountingReport → Option Baseline → Settings → Concluded → ℕ → Option (List ℕ) → Option (List ℕ) → Type 0
WritesIn true report base settings concluded status old new = WritesInJson report base settings concluded status old new
WritesIn false report base settings concluded status old new = SaysLineFirst concluded.verdict status old new
