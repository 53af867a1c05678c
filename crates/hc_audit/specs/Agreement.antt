-- What an auditor is after octets that it doesn't keep.
use Rattle.std.specs.Prelude.{◌≡◌, ℕ, List, Option, Some, None}
use Rattle.hc_transcript.specs.Reader.{octets_held}
use Rattle.hc_history.specs.declared.settings.Settings.{Settings}
use Rattle.hc_history.specs.declared.verdicts.Verdict.{Verdict}
use Rattle.hc_history.specs.Seen.{Seen}
use Rattle.hc_audit.specs.declared.auditor.Auditor.{Auditor}
use Rattle.hc_audit.specs.declared.auditor.AuditStage.{AuditStage}
use Rattle.hc_audit.specs.declared.auditor.AuditStage.TheVariants.{Open, Settled, Failed}
use Rattle.hc_audit.specs.Standing.{Stands}
use Rattle.hc_audit.specs.Judging.{IsWaiting}

-- it was given these settings and was fed these octets, in whatever pieces: it has judged each whole record among them, or has the verdict
-- that stands
abbrev pub AgreesBy : {I : Type 0} → (I → Seen) → AuditStage I → Settings → List ℕ → Type 0
AgreesBy seen (Open judge) settings octets = IsWaiting seen judge settings octets
AgreesBy seen (Settled verdict) settings octets = Stands verdict settings octets
AgreesBy seen Failed settings octets = ⊥

abbrev pub Agrees : {I : Type 0} → (I → Seen) → Auditor I → Settings → List ℕ → Type 0
Agrees seen auditor settings octets = AgreesBy seen auditor.stage settings octets

-- it has answered a fault
abbrev pub HasFailed : {I : Type 0} → Auditor I → Type 0
HasFailed auditor = auditor.stage ≡ Failed

-- the verdict that it knows to stand
abbrev pub settled_by : {I : Type 0} → AuditStage I → Option Verdict
settled_by (Open judge) = None
settled_by (Settled verdict) = Some verdict
settled_by Failed = None

abbrev pub settled : {I : Type 0} → Auditor I → Option Verdict
settled auditor = settled_by auditor.stage

-- how many octets wait to be judged: none where a verdict stands, or a fault was answered
abbrev pub rest_by : {I : Type 0} → AuditStage I → ℕ
rest_by (Open judge) = octets_held judge.reader
rest_by (Settled verdict) = 0
rest_by Failed = 0

abbrev pub rest : {I : Type 0} → Auditor I → ℕ
rest auditor = rest_by auditor.stage
