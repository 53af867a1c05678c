-- What an audit leaves on its two writers.
use Rattle.std.specs.Prelude.{◌≡◌, ◌⊎◌, ℕ, List, ◌++◌, Option, None, Some, IfSome}
use Rattle.std.specs.Io.KnownBytes.{Appends, Consumes, IsAtEnd}
use Rattle.hc_history.specs.declared.settings.Settings.{Settings}
use Rattle.hc_history.specs.declared.verdicts.Verdict.{Verdict}
use Rattle.hc_history.specs.Verdicts.{IsVerdict}
use Rattle.hc_history.specs.Seen.{Seen}
use Rattle.hc_audit.specs.declared.auditor.Auditor.{Auditor}
use Rattle.hc_audit.specs.Agreement.{Agrees}
use Rattle.hc_audit.specs.Standing.{Stands}
use Rattle.hc_options.specs.declared.auditing.AuditTerms.{AuditTerms}
use Rattle.hc_options.specs.declared.auditing.Minimums.{Minimums}
use Rattle.hc_auditing.specs.Line.{IsVerdictLine, status_of}
use Rattle.hc_auditing.specs.Minimums.{EndsBy}

-- ---- how far the input is read

-- some octets were read, and the verdict is theirs, whatever follows them
pub record IsSettled (settings : Settings) (verdict : Verdict) (old new : Option (List ℕ)) : Type 0 where
  pub read : List ℕ
  pub consumed : Consumes old new read
  pub stands : Stands verdict settings read

-- the input is at its end, or the verdict is that of what was read of it, whatever follows
abbrev pub IsConcluded : Settings → Verdict → Option (List ℕ) → Option (List ℕ) → Type 0
IsConcluded settings verdict old new = IsAtEnd new ⊎ IsSettled settings verdict old new

-- and of some verdict
abbrev pub IsReadUp : Settings → Option (List ℕ) → Option (List ℕ) → Type 0
IsReadUp settings old new = (verdict : Verdict) × IsConcluded settings verdict old new

-- ---- what is said

-- the writer got the line of the verdict, and nothing else, and this is its status
pub record SaysLine (verdict : Verdict) (status : ℕ) (old new : Option (List ℕ)) : Type 0 where
  pub line : List ℕ
  pub has_status : status ≡ status_of verdict
  pub is_line : IsVerdictLine verdict line
  pub written : Appends old new line

-- the verdict is that on all octets that the input had, where these are known, and the writer got its line
pub record SaysVerdict (settings : Settings) (verdict : Verdict) (input left old new : Option (List ℕ)) : Type 0 where
  pub is : IfSome input (λ octets. IsVerdict octets settings verdict)
  pub concluded : IsConcluded settings verdict input left
  pub says : SaysLine verdict (status_of verdict) old new

-- an audit on those terms says a verdict on the output, and ends by it; where there is none, the status is 3
abbrev pub AnswersFor : AuditTerms → Option (List ℕ) → Option (List ℕ) → ℕ → Option (List ℕ) → Option (List ℕ) → Option (List ℕ) → Option (List ℕ) → Type 0
AnswersFor terms input left status old new faults_old faults_new =
    (status ≡ 3) ⊎ ((verdict : Verdict) × SaysVerdict terms.settings verdict input left old new × EndsBy terms.minimums verdict status faults_old faults_new)

-- the same of an input that isn't known
abbrev pub Answers : Minimums → ℕ → Option (List ℕ) → Option (List ℕ) → Option (List ℕ) → Option (List ℕ) → Type 0
Answers least status old new faults_old faults_new =
    (status ≡ 3) ⊎ ((verdict : Verdict) × SaysLine verdict (status_of verdict) old new × EndsBy least verdict status faults_old faults_new)

-- ---- what private functions promise

-- the auditor was fed these octets, and a verdict that it gives stands
pub record FeedsPiece {I : Type 0} (seen : I → Seen) (a : Auditor I) (settings : Settings) (octets : List ℕ) (settled : Option Verdict) : Type 0 where
  pub agrees : Agrees seen a settings octets
  pub stands : IfSome settled (λ verdict. Stands verdict settings octets)
