-- What a conversion leaves on its two writers.
use Rattle.std.specs.Prelude.{◌≡◌, ◌⊎◌, ℕ, List, Option, None, IfSome}
use Rattle.std.specs.Io.KnownBytes.{Appends, Keeps}
use Rattle.hc_transcript.specs.declared.fault.RecordFault.{RecordFault}
use Rattle.hc_transcript.specs.Converting.{IsConverted, IsMalformed}
use Rattle.hc_history.specs.declared.verdicts.Verdict.TheVariants.{Malformed}
use Rattle.hc_auditing.specs.Audit.{SaysLine}

-- the input had a transcript, and the output got that in the first format, and the faults got nothing
pub record SaysConverted (input : Option (List ℕ)) (status : ℕ) (old new faults_old faults_new : Option (List ℕ)) : Type 0 where
  pub has_status : status ≡ 0
  -- the octets that the input had, where it is known
  pub octets : List ℕ
  pub were_there : IfSome input (λ known. known ≡ octets)
  pub text : List ℕ
  pub is : IsConverted octets text
  pub written : Appends old new text
  pub kept : Keeps faults_old faults_new

-- the input was malformed, and the faults got the line of the audit that says so, and the status; the output gets nothing
pub record RefusesTranscript (input : Option (List ℕ)) (status : ℕ) (old new faults_old faults_new : Option (List ℕ)) : Type 0 where
  -- the octets that the input had, where it is known
  pub octets : List ℕ
  pub were_there : IfSome input (λ known. known ≡ octets)
  pub position : ℕ
  pub fault : RecordFault
  pub is : IsMalformed octets position fault
  pub says : SaysLine (Malformed position fault) status faults_old faults_new
  pub kept : Keeps old new

-- where nothing is converted for want of memory or by a device, the status is 3
abbrev pub ConvertsFor : Option (List ℕ) → ℕ → Option (List ℕ) → Option (List ℕ) → Option (List ℕ) → Option (List ℕ) → Type 0
ConvertsFor input status old new faults_old faults_new =
    (status ≡ 3) ⊎ SaysConverted input status old new faults_old faults_new ⊎ RefusesTranscript input status old new faults_old faults_new

-- the same of an input that isn't known
abbrev pub Converted : ℕ → Option (List ℕ) → Option (List ℕ) → Option (List ℕ) → Option (List ℕ) → Type 0
Converted status old new faults_old faults_new = ConvertsFor None status old new faults_old faults_new
