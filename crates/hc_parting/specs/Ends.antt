-- How the commands end.
use Rattle.std.specs.Prelude.{◌≡◌, ◌⊎◌, ℕ, List, Option}
use Rattle.std.specs.Io.KnownBytes.{Keeps}
use Rattle.hc_transcript.specs.declared.fault.RecordFault.{RecordFault}
use Rattle.hc_history.specs.declared.verdicts.Verdict.{Verdict}
use Rattle.hc_history.specs.declared.verdicts.Verdict.TheVariants.{Malformed}
use Rattle.hc_options.specs.declared.auditing.Minimums.{Minimums}
use Rattle.hc_auditing.specs.Audit.{SaysLine}
use Rattle.hc_auditing.specs.Line.{status_of}
use Rattle.hc_auditing.specs.Minimums.{status_by}

-- the recording was split, or that was refused, with nothing on the output; or it is malformed, as the output says; or it couldn't be done
abbrev pub EndsSplit : ℕ → Option (List ℕ) → Option (List ℕ) → Type 0
EndsSplit status old new =
    (status ≡ 3) ⊎ ((status ≡ 0) × Keeps old new) ⊎ ((status ≡ 64) × Keeps old new) ⊎ ((position : ℕ) × (fault : RecordFault) × SaysLine (Malformed position fault) status old new)

-- a verdict was said, as an audit says it, and the status is that by so many replies that have to be judged; or there is none; or that was refused, with nothing on the output
abbrev pub EndsJoin : Minimums → ℕ → Option (List ℕ) → Option (List ℕ) → Type 0
EndsJoin least status old new =
    (status ≡ 3) ⊎ ((status ≡ 64) × Keeps old new) ⊎ ((verdict : Verdict) × SaysLine verdict (status_of verdict) old new × (status ≡ status_by least verdict))
