-- How a program ends.
use Rattle.std.specs.Prelude.{◌≡◌, ◌⊎◌, ℕ, List, Option}
use Rattle.std.specs.Io.KnownBytes.{Keeps}
use Rattle.hc_options.specs.declared.auditing.Minimums.{Minimums}
use Rattle.hc_auditing.specs.Audit.{Answers}

-- nothing is done: memory was refused or a device failed, help or the version is shown, or the words are refused with nothing on the output
abbrev pub EndsUnasked : ℕ → Option (List ℕ) → Option (List ℕ) → Option (List ℕ) → Option (List ℕ) → Type 0
EndsUnasked status old new faults_old faults_new =
    (status ≡ 3) ⊎ ((status ≡ 0) × Keeps faults_old faults_new) ⊎ ((status ≡ 64) × Keeps old new)

-- the program that only audits: a transcript is audited, or nothing is done
abbrev pub EndsAudit : ℕ → Option (List ℕ) → Option (List ℕ) → Option (List ℕ) → Option (List ℕ) → Type 0
EndsAudit status old new faults_old faults_new =
    ((least : Minimums) × Answers least status old new faults_old faults_new) ⊎ EndsUnasked status old new faults_old faults_new
