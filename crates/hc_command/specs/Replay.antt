-- What a replay leaves on its two writers.
use Rattle.std.specs.Prelude.{◌≡◌, ◌≢◌, ◌⊎◌, ℕ, List, Option, None, IfSome}
use Rattle.std.specs.Io.KnownBytes.{Appends, Keeps}
use Rattle.hc_history.specs.declared.verdicts.Verdict.{Verdict}
use Rattle.hc_scripts.specs.declared.fault.ScriptFault.{ScriptFault}
use Rattle.hc_scripts.specs.declared.fault.ScriptFault.TheVariants.{Memory}
use Rattle.hc_scripts.specs.Replays.{Replays, StopsReplay}
use Rattle.hc_auditing.specs.Audit.{SaysLine}

-- the output got the transcript of the script that the input had, where that is known, and the faults got the line of its verdict, which says the status
pub record SaysReplay (input : Option (List ℕ)) (status : ℕ) (old new faults_old faults_new : Option (List ℕ)) : Type 0 where
  pub transcript : List ℕ
  pub verdict : Verdict
  pub is : IfSome input (λ script. Replays script transcript verdict)
  pub written : Appends old new transcript
  pub says : SaysLine verdict status faults_old faults_new

-- a fault that isn't want of memory stops the replay, and the output gets nothing
pub record RefusesScript (input : Option (List ℕ)) (status : ℕ) (old new : Option (List ℕ)) : Type 0 where
  pub has_status : status ≡ 2
  pub fault : ScriptFault
  pub is : IfSome input (λ script. StopsReplay script fault)
  pub no_memory : fault ≢ Memory
  pub kept : Keeps old new

-- the exit status of a script that can't be played
abbrev pub refusal_status : ScriptFault → ℕ
refusal_status Memory = 3
refusal_status fault = 2

-- where there is no transcript for want of memory or by a device, the status is 3
abbrev pub ReplaysFor : Option (List ℕ) → ℕ → Option (List ℕ) → Option (List ℕ) → Option (List ℕ) → Option (List ℕ) → Type 0
ReplaysFor input status old new faults_old faults_new =
    (status ≡ 3) ⊎ SaysReplay input status old new faults_old faults_new ⊎ RefusesScript input status old new

-- the same of an input that isn't known
abbrev pub Played : ℕ → Option (List ℕ) → Option (List ℕ) → Option (List ℕ) → Option (List ℕ) → Type 0
Played status old new faults_old faults_new = ReplaysFor None status old new faults_old faults_new
