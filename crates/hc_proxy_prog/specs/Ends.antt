-- How the program ends.
use Rattle.std.specs.Prelude.{◌≡◌, ◌⊎◌, ℕ, List, Option}
use Rattle.std.specs.Io.KnownBytes.{Keeps}
use Rattle.hc_arguments.specs.Tasks.{Task}
use Rattle.hc_arguments.specs.Tasks.Task.{ToAudit, ToReport, ToExplain, ToShow, ToReplay, ToConvert, ToSplit, ToJoin, ToServe, ToProxy}
use Rattle.hc_notices.specs.Notices.{SaysSome}

-- all clients were served and nothing was said, or the status is 3
abbrev pub EndsServing : ℕ → Option (List ℕ) → Option (List ℕ) → Type 0
EndsServing status faults_old faults_new = (status ≡ 3) ⊎ ((status ≡ 0) × Keeps faults_old faults_new)

-- clients were served until it was stopped, or all had come and gone, and notices alone were said, the last perhaps in part; or the status is 3, or 64 where nothing can be recorded to what was named
abbrev pub EndsProxying : ℕ → Option (List ℕ) → Option (List ℕ) → Type 0
EndsProxying status faults_old faults_new = (status ≡ 3) ⊎ (status ≡ 64) ⊎ ((status ≡ 0) × SaysSome faults_old faults_new)

-- another program does that: it is refused, or memory was
abbrev pub IsElsewhere : ℕ → Type 0
IsElsewhere status = (status ≡ 64) ⊎ (status ≡ 3)

-- how a task ends
abbrev pub EndsTask : Task → ℕ → Option (List ℕ) → Option (List ℕ) → Type 0
EndsTask (ToAudit file terms) status faults_old faults_new = IsElsewhere status
EndsTask (ToReport file terms form) status faults_old faults_new = IsElsewhere status
EndsTask (ToExplain file terms) status faults_old faults_new = IsElsewhere status
EndsTask (ToShow file span) status faults_old faults_new = IsElsewhere status
EndsTask (ToReplay file) status faults_old faults_new = IsElsewhere status
EndsTask (ToConvert file) status faults_old faults_new = IsElsewhere status
EndsTask (ToSplit file parts dir) status faults_old faults_new = IsElsewhere status
EndsTask (ToJoin dir least) status faults_old faults_new = IsElsewhere status
EndsTask (ToServe listen origin connections file settings) status faults_old faults_new = EndsServing status faults_old faults_new
EndsTask (ToProxy asked) status faults_old faults_new = EndsProxying status faults_old faults_new

-- a task writes nothing on the output, unless whoever serves logs replies there
abbrev pub Does : Task → ℕ → Option (List ℕ) → Option (List ℕ) → Option (List ℕ) → Option (List ℕ) → Type 0
Does task status old new faults_old faults_new = Keeps old new × EndsTask task status faults_old faults_new

-- so clients were served one after another
abbrev pub Served : ℕ → Option (List ℕ) → Option (List ℕ) → Option (List ℕ) → Option (List ℕ) → Type 0
Served status old new faults_old faults_new = Keeps old new × EndsServing status faults_old faults_new

-- or many at once
abbrev pub Proxied : ℕ → Option (List ℕ) → Option (List ℕ) → Option (List ℕ) → Option (List ℕ) → Type 0
Proxied status old new faults_old faults_new = Keeps old new × EndsProxying status faults_old faults_new

-- a task was done, help or the version is shown, or the words are refused with nothing on the output
abbrev pub Ends : ℕ → Option (List ℕ) → Option (List ℕ) → Option (List ℕ) → Option (List ℕ) → Type 0
Ends status old new faults_old faults_new = ((task : Task) × Does task status old new faults_old faults_new)
    ⊎ (status ≡ 3) ⊎ ((status ≡ 0) × Keeps faults_old faults_new) ⊎ ((status ≡ 64) × Keeps old new)
