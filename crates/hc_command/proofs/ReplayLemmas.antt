-- What comes of a replay, by the script that the input had.
use Rattle.std.proofs.Common.{◌≡◌, ◌≢◌, ◌∙◌, ℕ, List, ◌++◌, Option, None, Some, ap, append-nil, inl, inr, refl, subst, sym}
use Rattle.std.specs.Io.KnownBytes.{Consumes, IsAtEnd, Keeps}
use Rattle.hc_scripts.specs.declared.fault.ScriptFault.{ScriptFault}
use Rattle.hc_scripts.specs.declared.fault.ScriptFault.TheVariants.{Opening, Line, Torn, Memory, Settings}
use Rattle.hc_scripts.specs.Replays.{StopsReplay}
use Rattle.hc_command.specs.Replay.{RefusesScript, ReplaysFor, refusal_status}

keeps_same : (known : Option (List ℕ)) → Keeps known known
keeps_same None = tt
keeps_same (Some octets) = refl

refused_by : (script : List ℕ) (fault : ScriptFault) (status : ℕ) (old : Option (List ℕ)) → status ≡ 2 → fault ≢ Memory → StopsReplay script fault
    → RefusesScript (Some script) status old old
refused_by script fault status old is other stops = record { has_status = is; fault = fault; is = stops; no_memory = other; kept = keeps_same old }

pub refuses : (script : List ℕ) (fault : ScriptFault) (status : ℕ) (old faults_old faults_new : Option (List ℕ)) → status ≡ refusal_status fault
    → (fault ≢ Memory → StopsReplay script fault) → ReplaysFor (Some script) status old old faults_old faults_new
refuses script Memory status old faults_old faults_new is stops = inl is
refuses script Opening status old faults_old faults_new is stops =
    let other : Opening ≢ Memory = λ e. cc in inr (inr (refused_by script Opening status old is other (stops other)))
refuses script Line status old faults_old faults_new is stops =
    let other : Line ≢ Memory = λ e. cc in inr (inr (refused_by script Line status old is other (stops other)))
refuses script Torn status old faults_old faults_new is stops =
    let other : Torn ≢ Memory = λ e. cc in inr (inr (refused_by script Torn status old is other (stops other)))
refuses script Settings status old faults_old faults_new is stops =
    let other : Settings ≢ Memory = λ e. cc in inr (inr (refused_by script Settings status old is other (stops other)))

-- ---- the input

-- of an input that isn't known less is said
pub replays_unknown : (input : Option (List ℕ)) (status : ℕ) (old new faults_old faults_new : Option (List ℕ)) → ReplaysFor input status old new faults_old faults_new
    → ReplaysFor None status old new faults_old faults_new
replays_unknown input status old new faults_old faults_new (inl is) = inl is
replays_unknown input status old new faults_old faults_new (inr (inl s)) =
    inr (inl (record { transcript = s.transcript; verdict = s.verdict; is = tt; written = s.written; says = s.says }))
replays_unknown input status old new faults_old faults_new (inr (inr r)) =
    inr (inr (record { has_status = r.has_status; fault = r.fault; is = tt; no_memory = r.no_memory; kept = r.kept }))

-- an input that was read to its end had the script
pub replays_input : (input left : Option (List ℕ)) (script : List ℕ) (status : ℕ) (old new faults_old faults_new : Option (List ℕ)) → Consumes input left script
    → IsAtEnd left → ReplaysFor (Some script) status old new faults_old faults_new → ReplaysFor input status old new faults_old faults_new
replays_input None left script status old new faults_old faults_new consumed end replays =
    replays_unknown (Some script) status old new faults_old faults_new replays
replays_input (Some xs) None script status old new faults_old faults_new consumed end replays = absurd consumed
replays_input (Some xs) (Some ys) script status old new faults_old faults_new consumed end replays =
    let all = sym (append-nil script) ∙ ap (λ (rest : List ℕ). script ++ rest) (sym end) ∙ sym consumed in
    subst (λ (o : List ℕ). ReplaysFor (Some o) status old new faults_old faults_new) all replays
