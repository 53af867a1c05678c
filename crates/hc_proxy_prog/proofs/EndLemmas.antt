-- How the program ends, by the task that its words ask for.
use Rattle.std.proofs.Common.{◌≡◌, ◌⊎◌, ℕ, List, None, Option, Some, inl, inr, refl, subst}
use Rattle.std.specs.Io.KnownBytes.{Keeps}
use Rattle.hc_arguments.specs.Tasks.{Task}
use Rattle.hc_arguments.specs.Tasks.Task.{ToAudit, ToReport, ToExplain, ToShow, ToReplay, ToConvert, ToSplit, ToJoin, ToServe, ToProxy}
use Rattle.hc_auditing.specs.Ends.{EndsUnasked}
use Rattle.hc_proxy_prog.specs.Ends.{Does, Ends, EndsTask}

kept : (text : Option (List ℕ)) → Keeps text text
kept None = tt
kept (Some text) = refl

-- what ends a task writes nothing on the output
pub does_as : (done task : Task) (status : ℕ) (text faults_old faults_new : Option (List ℕ)) → done ≡ task
    → EndsTask done status faults_old faults_new → Does task status text text faults_old faults_new
does_as done task status text faults_old faults_new same ends =
    (kept text, subst (λ (t : Task). EndsTask t status faults_old faults_new) same ends)

-- where memory is refused, any task may end so
failed : (task : Task) (status : ℕ) (faults_old faults_new : Option (List ℕ)) → status ≡ 3 → EndsTask task status faults_old faults_new
failed (ToAudit file terms) status faults_old faults_new is = inr is
failed (ToReport file terms form) status faults_old faults_new is = inr is
failed (ToExplain file terms) status faults_old faults_new is = inr is
failed (ToShow file span) status faults_old faults_new is = inr is
failed (ToReplay file) status faults_old faults_new is = inr is
failed (ToConvert file) status faults_old faults_new is = inr is
failed (ToSplit file parts dir) status faults_old faults_new is = inr is
failed (ToJoin dir least) status faults_old faults_new is = inr is
failed (ToServe listen origin connections file settings) status faults_old faults_new is = inl is
failed (ToProxy asked) status faults_old faults_new is = inl is

pub fails_with_3 : (task : Task) (status : ℕ) (old new faults_old faults_new : Option (List ℕ)) → status ≡ 3 → Keeps old new
    → Does task status old new faults_old faults_new
fails_with_3 task status old new faults_old faults_new is keeps = (keeps, failed task status faults_old faults_new is)

-- and what ends a task is how the program ends
pub does_ends : (task : Task) (status : ℕ) (text faults_old faults_new : Option (List ℕ)) → EndsTask task status faults_old faults_new
    → Ends status text text faults_old faults_new
does_ends task status text faults_old faults_new ends = inl (task, (kept text, ends))

-- so is what is said where nothing is done
pub unasked_ends : (status : ℕ) (old new faults_old faults_new : Option (List ℕ)) → EndsUnasked status old new faults_old faults_new
    → Ends status old new faults_old faults_new
unasked_ends status old new faults_old faults_new unasked = inr unasked
