-- What comes of writing all that waits.
use Rattle.std.specs.Prelude.{◌≡◌, ℕ, ◌<◌, ◌||◌, Bool, true, false, List, [], length}
use Rattle.hc_flow.specs.declared.outbox.Emptying.{Emptying}
use Rattle.hc_flow.specs.declared.outbox.Emptying.TheVariants.{Emptied, Later, Failed}

-- nothing waits any more, or something does
abbrev pub LeavesWaiting : Emptying → List ℕ → Type 0
LeavesWaiting Emptied waits = waits ≡ []
LeavesWaiting Later waits = 0 < length waits
LeavesWaiting Failed waits = Unit {0}

-- it has failed where the answer says so, and stays so
abbrev pub FailsEmptying : Type 0 → Type 0 → Emptying → Type 0
FailsEmptying before after Failed = after
FailsEmptying before after other = before → after

-- whether the link has failed, as the answer says
abbrev pub is_failed_emptying : Emptying → Bool
is_failed_emptying Failed = true
is_failed_emptying other = false

-- whether octets may be taken, by whether they might before
abbrev pub is_writable_behind : Emptying → Bool → Bool
is_writable_behind Later writable = false
is_writable_behind other writable = writable

-- whether our half was ended, by whether it was before, and by whether it is to be once nothing waits
abbrev pub is_ended_behind : Emptying → (ended ends : Bool) → Bool
is_ended_behind Emptied ended ends = ended || ends
is_ended_behind other ended ends = ended
