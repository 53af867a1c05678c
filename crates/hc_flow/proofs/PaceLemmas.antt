-- A client isn't looked at too late.
use Rattle.std.proofs.Common.{ℕ, ◌+◌, ◌≤◌, inl, inr, subst, sym, arith}
use Rattle.hc_flow.specs.declared.pace.Pace.{Pace}
use Rattle.hc_flow.specs.declared.pace.Pace.TheVariants.{Idle, Asking, Taking}
use Rattle.hc_flow.specs.declared.patience.Patience.{Patience}
use Rattle.hc_flow.specs.Paces.{GetsOn, due, next_look, shortest, since_of}

-- its time is over no earlier than the shortest time-out behind where it began to get on so
due_behind : (later : Pace) (patience : Patience) → since_of later + shortest patience ≤ due later patience
due_behind (Idle since) patience = omega arith
due_behind (Asking since octets) patience = omega arith
due_behind (Taking since) patience = omega arith

anew : (tick : ℕ) (pace later : Pace) (patience : Patience) → tick ≤ since_of later → next_look pace tick patience ≤ due later patience + 1
anew tick pace later patience behind = omega (arith, behind, due_behind later patience)

as_before : (tick : ℕ) (pace : Pace) (patience : Patience) → next_look pace tick patience ≤ due pace patience + 1
as_before tick pace patience = omega arith

-- more octets give more time
with_more : (tick since octets more : ℕ) (patience : Patience) → next_look (Asking since octets) tick patience ≤ due (Asking since (octets + more)) patience + 1
with_more tick since octets more patience = omega arith

pub look_in_time : (tick : ℕ) (pace later : Pace) (patience : Patience) → GetsOn tick pace later → next_look pace tick patience ≤ due later patience + 1
look_in_time tick (Idle since) later patience (inl same) = subst (λ (p : Pace). next_look (Idle since) tick patience ≤ due p patience + 1) (sym same) (as_before tick (Idle since) patience)
look_in_time tick (Idle since) later patience (inr behind) = anew tick (Idle since) later patience behind
look_in_time tick (Taking since) later patience (inl same) = subst (λ (p : Pace). next_look (Taking since) tick patience ≤ due p patience + 1) (sym same) (as_before tick (Taking since) patience)
look_in_time tick (Taking since) later patience (inr behind) = anew tick (Taking since) later patience behind
look_in_time tick (Asking since octets) later patience (inl same) =
    subst (λ (p : Pace). next_look (Asking since octets) tick patience ≤ due p patience + 1) (sym same.1) (with_more tick since octets same.0 patience)
look_in_time tick (Asking since octets) later patience (inr behind) = anew tick (Asking since octets) later patience behind
