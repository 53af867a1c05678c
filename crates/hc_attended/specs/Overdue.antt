-- Forwards whose time is over.
use Rattle.std.specs.Prelude.{ℕ, Bool, Option, option_and_then, nat_lt}
use Rattle.std.specs.BTreeMap.{get}
use Rattle.std.specs.Ordering.{nat_cmp}
use Rattle.hc_flow.specs.Paces.{forward_due}
use Rattle.hc_flow.specs.declared.patience.Patience.{Patience}
use Rattle.hc_flow.specs.declared.progress.ForwardProgress.{ForwardProgress}
use Rattle.hc_peers.specs.declared.peers.Peers.{Peers}
use Rattle.hc_peers.specs.Forwards.{progress_at}
use Rattle.hc_peers.specs.Tables.{is_there_and}

-- how a forward is getting on at its link, if it has one
abbrev pub progress_of : {S : Type 0} → (f : ℕ) → Peers S → Option ForwardProgress
progress_of f peers = option_and_then (λ forward. progress_at forward.reaching) (get nat_cmp peers.forwards.links f)

-- whether a forward has a link, and its time is over by that tick
abbrev pub is_forward_overdue : {S : Type 0} → (f : ℕ) → Peers S → (tick : ℕ) → Patience → Bool
is_forward_overdue f peers tick patience =
    is_there_and (progress_of f peers) (λ progress. nat_lt (forward_due progress patience) tick)
