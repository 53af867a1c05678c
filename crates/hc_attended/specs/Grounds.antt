-- What ends links that could go on.
use Rattle.std.specs.Prelude.{◌≡◌, ◌⊎◌, ℕ, Bool, true, false, IfSome, option_map}
use Rattle.std.specs.BTreeMap.{get}
use Rattle.std.specs.Ordering.{nat_cmp}
use Rattle.hc_order.specs.declared.occurrence.Reason.TheVariants.{Held}
use Rattle.hc_order.specs.declared.receiver.Receiver.{Receiver}
use Rattle.hc_order.specs.declared.receiver.Receiver.TheVariants as to
use Rattle.hc_flow.specs.declared.pace.Pace.{Pace}
use Rattle.hc_flow.specs.declared.pace.Pace.TheVariants.{Idle, Asking, Taking}
use Rattle.hc_flow.specs.declared.patience.Patience.{Patience}
use Rattle.hc_peers.specs.Forwards.{turned}
use Rattle.hc_peers.specs.Known.{known_at}
use Rattle.hc_peers.specs.Peers.{FailsOnlyAt, is_client_overdue}
use Rattle.hc_peers.specs.Tables.{KeepsOthers, is_there_and}
use Rattle.hc_peers.specs.declared.client.Hearing.{Hearing}
use Rattle.hc_peers.specs.declared.forward.Reaching.TheVariants.{Lost}
use Rattle.hc_peers.specs.declared.peers.Peers.{Peers}

-- whether a client is idle
abbrev pub is_idle_pace : Pace → Bool
is_idle_pace (Idle since) = true
is_idle_pace (Asking since octets) = false
is_idle_pace (Taking since) = false

-- whether a client is there, and is idle
abbrev pub is_idle : {S : Type 0} → Peers S → ℕ → Bool
is_idle peers number = is_there_and (known_at number peers.clients.links) (λ client. is_idle_pace client.pace)

-- the time of a client is over: a stop was asked, or no request of it awaits its reply, and it took too long by that tick
abbrev pub IsTimeOver : {S : Type 0} → (stop_asked : Bool) → Patience → (tick : ℕ) → Peers S → (number : ℕ) → (awaited : Bool) → Type 0
IsTimeOver stop_asked patience tick peers number awaited = (stop_asked ≡ true) ⊎ ((awaited ≡ false) × (is_client_overdue peers number tick patience ≡ true))

-- what ends a client that could go on has its ground: a stop was asked, and it is idle; its time is over; or it is idle, and gives way
pub record MayEnd {S : Type 0} (stop_asked : Bool) (patience : Patience) (tick : ℕ) (peers : Peers S) (number : ℕ) (hearing : Hearing) : Type 0 where
  pub stops : hearing.stops ≡ true → (stop_asked ≡ true) × (is_idle peers number ≡ true)
  pub late : hearing.late ≡ true → IsTimeOver stop_asked patience tick peers number hearing.awaited
  pub gives_way : hearing.gives_way ≡ true → is_idle peers number ≡ true

-- a link was cut off: a client that is there is marked so, and a forward that is there has no link any more, for that reason
abbrev pub IsCutOff : {S : Type 0} → Receiver → Peers S → Type 0
IsCutOff (to.Client n) peers = IfSome (known_at n peers.clients.links) (λ client. client.cut ≡ true)
IsCutOff (to.Origin f) peers = IfSome (option_map (turned false) (get nat_cmp peers.forwards.links f)) (λ forward. forward.reaching ≡ Lost Held)

-- ---- what isn't named

-- clients and forwards are as they were
abbrev pub KeepsServed : {S : Type 0} → (before after : Peers S) → Type 0
KeepsServed before after = (after.clients ≡ before.clients) × (after.forwards ≡ before.forwards)

-- clients are as they were, and so are all forwards but one
abbrev pub KeepsAllBut : {S : Type 0} → ℕ → (before after : Peers S) → Type 0
KeepsAllBut f before after = (after.clients ≡ before.clients) × KeepsOthers f before.forwards.links after.forwards.links

-- all clients and forwards are as they were but one
abbrev pub KeepsOtherThan : {S : Type 0} → Receiver → (before after : Peers S) → Type 0
KeepsOtherThan (to.Client n) before after = KeepsOthers n before.clients.links after.clients.links × (after.forwards ≡ before.forwards)
KeepsOtherThan (to.Origin f) before after = KeepsAllBut f before after

-- a client to which octets are sent hasn't failed by that
abbrev pub FailsNoClient : {S : Type 0} → (S → Type 0) → Receiver → (before after : Peers S) → Type 0
FailsNoClient has_failed (to.Client n) before after = FailsOnlyAt has_failed ⊥ (to.Client n) before after
FailsNoClient has_failed (to.Origin f) before after = Unit {0}
