-- Forwards for which nobody waits any more.
use Rattle.std.specs.Prelude.{◌≡◌, ◌&&◌, ℕ, Bool, true, false, List, length, nat_lt}
use Rattle.std.specs.BTreeMap.{get}
use Rattle.std.specs.List.{list_all}
use Rattle.std.specs.Ordering.{nat_cmp}
use Rattle.hc_peers.specs.Leaving.{has_left}
use Rattle.hc_peers.specs.declared.peers.Peers.{Peers}

-- whether each of the clients had left by that tick
abbrev pub all_left : {S : Type 0} → ℕ → List ℕ → Peers S → Bool
all_left by clients peers = list_all (λ c. has_left by (get nat_cmp peers.clients.links c)) clients

-- whether there are clients, and each of them had
abbrev pub have_left : {S : Type 0} → ℕ → List ℕ → Peers S → Bool
have_left by clients peers = nat_lt 0 (length clients) && all_left by clients peers

-- by what the cache may answer, the forward isn't needed, and all whose requests await it had left by that tick
pub record IsAbandoned {S : Type 0} (needed : ℕ → Bool → Type 0) (clients : ℕ → List ℕ → Type 0) (by f : ℕ) (peers : Peers S) : Type 0 where
  pub waiting : List ℕ
  pub waits : clients f waiting
  pub unneeded : needed f false
  pub left : have_left by waiting peers ≡ true
