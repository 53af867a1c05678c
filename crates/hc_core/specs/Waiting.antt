-- Exchanges that wait for a forward, and states in which they can be released.
use Rattle.std.specs.Prelude.{◌≡◌, ℕ, List, Option, Some, option_map}
use Rattle.std.specs.FinMap.{get}
use Rattle.std.specs.List.{AllByRecursion}
use Rattle.std.specs.List.Sorted.{IsStrictlySortedBy}
use Rattle.std.specs.Ordering.{nat_cmp}
use Rattle.hc_service.specs.declared.open.OpenExchange.{OpenExchange}
use Rattle.hc_service.specs.Agreement.{AwaitsThere}
use Rattle.hc_service.specs.Joining.{waiting_for}
use Rattle.hc_service.specs.Serves.{connections_of}
use Rattle.hc_service.specs.State.{State}

-- the connection of an exchange
abbrev pub connection_of : ℕ → State → Option ℕ
connection_of e s = option_map (λ x. x.connection) (get s.exchanges e)

-- it is open, and waits for a forward
pub record IsWaiting (e : ℕ) (s : State) : Type 0 where
  pub exchange : OpenExchange
  pub is_open : get s.exchanges e ≡ Some exchange
  pub forward : ℕ
  pub waits : exchange.waits_for ≡ Some forward

-- each exchange awaits its reply on its connection
abbrev pub AllAwait : State → Type 0
AllAwait s = (e : ℕ) (x : OpenExchange) → get s.exchanges e ≡ Some x → AwaitsThere s.connections e x

-- they rise, and each of them waits
pub record CanRelease (numbers : List ℕ) (s : State) : Type 0 where
  pub rise : IsStrictlySortedBy nat_cmp numbers
  pub wait : AllByRecursion (λ e. IsWaiting e s) numbers
  pub await : AllAwait s

-- those that wait for the forward in the one state can be released in the other, on the same connections
pub record CanFinish (f : ℕ) (s s' : State) : Type 0 where
  pub can : CanRelease (waiting_for f s.exchanges) s'
  pub same : waiting_for f s'.exchanges ≡ waiting_for f s.exchanges
  pub there : connections_of s'.exchanges (waiting_for f s.exchanges) ≡ connections_of s.exchanges (waiting_for f s.exchanges)
