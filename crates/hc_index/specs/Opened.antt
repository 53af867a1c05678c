-- What is lent of an open exchange.
use Rattle.std.specs.Prelude.{◌≡◌, ◌⊎◌, ℕ, Bool, false, List, drop, map, Option, Some, None}
use Rattle.hc_history.specs.Seen.{Seen}
use Rattle.hc_index.specs.declared.opened.Opened.{Opened}
use Rattle.hc_index.specs.Lists.{exchange_seen, live_in}
use Rattle.hc_index.specs.Windows.{ToldResponse, those_for, told_seen}

-- the answers behind those that came before its request
abbrev pub answers_lent : Opened → List ToldResponse
answers_lent opened = map told_seen (drop opened.before opened.answers.now.items)

-- the open exchange of that number, and what is seen of its target and its window
pub record Lends (seen : Seen) (number : ℕ) (opened : Opened) : Type 0 where
  pub is_open : seen.exchange number ≡ Some (exchange_seen opened.exchange.now)
  pub error : opened.error ≡ seen.error opened.exchange.now.target
  pub failure : opened.failure ≡ seen.failure opened.exchange.now.target
  pub live : live_in opened.exchange.now.target opened.lives.now ≡ seen.live opened.exchange.now.target
  pub window : those_for opened.exchange.now.number (answers_lent opened) ≡ seen.window number

-- where it needn't be sure that it is open, another may be lent
abbrev pub IsLent : Bool → Seen → ℕ → Option Opened → Type 0
IsLent surely seen number None = seen.exchange number ≡ None
IsLent surely seen number (Some opened) = ((surely ≡ false) × (seen.exchange number ≡ None)) ⊎ Lends seen number opened
