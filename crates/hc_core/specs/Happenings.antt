-- What a cache does for what happens at its links.
use Rattle.std.specs.Prelude.{◌≡◌, true, false, List, IfOk, Result}
use Rattle.std.specs.Global.{Global}
use Rattle.std.specs.declared.alloc.AllocError.{AllocError}
use Rattle.std.specs.declared.vec.Vec.{Vec}
use Rattle.hc_service.specs.declared.event.Happening.{Happening}
use Rattle.hc_service.specs.declared.action.Action.{Action}
use Rattle.hc_service.specs.declared.settings.CoreSettings.{CoreSettings}
use Rattle.hc_service.specs.Agreement.{IsReady}
use Rattle.hc_service.specs.Serves.{Owes, Run, Turn, is_full, is_known}
use Rattle.hc_service.specs.State.{State}
use Rattle.hc_core.specs.declared.desk.Desk.{Desk}
use Rattle.hc_core.specs.Standing.{DeskStandsFor}

-- it is that of some state in which it may happen
pub record CanTake {S H : Type 0} (of : Happening) (desk : Desk S H) : Type 0 where
  pub settings : CoreSettings
  pub state : State
  pub stands : DeskStandsFor settings desk state
  pub known : is_known of state ≡ true
  pub has_place : is_full of state ≡ false

-- the turns that are owed for it lead from the one state to the other
pub record Does (settings : CoreSettings) (of : Happening) (s : State) (actions : List Action) (s' : State) : Type 0 where
  pub turns : List Turn
  pub owes : Owes of turns s s'
  pub run : Run settings turns s actions s'

-- what is owed for it leads to a state of the cache, where each forward can end
pub record GivesDoing {S H : Type 0} (settings : CoreSettings) (of : Happening) (s : State) (actions : List Action) (desk : Desk S H) : Type 0 where
  pub state : State
  pub stands : DeskStandsFor settings desk state
  pub does : IsReady s → Does settings of s actions state

-- what is owed for it is done of each state that the cache stands for and in which it may happen
abbrev pub TakesOn : {S H : Type 0} → Happening → Desk S H → Result (Vec Action Global) AllocError → Desk S H → Type 0
TakesOn of old result new =
    (settings : CoreSettings) (s : State) → DeskStandsFor settings old s → is_known of s ≡ true → is_full of s ≡ false
    → IfOk result (λ actions. GivesDoing settings of s actions.items new)
