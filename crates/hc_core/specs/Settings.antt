-- What comes of asking for a cache of some settings.
use Rattle.std.specs.Prelude.{◌≡◌, true, false, Result, Ok, Err}
use Rattle.hc_service.specs.declared.settings.CoreOptions.{CoreOptions}
use Rattle.hc_service.specs.declared.settings.CoreSettings.{CoreSettings}
use Rattle.hc_service.specs.Settings.{AreGood, is_name, is_room, is_size}
use Rattle.hc_service.specs.State.{new_state_with, usual_options}
use Rattle.hc_service.specs.declared.settings_fault.CoreFault.{CoreFault}
use Rattle.hc_service.specs.declared.settings_fault.CoreFault.TheVariants as faults
use Rattle.hc_core.specs.Steps.{Cache, StandsFor}

-- each answer stands only where this says so: the name is tested first, then the size, then the room, and memory is asked for last
abbrev pub GivesCoreWith : Result Cache CoreFault → CoreSettings → CoreOptions → Type 0
GivesCoreWith (Ok cache) settings options =
    AreGood settings × StandsFor settings cache (new_state_with settings options) × (is_room options.connections ≡ true)
GivesCoreWith (Err faults.Memory) settings options = AreGood settings × (is_room options.connections ≡ true)
GivesCoreWith (Err faults.Name) settings options = is_name settings.name ≡ false
GivesCoreWith (Err faults.Size) settings options = (is_name settings.name ≡ true) × (is_size settings.keys ≡ false)
GivesCoreWith (Err faults.Room) settings options = AreGood settings × (is_room options.connections ≡ false)

-- and of asking for one with the usual options
abbrev pub GivesCore : Result Cache CoreFault → CoreSettings → Type 0
GivesCore result settings = GivesCoreWith result settings usual_options
