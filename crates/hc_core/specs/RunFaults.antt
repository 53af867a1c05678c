-- What a fault of settings is to a run.
use Rattle.hc_service.specs.declared.settings_fault.CoreFault.{CoreFault}
use Rattle.hc_service.specs.declared.settings_fault.CoreFault.TheVariants as core
use Rattle.hc_core.specs.declared.fault.RunFault.{RunFault}
use Rattle.hc_core.specs.declared.fault.RunFault.TheVariants.{Memory, Settings}

-- what it is to a run that there is no cache
abbrev pub run_fault : CoreFault → RunFault
run_fault core.Memory = Memory
run_fault core.Name = Settings
run_fault core.Size = Settings
run_fault core.Room = Settings
