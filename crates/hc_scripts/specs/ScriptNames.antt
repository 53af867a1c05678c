-- The numbers and the names of the faults of a script.
use Rattle.std.specs.Prelude.{ℕ, List, codes}
use Rattle.hc_core.specs.declared.fault.RunFault.{RunFault}
use Rattle.hc_core.specs.declared.fault.RunFault.TheVariants as run
use Rattle.hc_scripts.specs.declared.fault.ScriptFault.{ScriptFault}
use Rattle.hc_scripts.specs.declared.fault.ScriptFault.TheVariants.{Opening, Line, Torn, Memory, Settings}

abbrev pub fault_number : ScriptFault → ℕ
fault_number Opening = 1
fault_number Line = 2
fault_number Torn = 3
fault_number Memory = 4
fault_number Settings = 5

abbrev pub fault_name : ScriptFault → List ℕ
fault_name Opening = codes "Opening"
fault_name Line = codes "Line"
fault_name Torn = codes "Torn"
fault_name Memory = codes "Memory"
fault_name Settings = codes "Settings"

-- what it is to a script that there is no run of it
abbrev pub script_fault : RunFault → ScriptFault
script_fault run.Memory = Memory
script_fault run.Settings = Settings
