-- Where a fault stands.
use Rattle.std.specs.Prelude.{◌≡◌, Result, Err}
use Rattle.hc_status.specs.declared.fault.SfFault.{SfFault}
use Rattle.hc_status.specs.declared.fault.SfFault.TheVariants as list

-- the fault is the one that the definition gives, or memory ran out
abbrev pub Fails : {A : Type 0} → SfFault → Result A SfFault → Type 0
Fails list.Syntax answer = answer ≡ Err list.Syntax
Fails list.InnerList answer = answer ≡ Err list.InnerList
Fails list.Memory answer = Unit {0}
