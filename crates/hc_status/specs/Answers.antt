-- What the functions that read answer. Private functions alone cite this.
use Rattle.std.specs.Prelude.{◌≡◌, ℕ, Bool, false, ◌==◌, List, [], ◌∷◌, Option, None}
use Rattle.hc_status.specs.declared.fault.SfFault.{SfFault}
use Rattle.hc_status.specs.declared.fault.SfFault.TheVariants.{Syntax, InnerList, Memory}

-- the fault says that there is nothing such, or memory ran out
abbrev pub Lacks : {A : Type 0} → SfFault → Option A → Type 0
Lacks Syntax found = found ≡ None
Lacks InnerList found = ⊥
Lacks Memory found = Unit {0}

-- whether a parameter begins the text
abbrev pub begins_parameter : List ℕ → Bool
begins_parameter [] = false
begins_parameter (b ∷ text) = b == 59
