-- What the program says where a task isn't done.
use Rattle.std.specs.Prelude.{⊤, List, ℕ, Bool, true, false, [], ◌∷◌, ◌++◌, codes}
use Rattle.hc_auditing.specs.declared.trouble.Trouble.{Trouble}
use Rattle.hc_auditing.specs.declared.trouble.Trouble.TheVariants.{Memory, Device, Output}

-- the line on standard error, with its line feed
abbrev pub trouble_line : Trouble → List ℕ
trouble_line Memory = codes "error: memory" ++ 10 ∷ []
trouble_line (Device reason) = codes "error: device" ++ 10 ∷ []
trouble_line (Output reason) = codes "error: device" ++ 10 ∷ []

-- whether it is that the answer can't be written
abbrev pub is_of_output : Trouble → Bool
is_of_output (Output reason) = true
is_of_output trouble = false

-- it is that the input failed
abbrev pub IsOfInput : Trouble → Type 0
IsOfInput Memory = ⊥
IsOfInput (Device reason) = ⊤
IsOfInput (Output reason) = ⊥
