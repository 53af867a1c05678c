-- The command line of `hc_bench`.
use Rattle.std.specs.Prelude.{ℕ, List, [], ◌∷◌, Option, Some, None, if◌then◌else◌, codes}
use Rattle.std.specs.Str.{bytes_eq}
use Rattle.hc_bench.specs.declared.command.Task.{Task}
use Rattle.hc_bench.specs.declared.command.Task.TheVariants.{Count, Measure, Store, Hits, Idle, Refusals}

-- what a word asks for, if it is a known one
abbrev pub task_of : List ℕ → Option Task
task_of word =
    if bytes_eq word (codes "measure") then Some Measure
    else (if bytes_eq word (codes "store") then Some Store
    else (if bytes_eq word (codes "hits") then Some Hits
    else (if bytes_eq word (codes "idle") then Some Idle
    else (if bytes_eq word (codes "refusals") then Some Refusals else None))))

-- what the words ask for, of which the first is the program's name
abbrev pub asked : List (List ℕ) → Option Task
asked [] = Some Count
asked (name ∷ []) = Some Count
asked (name ∷ word ∷ []) = task_of word
asked (name ∷ word ∷ more ∷ rest) = None
