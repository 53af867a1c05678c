-- Picking by marks.
use Rattle.std.specs.Prelude.{Bool, List, [], ◌∷◌, if◌then◌else◌}

-- the elements at whose places there is no mark
abbrev pub unmarked : {X : Type 0} → List Bool → List X → List X
unmarked [] xs = xs
unmarked (mark ∷ marks) [] = []
unmarked (mark ∷ marks) (x ∷ xs) = if mark then unmarked marks xs else x ∷ unmarked marks xs
