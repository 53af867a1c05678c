-- Links that are written to through a buffer.
use Rattle.std.specs.Prelude.{◌≡◌, ℕ, List, ◌++◌}

-- the most octets that wait
abbrev pub most_waiting : ℕ
most_waiting = 65536

-- these octets were written: the link got a beginning of them, and the rest waits
abbrev pub HasGot : {R : Type 0} → (R → List ℕ → Type 0) → R → List ℕ → List ℕ → Type 0
HasGot has_got link waiting octets = (got : List ℕ) × has_got link got × (octets ≡ got ++ waiting)

-- these octets stand at the front of what the link got
abbrev pub HasKept : {R : Type 0} → (R → List ℕ → Type 0) → R → List ℕ → Type 0
HasKept has_got link octets = (rest : List ℕ) × has_got link (octets ++ rest)
