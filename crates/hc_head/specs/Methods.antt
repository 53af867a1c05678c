-- The methods of requests (RFC 9110 section 9), in which case matters.
use Rattle.std.specs.Prelude.{ℕ, Bool, not, List, [], ◌∷◌, codes}
use Rattle.std.specs.List.{list_any}
use Rattle.std.specs.Str.{bytes_eq}

-- the method asks for what the target names (RFC 9110 section 9.3.1)
abbrev pub is_get : List ℕ → Bool
is_get method = bytes_eq method (codes "GET")

-- the method asks for that without the body (RFC 9110 section 9.3.2)
abbrev pub is_head : List ℕ → Bool
is_head method = bytes_eq method (codes "HEAD")

-- a method that only reads (RFC 9110 section 9.2.1)
abbrev pub is_safe : List ℕ → Bool
is_safe method = list_any (bytes_eq method) (codes "GET" ∷ codes "HEAD" ∷ codes "OPTIONS" ∷ codes "TRACE" ∷ [])

-- any other method
abbrev pub is_unsafe : List ℕ → Bool
is_unsafe method = not (is_safe method)
