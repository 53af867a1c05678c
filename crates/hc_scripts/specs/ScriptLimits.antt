-- The limits of a script.
use Rattle.std.specs.Prelude.{ℕ}

-- the greatest number of a connection or a forward, the latest moment, and the most octets of a store
abbrev pub greatest_count : ℕ
greatest_count = 999999999999

-- the most keys of a store
abbrev pub greatest_keys : ℕ
greatest_keys = 999999
