-- What a cache counts.
use Rattle.std.specs.Prelude.{ℕ, Bool, true, false, nat_lt, ◌+◌, ◌-◌, ◌^◌, min, max, Option, Some, None}
use Rattle.hc_service.specs.declared.numbers.Numbers.{Numbers}

-- one more, unless it is the last number of 64 bits
abbrev pub one_more : ℕ → ℕ
one_more n = min (n + 1) (2 ^ 64 - 1)

-- those of a cache to which nothing has happened, with room for so many connections
abbrev pub no_numbers : ℕ → Numbers
no_numbers room = record { moment = 0; connection = None; exchange = 0; forward = 0; records = 0; room = room; closing = false }

-- a moment that is earlier than the last counts as the last
abbrev pub at_moment : ℕ → Numbers → Numbers
at_moment moment n = record n { moment = max n.moment moment }

-- a connection has opened
abbrev pub after_opening : ℕ → Numbers → Numbers
after_opening connection n = record n { connection = Some connection }

-- a request has its record, and the number of its exchange
abbrev pub asked : Numbers → Numbers
asked n = record n { exchange = one_more n.exchange; records = one_more n.records }

-- a request to the origin has its record, and the number of its forward
abbrev pub sent : Numbers → Numbers
sent n = record n { forward = one_more n.forward; records = one_more n.records }

-- a response, a failure or a reply has its record
abbrev pub noted : Numbers → Numbers
noted n = record n { records = one_more n.records }

-- from now on each reply closes its connection behind it
abbrev pub stopping : Numbers → Numbers
stopping n = record n { closing = true }

-- the number is greater than those of all connections before
abbrev pub is_later : ℕ → Option ℕ → Bool
is_later number None = true
is_later number (Some last) = nat_lt last number
