-- Numbers of one or more digits.
use Rattle.std.specs.Prelude.{ℕ, Bool, ◌&&◌, List, length, Option, Some, None, if◌then◌else◌, nat_lt, min}
use Rattle.std.specs.List.{list_all}
use Rattle.std.specs.Char.{is_ascii_digit}
use Rattle.std.specs.Str.Parse.{digits_value}

-- one or more digits, and nothing else
abbrev pub is_number : List ℕ → Bool
is_number text = nat_lt 0 (length text) && list_all is_ascii_digit text

-- the number that the digits write, or the limit where that is less
abbrev pub capped_number : ℕ → List ℕ → Option ℕ
capped_number limit text = if is_number text then Some (min limit (digits_value 10 text)) else None

-- the largest number of a field, and of seconds; greater ones are read as this one (RFC 9111 section 1.2.2)
abbrev pub largest_number : ℕ
largest_number = 2147483648

-- a number of a field
abbrev pub number_of : List ℕ → Option ℕ
number_of text = capped_number largest_number text

-- a decimal, at most 10 ^ 18
abbrev pub decimal_of : List ℕ → Option ℕ
decimal_of text = capped_number 1000000000000000000 text

-- the moment at which the year 10000 begins, in seconds since 1970: no date is so late (RFC 9110 section 5.6.7)
abbrev pub end_of_moments : ℕ
end_of_moments = 253402300800
