-- The limits of a transcript.
use Rattle.std.specs.Prelude.{ℕ, ◌+◌}

-- the greatest number of an exchange or a forward
abbrev pub greatest_number : ℕ
greatest_number = 999999999999

-- the last moment of the year 9999, in whole seconds since 1970
abbrev pub greatest_moment : ℕ
greatest_moment = 253402300799

-- a recorded head and a body, each as long as it may be
abbrev pub longest_message : ℕ
longest_message = 16908288

-- a record's line, with its line feed
abbrev pub longest_line : ℕ
longest_line = 64

-- the most that is left of a record that isn't whole: all but its last line feed
abbrev pub longest_unfinished : ℕ
longest_unfinished = longest_line + longest_message
