-- What a manifest says of the parts.
use Rattle.std.specs.Prelude.{ℕ, ◌+◌, ◌-◌, ◌*◌, ◌^◌, ◌==◌, ◌&&◌, List, [], ◌∷◌, ◌++◌, codes, decimal, min, if◌then◌else◌}
use Rattle.std.specs.Char.{is_ascii_digit}
use Rattle.hc_parting.specs.declared.manifest.Entries.{Entries}

-- the first line has how many parts there are, and how many records in all of them
abbrev pub head_text : ℕ → ℕ → List ℕ
head_text parts records = codes "hcache split parts=" ++ (decimal parts ++ (codes " records=" ++ (decimal records ++ 10 ∷ [])))

-- ---- what the lines behind it tell

abbrev pub none_told : Entries
none_told = record { lines = 0; records = 0; marks = 0; number = 0 }

-- a count that has come to the greatest number stays there
abbrev pub at_most : ℕ → ℕ
at_most count = min count (2 ^ 64 - 1)

-- a line ends: the number behind its first `=` is that of the records of its part
abbrev pub with_line : Entries → Entries
with_line told = record { lines = at_most (told.lines + 1); records = at_most (told.records + told.number); marks = 0; number = 0 }

abbrev pub with_mark : Entries → Entries
with_mark told = record told { marks = at_most (told.marks + 1) }

abbrev pub with_digit : ℕ → Entries → Entries
with_digit digit told = record told { number = at_most (at_most (told.number * 10) + (digit - 48)) }

abbrev pub with_octet : ℕ → Entries → Entries
with_octet octet told =
    if octet == 10 then with_line told
    else if octet == 61 then with_mark told
    else if told.marks == 1 && is_ascii_digit octet then with_digit octet told
    else told

abbrev pub told_from : Entries → List ℕ → Entries
told_from told [] = told
told_from told (octet ∷ rest) = told_from (with_octet octet told) rest

-- how many lines there are, and how many records their parts have together
abbrev pub lines_told : List ℕ → Entries
lines_told entries = told_from none_told entries
