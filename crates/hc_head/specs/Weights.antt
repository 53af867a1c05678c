-- How many octets field lines have as they are written (RFC 9112 section 5).
use Rattle.std.specs.Prelude.{ℕ, ◌+◌, List, length}
use Rattle.std.specs.List.{sum_by}
use Rattle.hc_fields.specs.declared.fields.Field.{Field}

-- the octets of a line: its name, a colon and a space, its value, and CR LF
abbrev pub line_weight : Field → ℕ
line_weight f = length f.name + length f.value + 4

-- the octets of all lines
abbrev pub fields_weight : List Field → ℕ
fields_weight fields = sum_by line_weight fields
