-- Field lines that lie in octets, with their names among names in lower case.
use Rattle.std.specs.Prelude.{ℕ, List, take, drop}
use Rattle.hc_fields.specs.declared.fields.Field.{Field}
use Rattle.hc_fields.specs.declared.views.LineSpan.{LineSpan}

-- so many octets from a place on, or those of them that are there
abbrev pub piece : List ℕ → ℕ → ℕ → List ℕ
piece octets start len = take len (drop start octets)

-- the line that stands there
abbrev pub line_at : List ℕ → List ℕ → LineSpan → Field
line_at names octets span = record { name = piece names span.name_start span.name_len; value = piece octets span.value_start span.value_len }
