-- What a reader of records lends of the octets that it holds.
use Rattle.std.specs.Prelude.{ℕ, ◌+◌, List, Option, Some, None}
use Rattle.hc_fields.specs.Views.{piece}
use Rattle.hc_transcript.specs.declared.places.RecordPlaces.{RecordPlaces}
use Rattle.hc_transcript.specs.declared.reader.Lent.{Lent}
use Rattle.hc_transcript.specs.Items.{Item}
use Rattle.hc_transcript.specs.Reading.{item_at}

-- how many octets the record takes that is lent, where its message ends, and its moment; 0 where none is lent
abbrev pub lent_len : Option Lent → ℕ
lent_len None = 0
lent_len (Some l) = l.len

abbrev pub lent_end : Option Lent → ℕ
lent_end None = 0
lent_end (Some l) = l.start + l.line.size

abbrev pub lent_moment : Option Lent → ℕ
lent_moment None = 0
lent_moment (Some l) = l.line.moment

-- what the record that is lent means
abbrev pub lent_item : RecordPlaces → List ℕ → Option Lent → Option Item
lent_item places held None = None
lent_item places held (Some l) = Some (item_at places l.line (piece held l.start l.line.size))
