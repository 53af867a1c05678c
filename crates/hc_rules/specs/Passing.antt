-- Heads that are passed on: lines that were received over a connection or stored, and lines that the cache adds.
use Rattle.std.specs.Prelude.{◌≡◌, ℕ, ◌+◌, ◌≤◌, true, false, List, length}
use Rattle.std.specs.List.{list_all}
use Rattle.hc_fields.specs.declared.fields.Field.{Field}
use Rattle.hc_head.specs.declared.head.RequestHead.{RequestHead}
use Rattle.hc_head.specs.Plain.{is_plain_field, IsPlainRequest}
use Rattle.hc_head.specs.Weights.{fields_weight}
use Rattle.hc_head.specs.Writable.{has_framing}

-- the most lines that were received or stored
abbrev pub most_kept_lines : ℕ
most_kept_lines = 100

-- the most octets that those have as they are written: 65,536 as they came, and two more for each line that had no space behind its colon and no CR
abbrev pub most_kept_weight : ℕ
most_kept_weight = 65736

-- the most lines that the cache adds
abbrev pub most_own_lines : ℕ
most_own_lines = 20

-- the most octets that those have
abbrev pub most_own_weight : ℕ
most_own_weight = 40000

-- by how many octets a method and a target may be longer when they are passed on
abbrev pub most_growth : ℕ
most_growth = 16

-- lines that were received or stored
pub record AreKeptLines (fields : List Field) : Type 0 where
  pub plain : list_all is_plain_field fields ≡ true
  pub few : length fields ≤ most_kept_lines
  pub light : fields_weight fields ≤ most_kept_weight

-- lines that the cache adds
pub record AreOwnLines (fields : List Field) : Type 0 where
  pub plain : list_all is_plain_field fields ≡ true
  pub no_framing : has_framing fields ≡ false
  pub few : length fields ≤ most_own_lines
  pub light : fields_weight fields ≤ most_own_weight

-- the head of a request that was received, or what is left of it once lines were taken away
pub record IsReceivedRequest (head : RequestHead) : Type 0 where
  pub plain : IsPlainRequest head
  pub few : length head.fields ≤ most_kept_lines
  pub light : length head.method + length head.target + fields_weight head.fields ≤ most_kept_weight
