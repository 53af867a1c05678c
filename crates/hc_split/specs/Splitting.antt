-- What goes into the parts of a recording.
use Rattle.std.specs.Prelude.{◌≡◌, ℕ, Bool, true, false, List, [], ◌∷◌, ◌++◌, Option, if◌then◌else◌}
use Rattle.std.specs.Io.KnownBytes.{Appends}
use Rattle.hc_head.specs.declared.head.Target.{Target}
use Rattle.hc_transcript.specs.declared.format.Format.{Format}
use Rattle.hc_transcript.specs.declared.record.Record.{Record}
use Rattle.hc_transcript.specs.Items.{Item}
use Rattle.hc_transcript.specs.History.{next_position}
use Rattle.hc_transcript.specs.Reader.{Agrees, Lends, text_lent}
use Rattle.hc_transcript.specs.Records.{record_text, records_text}
use Rattle.hc_parts.specs.Parts.{KeepsCauses, goes_into, records_in}
use Rattle.hc_split.specs.declared.outlets.Outlet.{Outlet}
use Rattle.hc_split.specs.declared.splitter.Splitter.{Splitter}
use Rattle.hc_split.specs.Outlets.{position_line, table_of, text_of}
use Rattle.hc_split.specs.Parting.{part_by}
use Rattle.hc_split.specs.Routing.{RoutesAs}

-- the positions in the whole of the records of a part, in rising order
abbrev pub positions_in : (Target → ℕ) → ℕ → List Item → List ℕ
positions_in part k [] = []
positions_in part k (item ∷ h) = if goes_into part k h item then positions_in part k h ++ next_position h ∷ [] else positions_in part k h

-- the table of a part has them, a line each
abbrev pub table_text : List ℕ → List ℕ
table_text [] = []
table_text (position ∷ positions) = position_line position ++ table_text positions

-- the splitter has read these records of the octets, and they keep together what has to go into one part
pub record IsSplitting (s : Splitter) (octets : List ℕ) (records : List Record) (h : List Item) : Type 0 where
  pub reads : Agrees s.reader octets records h
  pub routes : RoutesAs (part_by s.parts) s.routes h
  pub keeps : KeepsCauses (part_by s.parts) h

-- an outlet got what one text has more than another
abbrev pub GetsMore : Option (List ℕ) → Option (List ℕ) → List ℕ → List ℕ → Type 0
GetsMore before after text more = (added : List ℕ) × Appends before after added × (more ≡ text ++ added)

module _ {W : Type 0} (contents : W → Option (List ℕ)) where
  -- each outlet got the records that its part has in the second history and not in the first, and their positions
  pub record AreGiven (part : Target → ℕ) (format : Format) (before after : List (Outlet W)) (records : List Record) (h : List Item) (others : List Record) (g : List Item) : Type 0 where
    pub texts : (k : ℕ) → GetsMore (text_of contents before k) (text_of contents after k) (records_text format (records_in part k records h)) (records_text format (records_in part k others g))
    pub tables : (k : ℕ) → GetsMore (table_of contents before k) (table_of contents after k) (table_text (positions_in part k h)) (table_text (positions_in part k g))

  -- the splitter goes on from these records of the octets, and gives what it reads to the outlets
  pub record SplitsOn (before after : List (Outlet W)) (old new : Splitter) (octets : List ℕ) (records : List Record) (h : List Item) : Type 0 where
    pub others : List Record
    pub items : List Item
    pub is : IsSplitting new octets others items
    pub same_parts : new.parts ≡ old.parts
    pub same_format : new.format ≡ old.format
    pub given : AreGiven (part_by old.parts) old.format before after records h others items

-- ---- what private functions promise

-- one record more was read, which isn't in its part yet
pub record ReadsOne (s : Splitter) (octets : List ℕ) (records : List Record) (h : List Item) : Type 0 where
  pub one : Record
  pub item : Item
  pub reads : Agrees s.reader octets (one ∷ records) (item ∷ h)
  pub lends : Lends s.reader item
  pub text_is : text_lent s.reader ≡ record_text s.format one
  pub routes : RoutesAs (part_by s.parts) s.routes h
  pub keeps : KeepsCauses (part_by s.parts) h

-- one was read, or none is whole
abbrev pub HasRead : Bool → Splitter → List ℕ → List Record → List Item → Type 0
HasRead true s octets records h = ReadsOne s octets records h
HasRead false s octets records h = IsSplitting s octets records h
