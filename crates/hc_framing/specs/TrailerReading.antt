-- For the reader's own functions: a reader of trailer sections and the octets that it was given, of which it keeps the line that hasn't ended.
use Rattle.std.specs.Prelude.{◌≡◌, ℕ, ◌+◌, ◌-◌, ◌==◌, ◌&&◌, ◌||◌, nat_lt, ◌≤◌, ◌⊎◌, Bool, true, false, List, [], ◌∷◌, ◌++◌, length, take, Option, Some, None, Result, Ok, Err, if◌then◌else◌}
use Rattle.std.specs.List.{flat_map}
use Rattle.httparse.specs.Grammar.{Field, IsField, print_field, LineEnd, crlf, lf, AllPass}
use Rattle.hc_framing.specs.declared.chunk_fault.ChunkFault.{ChunkFault}
use Rattle.hc_framing.specs.declared.chunk_fault.ChunkFault.TheVariants.{Memory, Syntax}
use Rattle.hc_framing.specs.declared.trailer.TrailerReader.{TrailerReader}
use Rattle.hc_framing.specs.Trailers.{AreTrailerLines, IsTrailerThen, NeverHasTrailer, is_plain, HasRoomFor}

-- the CR, if it has come
abbrev pub end_of : Bool → List ℕ
end_of returned = if returned then 13 ∷ [] else []

-- the end that the line has with its LF
abbrev pub end_with_feed : Bool → LineEnd
end_with_feed returned = if returned then crlf else lf

-- the line is one of the syntax
abbrev pub IsFieldLine : List ℕ → Type 0
IsFieldLine line = (field : Field) × IsField field × (print_field field ≡ line)

-- whether the limits allow the line that hasn't ended and two octets more
abbrev pub has_room : TrailerReader → Bool
has_room r = nat_lt r.count 100 && nat_lt (length r.text) (65536 - r.taken - 1)

-- whether they allow the line with its CR and LF, or it is the empty one
abbrev pub may_return : TrailerReader → Bool
may_return r = length r.text == 0 || has_room r

-- the octets are field lines, which it has counted, and the line that it keeps
pub record AgreesTrailer (r : TrailerReader) (octets : List ℕ) : Type 0 where
  pub fields : List Field
  pub are : AreTrailerLines fields
  pub count_is : r.count ≡ length fields
  pub taken_is : r.taken ≡ length (flat_map print_field fields)
  pub plain : AllPass is_plain r.text
  pub room : (r.text ≡ []) ⊎ HasRoomFor fields (length r.text + length (end_of r.returned) + 1)
  pub octets_are : octets ≡ flat_map print_field fields ++ (r.text ++ end_of r.returned)

-- where a fault stands
abbrev pub FaultsTrailer : ChunkFault → List ℕ → Type 0
FaultsTrailer Memory octets = Unit {0}
FaultsTrailer Syntax octets = NeverHasTrailer octets

-- what the answer to one octet says of the octets before it, and of that one
abbrev pub GivesOctet : Result Bool ChunkFault → TrailerReader → List ℕ → ℕ → Type 0
GivesOctet (Ok false) r octets octet = AgreesTrailer r (octets ++ octet ∷ [])
GivesOctet (Ok true) r octets octet = IsTrailerThen (octets ++ octet ∷ []) []
GivesOctet (Err fault) r octets octet = FaultsTrailer fault (octets ++ octet ∷ [])

-- what each answer says of the octets and the piece that follows
abbrev pub GivesTrailer : Result (Option ℕ) ChunkFault → TrailerReader → List ℕ → List ℕ → Type 0
GivesTrailer (Ok None) r octets piece = AgreesTrailer r (octets ++ piece)
GivesTrailer (Ok (Some used)) r octets piece = (used ≤ length piece) × IsTrailerThen (octets ++ take used piece) []
GivesTrailer (Err fault) r octets piece = FaultsTrailer fault (octets ++ piece)
