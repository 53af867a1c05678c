-- What is markup in a document, and what is text.
use Rattle.std.specs.Prelude.{◌≡◌, ◌==◌, ◌&&◌, ◌||◌, ◌++◌, ℕ, Bool, List, [], ◌∷◌, codes, decimal, if◌then◌else◌, nat_le, not}
use Rattle.std.specs.List.{flat_map}
use Rattle.hc_html.specs.declared.front.TheConstants.{FRONT}
use Rattle.hc_html.specs.declared.tags.Class.{Class}
use Rattle.hc_html.specs.declared.tags.Class.TheVariants as class
use Rattle.hc_html.specs.declared.tags.Tag.{Tag}
use Rattle.hc_html.specs.declared.tags.Tag.TheVariants as tag

-- ---- texts

-- printable ASCII, or a line feed
abbrev pub is_written : ℕ → Bool
is_written octet = octet == 10 || (nat_le 32 octet && nat_le octet 126)

-- what stands for an octet of a text: for what could be markup, or end a value in quotes, an entity; for what is neither printable ASCII nor a line feed the character for those
-- that aren't known; any other stands for itself
abbrev pub escaped_octet : ℕ → List ℕ
escaped_octet octet =
    if octet == 38 then codes "&amp;" else if octet == 60 then codes "&lt;" else if octet == 62 then codes "&gt;" else if octet == 34 then codes "&quot;"
    else if octet == 39 then codes "&#39;" else if is_written octet then octet ∷ [] else codes "&#65533;"

abbrev pub escaped : List ℕ → List ℕ
escaped octets = flat_map escaped_octet octets

-- an octet that is so, and neither begins nor ends a tag or a value in quotes
abbrev pub is_plain : ℕ → Bool
is_plain octet = is_written octet && not (octet == 60 || octet == 62 || octet == 34 || octet == 39)

-- ---- elements

abbrev pub tag_name : Tag → List ℕ
tag_name tag.H1 = codes "h1"
tag_name tag.H2 = codes "h2"
tag_name tag.H3 = codes "h3"
tag_name tag.P = codes "p"
tag_name tag.Div = codes "div"
tag_name tag.Dl = codes "dl"
tag_name tag.Dt = codes "dt"
tag_name tag.Dd = codes "dd"
tag_name tag.Ol = codes "ol"
tag_name tag.Ul = codes "ul"
tag_name tag.Li = codes "li"
tag_name tag.Details = codes "details"
tag_name tag.Summary = codes "summary"
tag_name tag.Span = codes "span"
tag_name tag.Code = codes "code"
tag_name tag.Time = codes "time"
tag_name tag.Main = codes "main"
tag_name tag.Header = codes "header"
tag_name tag.Section = codes "section"

abbrev pub class_text : Class → List ℕ
class_text class.Plain = []
class_text class.Yes = codes " class=yes"
class_text class.No = codes " class=no"
class_text class.Broken = codes " class=broken"
class_text class.Counts = codes " class=counts"
class_text class.Settings = codes " class=settings"
class_text class.Must = codes " class=must"
class_text class.Should = codes " class=should"
class_text class.Stated = codes " class=stated"
class_text class.Own = codes " class=own"
class_text class.Asked = codes " class=asked"
class_text class.Groups = codes " class=groups"
class_text class.Count = codes " class=count"
class_text class.Note = codes " class=note"
class_text class.Target = codes " class=target"
class_text class.Positions = codes " class=positions"
class_text class.Log = codes " class=log"
class_text class.Response = codes " class=response"
class_text class.Validation = codes " class=validation"
class_text class.Invalidation = codes " class=invalidation"
class_text class.Failure = codes " class=failure"
class_text class.Hit = codes " class=hit"
class_text class.Other = codes " class=other"
class_text class.Wrong = codes " class=wrong"
class_text class.Why = codes " class=why"
class_text class.Line = codes " class=line"

abbrev pub begin_text : Tag → Class → List ℕ
begin_text tag class = codes "<" ++ (tag_name tag ++ (class_text class ++ codes ">"))

abbrev pub end_text : Tag → List ℕ
end_text tag = codes "</" ++ (tag_name tag ++ codes ">")

-- the position of a reply, to which others lead
abbrev pub place_text : ℕ → List ℕ
place_text position = codes "<b id=p" ++ (decimal position ++ (codes ">" ++ (decimal position ++ codes "</b>")))

-- one that leads there
abbrev pub link_text : ℕ → List ℕ
link_text position = codes "<a href=#p" ++ (decimal position ++ (codes ">" ++ (decimal position ++ codes "</a>")))

-- ---- a document

-- a piece of one: elements that begin and end, places and what leads there, and texts
pub data Piece : Type 0 where
  Begins : (tag : Tag) (class : Class) → Piece
  Ends : (tag : Tag) → Piece
  Place : (position : ℕ) → Piece
  Link : (position : ℕ) → Piece
  Words : (words : List ℕ) → Piece

abbrev pub piece_text : Piece → List ℕ
piece_text (Begins tag class) = begin_text tag class
piece_text (Ends tag) = end_text tag
piece_text (Place position) = place_text position
piece_text (Link position) = link_text position
piece_text (Words words) = escaped words

abbrev pub pieces_text : List Piece → List ℕ
pieces_text pieces = flat_map piece_text pieces

-- the text is that of pieces: so what is text in it is no markup
abbrev pub IsMarked : List ℕ → Type 0
IsMarked text = (pieces : List Piece) × (text ≡ pieces_text pieces)

-- what a document begins with, and a line as its first paragraph
abbrev pub heading_text : List ℕ → List ℕ
heading_text line = FRONT.now ++ (begin_text tag.P class.Line ++ (escaped line ++ end_text tag.P))

-- a document that says that line first
pub record IsDocument (line text : List ℕ) : Type 0 where
  pub rest : List ℕ
  pub is : text ≡ heading_text line ++ rest
  pub marked : ∥ IsMarked rest ∥₁
