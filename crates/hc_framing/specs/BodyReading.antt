-- For the reader's own functions: readers of bodies, the octets that they were given, and those of the body.
use Rattle.std.specs.Prelude.{◌≡◌, ℕ, ◌+◌, ◌<◌, ◌≤◌, Bool, true, false, List, [], ◌∷◌, ◌++◌, length, take, drop, Result, Ok, Err}
use Rattle.std.specs.List.{concat}
use Rattle.hc_framing.specs.declared.fault.FrameFault.{FrameFault}
use Rattle.hc_framing.specs.declared.fault.FrameFault.TheVariants.{Memory}
use Rattle.hc_framing.specs.declared.framing.Framing.{Framing}
use Rattle.hc_framing.specs.declared.framing.Framing.TheVariants.{Sized, Chunked, UntilClose}
use Rattle.hc_framing.specs.declared.framing_reader.FramingStage.{FramingStage}
use Rattle.hc_framing.specs.declared.framing_reader.FramingStage.TheVariants as at
use Rattle.hc_framing.specs.declared.framing_reader.FramingReader.{FramingReader}
use Rattle.hc_framing.specs.declared.framing_reader.Part.{Part}
use Rattle.hc_framing.specs.declared.body.BodyReader.{BodyReader}
use Rattle.hc_framing.specs.declared.progress.Progress.{Progress}
use Rattle.hc_framing.specs.declared.progress.Progress.TheVariants.{More, Whole}
use Rattle.hc_framing.specs.ChunkLines.{BeginsChunkLine}
use Rattle.hc_framing.specs.ChunkLineReading.{AgreesLine}
use Rattle.hc_framing.specs.TrailerReading.{AgreesTrailer}
use Rattle.hc_head.specs.Writable.{longest_body}
use Rattle.hc_framing.specs.Chunks.{AreChunksThen}
use Rattle.hc_framing.specs.Messages.{BeginsBody}
use Rattle.hc_framing.specs.Bodies.{BreaksBody}

-- ---- the reader of the framing, which keeps no octets of the body

-- behind the chunks so far, whose data are the body, it reads the line of a chunk
pub record AtLine (r : FramingReader) (octets body : List ℕ) : Type 0 where
  pub chunks : List (List ℕ)
  pub last : List ℕ
  pub are : AreChunksThen chunks octets last
  pub body_is : body ≡ concat chunks
  pub count_is : r.count ≡ length body
  pub short : length (concat chunks) ≤ longest_body
  pub line : AgreesLine r.line last

-- it reads the data of a chunk, of which so many octets have come
pub record AtData (r : FramingReader) (octets body : List ℕ) : Type 0 where
  pub chunks : List (List ℕ)
  pub last : List ℕ
  pub are : AreChunksThen chunks octets last
  pub size : ℕ
  pub len : ℕ
  pub line : BeginsChunkLine last size len
  pub some : 0 < size
  pub short : length (concat chunks) + size ≤ longest_body
  pub body_is : body ≡ concat chunks ++ drop len last
  pub count_is : r.count ≡ length (concat chunks) + size
  pub left_is : length (drop len last) + r.left ≡ size

-- it waits for the LF behind the data of a chunk
pub record AtLineFeed (r : FramingReader) (octets body : List ℕ) : Type 0 where
  pub chunks : List (List ℕ)
  pub last : List ℕ
  pub are : AreChunksThen chunks octets last
  pub chunk : List ℕ
  pub len : ℕ
  pub line : BeginsChunkLine last (length chunk) len
  pub some : 0 < length chunk
  pub short : length (concat chunks) + length chunk ≤ longest_body
  pub body_is : body ≡ concat chunks ++ chunk
  pub count_is : r.count ≡ length body
  pub behind : drop len last ≡ chunk ++ (13 ∷ [])

-- it reads the trailer section
pub record AtTrailer (r : FramingReader) (octets body : List ℕ) : Type 0 where
  pub chunks : List (List ℕ)
  pub last : List ℕ
  pub are : AreChunksThen chunks octets last
  pub len : ℕ
  pub line : BeginsChunkLine last 0 len
  pub body_is : body ≡ concat chunks
  pub short : length (concat chunks) ≤ longest_body
  pub trailer : AgreesTrailer r.trailer (drop len last)

-- what it agrees with in each stage: the octets that it was given, and the body so far
abbrev pub AgreesAt : FramingStage → Framing → FramingReader → List ℕ → List ℕ → Type 0
AgreesAt at.Sized framing r octets body = (framing ≡ Sized (length octets + r.left)) × (0 < r.left) × (body ≡ octets)
AgreesAt at.Line framing r octets body = (framing ≡ Chunked) × AtLine r octets body
AgreesAt at.Data framing r octets body = (framing ≡ Chunked) × (0 < r.left) × AtData r octets body
AgreesAt at.CarriageReturn framing r octets body = (framing ≡ Chunked) × (r.left ≡ 0) × AtData r octets body
AgreesAt at.LineFeed framing r octets body = (framing ≡ Chunked) × AtLineFeed r octets body
AgreesAt at.Trailer framing r octets body = (framing ≡ Chunked) × AtTrailer r octets body
AgreesAt at.UntilClose framing r octets body = (framing ≡ UntilClose) × (length octets ≤ longest_body) × (body ≡ octets) × (r.count ≡ length octets)

-- the reader was given these octets of a body that is framed so, of which those are the body so far, and its end hasn't come
abbrev pub AgreesFraming : Framing → FramingReader → List ℕ → List ℕ → Type 0
AgreesFraming framing r octets body = AgreesAt r.stage framing r octets body

-- where a fault of a reader of bodies stands
abbrev pub FaultsBody : FrameFault → Framing → List ℕ → Type 0
FaultsBody Memory framing octets = Unit {0}
FaultsBody fault framing octets = BreaksBody fault framing octets

-- with the part the body is whole, or it goes on
abbrev pub GivesEnd : Bool → Part → Framing → FramingReader → List ℕ → List ℕ → List ℕ → Type 0
GivesEnd true part framing r octets body piece =
    BeginsBody framing (octets ++ take part.used piece) (body ++ take part.body piece) (length octets + part.used)
GivesEnd false part framing r octets body piece =
    (0 < part.used) × AgreesFraming framing r (octets ++ take part.used piece) (body ++ take part.body piece)

-- what each answer to a piece says of it, and of the octets and the body before it
abbrev pub GivesPart : Result Part FrameFault → Framing → FramingReader → List ℕ → List ℕ → List ℕ → Type 0
GivesPart (Ok part) framing r octets body piece =
    (part.used ≤ length piece) × (part.body ≤ part.used) × GivesEnd part.ends part framing r octets body piece
GivesPart (Err fault) framing r octets body piece = FaultsBody fault framing (octets ++ piece)

-- ---- the reader of bodies, which keeps the octets of the body

-- the reader was given these octets of a body that is framed so, and its end hasn't come
abbrev pub AgreesBody : Framing → BodyReader → List ℕ → Type 0
AgreesBody framing r octets = AgreesFraming framing r.framing octets r.octets

-- it was given some octets of some body
pub record IsReading (r : BodyReader) : Type 0 where
  pub framing : Framing
  pub octets : List ℕ
  pub agrees : AgreesBody framing r octets

-- what each answer says of the octets, and of those that follow
abbrev pub GivesBody : Result Progress FrameFault → Framing → BodyReader → List ℕ → List ℕ → Type 0
GivesBody (Ok More) framing r octets piece = AgreesBody framing r (octets ++ piece)
GivesBody (Ok (Whole used)) framing r octets piece = (used ≤ length piece) × BeginsBody framing (octets ++ take used piece) r.whole (length octets + used)
GivesBody (Err fault) framing r octets piece = FaultsBody fault framing (octets ++ piece)
