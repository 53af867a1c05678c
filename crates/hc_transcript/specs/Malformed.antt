-- What a malformed rest is: the opening that is none, the record behind a history that is none, and the end inside either of them.
use Rattle.std.specs.Prelude.{◌≡◌, ◌≢◌, ℕ, ◌+◌, ◌<◌, ◌≤◌, ◌⊎◌, Bool, List, [], ◌∷◌, ◌++◌, length, slice_index, Option, Some, None}
use Rattle.hc_head.specs.declared.head.RequestHead.{RequestHead}
use Rattle.hc_head.specs.declared.head.ResponseHead.{ResponseHead}
use Rattle.hc_head.specs.declared.head.Target.{Target}
use Rattle.hc_head.specs.declared.head.TheConstants.Room.{RECORDED}
use Rattle.hc_head.specs.Targets.{HasTarget}
use Rattle.hc_framing.specs.declared.message.Message.{Message}
use Rattle.hc_framing.specs.Faults.{IsWholeRequest, IsWholeResponse}
use Rattle.hc_transcript.specs.declared.fault.RecordFault.{RecordFault}
use Rattle.hc_transcript.specs.declared.fault.RecordFault.TheVariants as fault
use Rattle.hc_transcript.specs.declared.format.Format.{Format}
use Rattle.hc_transcript.specs.declared.line.Kind.{Kind}
use Rattle.hc_transcript.specs.declared.line.Kind.TheVariants as kind
use Rattle.hc_transcript.specs.declared.line.Line.{Line}
use Rattle.hc_transcript.specs.declared.record.Record.{Record}
use Rattle.hc_transcript.specs.Limits.{longest_line}
use Rattle.hc_transcript.specs.Records.{opening, line_text}
use Rattle.hc_transcript.specs.Lines.{IsLineText, BeginsLine, HasLongLine}
use Rattle.hc_transcript.specs.Items.{Item}
use Rattle.hc_transcript.specs.Checks.{line_fault}
use Rattle.hc_transcript.specs.Transcript.{is_to_head, Splits}

-- ---- the opening

-- the octets, with whatever follows, begin with the opening of no format
abbrev pub HasNoOpening : List ℕ → Type 0
HasNoOpening octets = (format : Format) (more rest : List ℕ) → octets ++ more ≢ opening format ++ rest

-- the octets may go on to the opening of a format
abbrev pub IsUnfinishedOpening : List ℕ → Type 0
IsUnfinishedOpening octets = (format : Format) × (more : List ℕ) × (opening format ≡ octets ++ more) × (more ≢ [])

-- the opening breaks the octets by that fault
abbrev pub BreaksOpening : List ℕ → RecordFault → Type 0
BreaksOpening octets f = (HasNoOpening octets × (f ≡ fault.Opening)) ⊎ (IsUnfinishedOpening octets × (f ≡ fault.Torn))

-- ---- the line and the place of a record, by the checks that its line has to pass

-- the octets begin with the text of a line
pub record HasLine (format : Format) (octets text : List ℕ) (l : Line) : Type 0 where
  pub begins : BeginsLine octets text
  pub is : IsLineText format text l

-- what stands before the first line feed is no line
pub record HasNoLine (format : Format) (octets : List ℕ) : Type 0 where
  pub text : List ℕ
  pub begins : BeginsLine octets text
  pub none : (l : Line) → ¬ (IsLineText format text l)

module _ (format : Format) (check : Line → Option RecordFault) where
  -- the octets begin with a record of that line, which passes the check, and of that message; the record takes len of them
  pub record IsFramed (octets : List ℕ) (l : Line) (message : List ℕ) (len : ℕ) : Type 0 where
    pub rest : List ℕ
    pub octets_are : octets ≡ line_text l ++ 10 ∷ (message ++ 10 ∷ rest)
    pub is : IsLineText format (line_text l) l
    pub size_is : length message ≡ l.size
    pub len_is : len ≡ length (line_text l) + l.size + 2
    pub keeps : check l ≡ None

  -- the line fails the check by that fault
  pub record FailsCheck (f : RecordFault) (octets : List ℕ) : Type 0 where
    pub text : List ℕ
    pub line : Line
    pub has : HasLine format octets text line
    pub fails : check line ≡ Some f

  -- the line passes the check, and no line feed stands behind so many octets
  pub record HasWrongEnd (octets : List ℕ) : Type 0 where
    pub text : List ℕ
    pub line : Line
    pub has : HasLine format octets text line
    pub keeps : check line ≡ None
    pub enough : length text + line.size + 2 ≤ length octets
    pub wrong : slice_index octets (length text + line.size + 1) ≢ 10

  -- where a fault of a record's line stands
  abbrev pub BreaksLine : RecordFault → List ℕ → Type 0
  BreaksLine fault.Line octets = HasLongLine octets ⊎ (HasNoLine format octets ⊎ (HasWrongEnd octets ⊎ FailsCheck fault.Line octets))
  BreaksLine f octets = FailsCheck f octets

  -- there is no line feed yet, and room for one
  pub record IsUnfinishedLine (octets : List ℕ) : Type 0 where
    pub short : length octets < longest_line
    pub none : (text : List ℕ) → ¬ (BeginsLine octets text)

  -- the line passes the check, and octets of the record are to come
  pub record IsUnfinishedRecord (octets : List ℕ) : Type 0 where
    pub text : List ℕ
    pub line : Line
    pub has : HasLine format octets text line
    pub keeps : check line ≡ None
    pub short : length octets < length text + line.size + 2

  -- no record is whole, and one may come
  abbrev pub IsUnfinished : List ℕ → Type 0
  IsUnfinished octets = IsUnfinishedLine octets ⊎ IsUnfinishedRecord octets

-- ---- the message of a record

-- the octets are not one request, all of them
abbrev pub IsNoRequest : List ℕ → Type 0
IsNoRequest octets = (request : Message RequestHead) → ¬ (IsWholeRequest octets RECORDED request)

-- the octets are one request, and it has no target
pub record LacksTarget (octets : List ℕ) : Type 0 where
  pub request : Message RequestHead
  pub whole : IsWholeRequest octets RECORDED request
  pub none : (target : Target) → ¬ (HasTarget request.head target)

-- the octets are not one response, all of them, to a HEAD request or another
abbrev pub IsNoResponse : Bool → List ℕ → Type 0
IsNoResponse to_head octets = (response : Message ResponseHead) → ¬ (IsWholeResponse to_head octets RECORDED response)

-- the octets are one response, and it isn't final (RFC 9110 section 15.2)
pub record IsInterim (to_head : Bool) (octets : List ℕ) : Type 0 where
  pub response : Message ResponseHead
  pub whole : IsWholeResponse to_head octets RECORDED response
  pub low : response.head.status < 200

-- the octets are no message of a record of that kind
abbrev pub IsNoMessage : Kind → Bool → List ℕ → Type 0
IsNoMessage kind.ClientRequest to_head octets = IsNoRequest octets ⊎ LacksTarget octets
IsNoMessage kind.OriginRequest to_head octets = IsNoRequest octets ⊎ LacksTarget octets
IsNoMessage kind.OriginResponse to_head octets = IsNoResponse to_head octets ⊎ IsInterim to_head octets
IsNoMessage kind.OriginFailure to_head octets = ⊥
IsNoMessage kind.ClientReply to_head octets = IsNoResponse to_head octets ⊎ IsInterim to_head octets

-- a record stands there after the history, whose octets are no message of its kind
pub record HasNoMessage (format : Format) (h : List Item) (octets : List ℕ) : Type 0 where
  pub line : Line
  pub message : List ℕ
  pub len : ℕ
  pub framed : IsFramed format (line_fault h) octets line message len
  pub none : IsNoMessage line.kind (is_to_head line.kind line.number h) message

-- ---- the rest behind the records of a history

-- where a fault of the next record stands, in the order of the checks
abbrev pub BreaksRecord : Format → RecordFault → List Item → List ℕ → Type 0
BreaksRecord format fault.Message h octets = HasNoMessage format h octets
BreaksRecord format f h octets = BreaksLine format (line_fault h) f octets

-- behind these items a record breaks the octets by that fault, whatever follows
pub record BreaksAfter (format : Format) (octets : List ℕ) (h : List Item) (f : RecordFault) : Type 0 where
  pub records : List Record
  pub rest : List ℕ
  pub splits : Splits format octets records h rest
  pub breaks : BreaksRecord format f h rest

-- behind these items the octets end inside a record
pub record IsTornAfter (format : Format) (octets : List ℕ) (h : List Item) : Type 0 where
  pub records : List Record
  pub rest : List ℕ
  pub splits : Splits format octets records h rest
  pub some : rest ≢ []
  pub torn : IsUnfinished format (line_fault h) rest

-- behind these items the octets are malformed by that fault
abbrev pub IsMalformedAfter : Format → List ℕ → List Item → RecordFault → Type 0
IsMalformedAfter format octets h f = BreaksAfter format octets h f ⊎ ((f ≡ fault.Torn) × IsTornAfter format octets h)
