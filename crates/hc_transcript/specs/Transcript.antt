-- A transcript: an opening, and records each of which keeps to the format after those before it.
use Rattle.std.specs.Prelude.{◌≡◌, ℕ, ◌≤◌, Bool, false, List, [], ◌∷◌, ◌++◌, None}
use Rattle.hc_head.specs.declared.head.RequestHead.{RequestHead}
use Rattle.hc_head.specs.declared.head.ResponseHead.{ResponseHead}
use Rattle.hc_head.specs.declared.head.Target.{Target}
use Rattle.hc_head.specs.declared.head.TheConstants.Room.{RECORDED}
use Rattle.hc_head.specs.Targets.{HasTarget}
use Rattle.hc_framing.specs.declared.message.Message.{Message}
use Rattle.hc_framing.specs.Faults.{IsWholeRequest, IsWholeResponse}
use Rattle.hc_transcript.specs.declared.format.Format.{Format}
use Rattle.hc_transcript.specs.declared.record.Record.{Record}
use Rattle.hc_transcript.specs.declared.line.Kind.{Kind}
use Rattle.hc_transcript.specs.declared.line.Kind.TheVariants as kind
use Rattle.hc_transcript.specs.declared.line.ToldCause.{ToldCause}
use Rattle.hc_transcript.specs.Records.{exchange_told, line_of, message_of, records_text, opening, CanTell}
use Rattle.hc_transcript.specs.Items.{Item, ClientRequest, OriginRequest, OriginResponse, OriginFailure, ClientReply, exchange_is_head, forward_is_head}
use Rattle.hc_transcript.specs.History.{exchange_of, forward_of}
use Rattle.hc_transcript.specs.Checks.{line_fault}

-- the octets are one request, with a target
pub record ReadsRequest (octets : List ℕ) (request : Message RequestHead) (target : Target) : Type 0 where
  pub whole : IsWholeRequest octets RECORDED request
  pub target_is : HasTarget request.head target

-- the octets are one final response, to a HEAD request or another
pub record ReadsResponse (to_head : Bool) (octets : List ℕ) (response : Message ResponseHead) : Type 0 where
  pub whole : IsWholeResponse to_head octets RECORDED response
  pub is_final : 200 ≤ response.head.status

-- what octets of a kind, behind a line that tells such a cause, are read as
abbrev pub IsItemOf : Kind → ToldCause → ℕ → ℕ → Bool → List ℕ → Item → Type 0
IsItemOf kind.ClientRequest cause number moment to_head octets item =
    (request : Message RequestHead) × (target : Target) × ReadsRequest octets request target × (item ≡ ClientRequest number moment request target)
IsItemOf kind.OriginRequest cause number moment to_head octets item =
    (request : Message RequestHead) × (target : Target) × ReadsRequest octets request target × (item ≡ OriginRequest number moment request target (exchange_told cause))
IsItemOf kind.OriginResponse cause number moment to_head octets item =
    (response : Message ResponseHead) × ReadsResponse to_head octets response × (item ≡ OriginResponse number moment response)
IsItemOf kind.OriginFailure cause number moment to_head octets item = item ≡ OriginFailure number moment
IsItemOf kind.ClientReply cause number moment to_head octets item =
    (reply : Message ResponseHead) × ReadsResponse to_head octets reply × (item ≡ ClientReply number moment reply)

-- whether what such a record bears answers HEAD, by what is open after a history
abbrev pub is_to_head : Kind → ℕ → List Item → Bool
is_to_head kind.OriginResponse number h = forward_is_head (forward_of number h)
is_to_head kind.ClientReply number h = exchange_is_head (exchange_of number h)
is_to_head other number h = false

module _ (format : Format) where
  -- how a record is read after a history
  abbrev pub IsReadAs : List Item → Record → Item → Type 0
  IsReadAs h r item =
      let l = line_of format r in IsItemOf l.kind l.cause l.number l.moment (is_to_head l.kind l.number h) (message_of r) item

  -- the record keeps to the format after the history, and is read as the item
  pub record Follows (h : List Item) (r : Record) (item : Item) : Type 0 where
    pub told : CanTell format r
    pub keeps : line_fault h (line_of format r) ≡ None
    pub reads : IsReadAs h r item

  -- the records, the newest first, each after those before it, are read as the items
  abbrev pub AreReadAs : List Record → List Item → Type 0
  AreReadAs [] [] = Unit {0}
  AreReadAs [] (item ∷ h) = ⊥
  AreReadAs (r ∷ records) [] = ⊥
  AreReadAs (r ∷ records) (item ∷ h) = AreReadAs records h × Follows h r item

  -- the octets are the opening of the format, the records, and a rest
  pub record Splits (octets : List ℕ) (records : List Record) (h : List Item) (rest : List ℕ) : Type 0 where
    pub octets_are : octets ≡ opening format ++ (records_text format records ++ rest)
    pub are_read : AreReadAs records h

  -- the octets are a transcript: the opening of the format and the records, which are read as the items
  abbrev pub IsTranscript : List ℕ → List Record → List Item → Type 0
  IsTranscript octets records h = Splits octets records h []

  -- a reading of octets goes on from another one by more records
  pub record GoesOn (records : List Record) (h : List Item) (rest : List ℕ) (others : List Record) (g : List Item) (behind : List ℕ) : Type 0 where
    pub more : List Record
    pub items : List Item
    pub records_are : others ≡ more ++ records
    pub items_are : g ≡ items ++ h
    pub rest_is : rest ≡ records_text format more ++ behind
