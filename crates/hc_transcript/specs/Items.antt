-- What a record means: an item, with its message read and, for a request, its target.
use Rattle.std.specs.Prelude.{ℕ, Bool, false, Option, Some, None}
use Rattle.hc_head.specs.declared.head.RequestHead.{RequestHead}
use Rattle.hc_head.specs.declared.head.ResponseHead.{ResponseHead}
use Rattle.hc_head.specs.declared.head.Target.{Target}
use Rattle.hc_head.specs.Methods.{is_head}
use Rattle.hc_framing.specs.declared.message.Message.{Message}
use Rattle.hc_transcript.specs.declared.item.Meaning.{Meaning}
use Rattle.hc_transcript.specs.declared.item.Meaning.TheVariants as meaning
use Rattle.hc_transcript.specs.declared.view.MeaningView.{MeaningView}
use Rattle.hc_transcript.specs.declared.view.MeaningView.TheVariants as seen
use Rattle.hc_transcript.specs.declared.item.OwnedItem.{OwnedItem}
use Rattle.hc_transcript.specs.declared.line.Kind.{Kind}
use Rattle.hc_transcript.specs.declared.line.Kind.TheVariants as kind

-- Numbers are of exchanges and forwards, moments are whole seconds since 1970. The cause of a forward is the exchange that it was made for; it is none where no
-- reply waits for the forward, and in the first format.
pub data Item : Type 0 where
  ClientRequest : (number : ℕ) (moment : ℕ) (request : Message RequestHead) (target : Target) → Item
  OriginRequest : (number : ℕ) (moment : ℕ) (request : Message RequestHead) (target : Target) (cause : Option ℕ) → Item
  OriginResponse : (number : ℕ) (moment : ℕ) (response : Message ResponseHead) → Item
  OriginFailure : (number : ℕ) (moment : ℕ) → Item
  ClientReply : (number : ℕ) (moment : ℕ) (reply : Message ResponseHead) → Item

abbrev pub moment_of : Item → ℕ
moment_of (ClientRequest number moment request target) = moment
moment_of (OriginRequest number moment request target cause) = moment
moment_of (OriginResponse number moment response) = moment
moment_of (OriginFailure number moment) = moment
moment_of (ClientReply number moment reply) = moment

-- an open exchange: its number, the position of its request, the head of the request and its target
pub record Exchange : Type 0 where
  pub number : ℕ
  pub position : ℕ
  pub request : RequestHead
  pub target : Target

-- an open forward: its moment, the head of its request and its target
pub record Forward : Type 0 where
  pub moment : ℕ
  pub request : RequestHead
  pub target : Target

-- whether what answers the exchange, or the forward, answers HEAD, and so has no body (RFC 9110 section 9.3.2)
abbrev pub exchange_is_head : Option Exchange → Bool
exchange_is_head None = false
exchange_is_head (Some exchange) = is_head exchange.request.method

abbrev pub forward_is_head : Option Forward → Bool
forward_is_head None = false
forward_is_head (Some forward) = is_head forward.request.method

-- what a meaning is under a number, at a moment
abbrev pub item_with : ℕ → ℕ → Meaning → Item
item_with number moment (meaning.ClientRequest request target) = ClientRequest number moment request target
item_with number moment (meaning.OriginRequest request target cause) = OriginRequest number moment request target cause
item_with number moment (meaning.OriginResponse response) = OriginResponse number moment response
item_with number moment meaning.OriginFailure = OriginFailure number moment
item_with number moment (meaning.ClientReply reply) = ClientReply number moment reply

-- what an item that is held means
abbrev pub item_of : OwnedItem → Item
item_of item = item_with item.number item.moment item.of

-- what a meaning that is lent is under a number, at a moment
abbrev pub item_seen : ℕ → ℕ → MeaningView → Item
item_seen number moment (seen.ClientRequest request target) = ClientRequest number moment request target.now
item_seen number moment (seen.OriginRequest request target cause) = OriginRequest number moment request target.now cause
item_seen number moment (seen.OriginResponse response) = OriginResponse number moment response
item_seen number moment seen.OriginFailure = OriginFailure number moment
item_seen number moment (seen.ClientReply reply) = ClientReply number moment reply

-- the kind of the record that bears the item, and the number that it has
abbrev pub item_kind : Item → Kind
item_kind (ClientRequest number moment request target) = kind.ClientRequest
item_kind (OriginRequest number moment request target cause) = kind.OriginRequest
item_kind (OriginResponse number moment response) = kind.OriginResponse
item_kind (OriginFailure number moment) = kind.OriginFailure
item_kind (ClientReply number moment reply) = kind.ClientReply

abbrev pub item_number : Item → ℕ
item_number (ClientRequest number moment request target) = number
item_number (OriginRequest number moment request target cause) = number
item_number (OriginResponse number moment response) = number
item_number (OriginFailure number moment) = number
item_number (ClientReply number moment reply) = number
