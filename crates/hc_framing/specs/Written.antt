-- Which messages are read as themselves once they are written.
use Rattle.std.specs.Prelude.{◌≡◌, ℕ, ◌≤◌, Bool, IsTrue, List, [], length}
use Rattle.hc_head.specs.declared.head.RequestHead.{RequestHead}
use Rattle.hc_head.specs.declared.head.ResponseHead.{ResponseHead}
use Rattle.hc_head.specs.declared.head.Room.{Room}
use Rattle.hc_head.specs.Writable.{IsWritableRequest, IsWritableResponse}
use Rattle.hc_framing.specs.declared.message.Message.{Message}
use Rattle.hc_framing.specs.declared.kind.Kind.TheVariants.{Request, Response}
use Rattle.hc_head.specs.Writable.{longest_body}
use Rattle.hc_framing.specs.Framing.{ends_with_head}
use Rattle.hc_framing.specs.Messages.{request_form, response_form}
use Rattle.hc_framing.specs.Reader.{BeginsIn}

-- the head is writable in the room, and the body is no longer than a body may be
pub record IsReadableRequest (message : Message RequestHead) (room : Room) : Type 0 where
  pub head : IsWritableRequest message.head room
  pub short : length message.body ≤ longest_body

-- likewise, and a response that ends with its head has no body
pub record IsReadableResponse (to_head : Bool) (message : Message ResponseHead) (room : Room) : Type 0 where
  pub head : IsWritableResponse message.head room
  pub short : length message.body ≤ longest_body
  pub bare : IsTrue (ends_with_head to_head message.head.status) → message.body ≡ []

-- the octets begin with the request, which takes len of them, and its head keeps to the room
abbrev pub BeginsRequestIn : List ℕ → Room → Message RequestHead → ℕ → Type 0
BeginsRequestIn = BeginsIn request_form Request

-- the octets begin with the response, to a HEAD request or another, and its head keeps to the room
abbrev pub BeginsResponseIn : Bool → List ℕ → Room → Message ResponseHead → ℕ → Type 0
BeginsResponseIn to_head = BeginsIn response_form (Response to_head)
