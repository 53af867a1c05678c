-- The text of a message as it is written: its head, with the length of its body where that is told, and its body.
use Rattle.std.specs.Prelude.{ℕ, Bool, ◌||◌, not, ◌==◌, List, length, ◌++◌, Option, Some, None, if◌then◌else◌}
use Rattle.hc_head.specs.declared.head.RequestHead.{RequestHead}
use Rattle.hc_head.specs.declared.head.ResponseHead.{ResponseHead}
use Rattle.hc_head.specs.Methods.{is_unsafe}
use Rattle.hc_head.specs.Texts.{request_head_text, response_head_text}
use Rattle.hc_framing.specs.declared.message.Message.{Message}
use Rattle.hc_framing.specs.declared.kind.Kind.{Kind}
use Rattle.hc_framing.specs.Framing.{ends_with_head}
use Rattle.hc_framing.specs.Messages.{answers_head}

-- the length of the body, where it is told
abbrev pub told : Bool → List ℕ → Option ℕ
told test body = if test then Some (length body) else None

-- the text of a message, by the text of its head and by whether it tells the length of its body
abbrev pub message_text : {H : Type 0} → (H → Option ℕ → List ℕ) → (Kind → Message H → Bool) → Kind → Message H → List ℕ
message_text head_text length_told kind message = head_text message.head (told (length_told kind message) message.body) ++ message.body

-- ---- requests and responses

-- a request tells the length of its body where it has one, or where its method isn't safe (RFC 9110 section 8.6)
abbrev pub request_length_told : Message RequestHead → Bool
request_length_told message = not (length message.body == 0) || is_unsafe message.head.method

-- a response tells it unless it ends with its head (RFC 9112 section 6.3)
abbrev pub response_length_told : Kind → Message ResponseHead → Bool
response_length_told kind message = not (ends_with_head (answers_head kind) message.head.status)

-- the text of a request
abbrev pub request_text : Message RequestHead → List ℕ
request_text message = request_head_text message.head (told (request_length_told message) message.body) ++ message.body

-- the text of a response, to a HEAD request or another
abbrev pub response_text : Kind → Message ResponseHead → List ℕ
response_text kind message = response_head_text message.head (told (response_length_told kind message) message.body) ++ message.body
