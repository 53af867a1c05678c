-- Messages whose parts lie in octets that somebody else keeps.
use Rattle.std.specs.Prelude.{ℕ, List}
use Rattle.std.specs.List.{flat_map}
use Rattle.hc_head.specs.declared.head.RequestHead.{RequestHead}
use Rattle.hc_head.specs.declared.head.ResponseHead.{ResponseHead}
use Rattle.hc_head.specs.declared.places.HeadPlaces.{HeadPlaces}
use Rattle.hc_head.specs.Places.{request_at as request_head_at, response_at as response_head_at}
use Rattle.hc_framing.specs.declared.message.Message.{Message}
use Rattle.hc_framing.specs.declared.places.Places.{Places}
use Rattle.hc_framing.specs.Pieces.{piece_at}

-- the message that stands there in the octets, where heads stand so
abbrev pub message_at : {H : Type 0} → (HeadPlaces → List ℕ → H) → Places → List ℕ → Message H
message_at head_at p octets = record { head = head_at p.head octets; body = flat_map (piece_at octets) p.pieces.items }

-- the request, or the response, that stands there
abbrev pub request_at : Places → List ℕ → Message RequestHead
request_at = message_at request_head_at

abbrev pub response_at : Places → List ℕ → Message ResponseHead
response_at = message_at response_head_at
