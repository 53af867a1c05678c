-- Whether a reply is what the origin answered in its window.
use Rattle.std.specs.Prelude.{ℕ, Bool, false, ◌&&◌, ◌||◌, ◌==◌, List, Option, Some, None, bytes_eq}
use Rattle.hc_head.specs.declared.head.ResponseHead.{ResponseHead}
use Rattle.hc_head.specs.Methods.{is_get}
use Rattle.hc_head.specs.Targets.{same_target}
use Rattle.hc_framing.specs.declared.message.Message.{Message}
use Rattle.hc_transcript.specs.Records.{told_in}
use Rattle.hc_transcript.specs.Items.{Item, OriginResponse, Forward}
use Rattle.hc_transcript.specs.History.{forward_of, cause_of}
use Rattle.hc_history.specs.Claims.{Claim, asks_head}
use Rattle.hc_history.specs.Windows.{some_since, may_be_for}
use Rattle.hc_history.specs.Filters.{has_body}
use Rattle.hc_history.specs.Ranges.{is_part, is_no_part}

-- whether a forward of that method asks what the request asks: by its method, or by GET for HEAD (RFC 9110 section 9.3.2)
abbrev pub asks_the_same : Claim → List ℕ → Bool
asks_the_same claim method = bytes_eq method claim.request.method || (asks_head claim && is_get method)

-- whether the reply has that status and that body, which is the strict rule
abbrev pub carries_whole : Claim → ℕ → List ℕ → Bool
carries_whole claim status body = claim.reply.head.status == status && has_body claim body

-- or is a part of it, or says that there is no such part, where ranges are allowed
abbrev pub carries_part : Claim → ℕ → List ℕ → Bool
carries_part claim status body = is_part claim status body || is_no_part claim status body

-- whether a response of that status and that body, to that method, is what the reply carries
abbrev pub carries : Claim → List ℕ → ℕ → List ℕ → Bool
carries claim method status body = asks_the_same claim method && (carries_whole claim status body || carries_part claim status body)

-- whether a response to an open forward of the target is
abbrev pub carries_response : Claim → Option Forward → Message ResponseHead → Bool
carries_response claim None response = false
carries_response claim (Some forward) response =
    same_target forward.target claim.target && carries claim forward.request.method response.head.status response.body

-- whether the next item is a response that the reply carries, to a forward that was made for its exchange, as far as that is told
abbrev pub is_carried : Claim → List Item → Item → Bool
is_carried claim h (OriginResponse number moment response) =
    may_be_for (told_in claim.format (cause_of number h)) claim.exchange && carries_response claim (forward_of number h) response
is_carried claim h item = false

-- whether such a response stands in the window
abbrev pub is_forwarded : Claim → List Item → Bool
is_forwarded claim h = some_since (is_carried claim) claim.since h
