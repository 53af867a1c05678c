-- What the windows hold.
use Rattle.std.specs.Prelude.{ℕ, Bool, ◌&&◌, List, filter, map}
use Rattle.hc_head.specs.declared.head.ResponseHead.{ResponseHead}
use Rattle.hc_framing.specs.declared.message.Message.{Message}
use Rattle.hc_transcript.specs.declared.line.ToldCause.{ToldCause}
use Rattle.hc_transcript.specs.Items.{Forward}
use Rattle.hc_history.specs.Windows.{may_be_for}
use Rattle.hc_history.specs.Claims.{Claim}
use Rattle.hc_history.specs.Forwarded.{carries}
use Rattle.hc_history.specs.Seen.{WindowResponse}
use Rattle.hc_index.specs.declared.kept.WindowAnswer.{WindowAnswer}

-- a response to a forward, and what is told of the forward's cause
pub record ToldResponse : Type 0 where
  pub cause : ToldCause
  pub response : WindowResponse

abbrev pub told_seen : WindowAnswer → ToldResponse
told_seen answer = record { cause = answer.cause; response = record { method = answer.method; status = answer.status; body = answer.body } }

-- the response to a forward of that cause, as a window holds it
abbrev pub answer_to : Forward → ToldCause → Message ResponseHead → ToldResponse
answer_to forward cause response =
    record { cause = cause; response = record { method = forward.request.method; status = response.head.status; body = response.body } }

-- the responses that may be for an exchange
abbrev pub those_for : ℕ → List ToldResponse → List WindowResponse
those_for e responses = map (λ one. one.response) (filter (λ one. may_be_for one.cause e) responses)

-- whether a response may be for the exchange of a reply, and the reply carries it
abbrev pub carries_told : Claim → ToldResponse → Bool
carries_told claim one = may_be_for one.cause claim.exchange && carries claim one.response.method one.response.status one.response.body
