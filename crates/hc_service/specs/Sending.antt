-- What a cache does: its actions, and the records among them. What is recorded is sent octet by octet.
use Rattle.std.specs.Prelude.{ℕ, Bool, false, List, [], ◌∷◌, Option, if◌then◌else◌}
use Rattle.hc_head.specs.declared.head.RequestHead.{RequestHead}
use Rattle.hc_head.specs.declared.head.ResponseHead.{ResponseHead}
use Rattle.hc_framing.specs.declared.message.Message.{Message}
use Rattle.hc_framing.specs.declared.kind.Kind.TheVariants.{Response}
use Rattle.hc_framing.specs.Texts.{request_text, response_text}
use Rattle.hc_transcript.specs.declared.format.Format.{Format}
use Rattle.hc_transcript.specs.declared.format.Format.TheVariants.{Second}
use Rattle.hc_transcript.specs.declared.record.Record.{Record}
use Rattle.hc_transcript.specs.declared.record.Passed.TheVariants as passed
use Rattle.hc_service.specs.declared.action.Action.{Action}
use Rattle.hc_service.specs.declared.action.Action.TheVariants as action

-- ---- records: of a request, of what went to the origin, of what the origin answered, of its failure, of a reply

-- the format in which the cache records itself: of each forward it tells the cause
abbrev pub recorded_format : Format
recorded_format = Second

abbrev pub request_record : ℕ → ℕ → Message RequestHead → Record
request_record exchange moment request = record { number = exchange; moment = moment; of = passed.ClientRequest (request_text request) }

-- by the exchange that the forward is made for, if it is for one
abbrev pub forward_record : ℕ → ℕ → Option ℕ → Message RequestHead → Record
forward_record forward moment cause request =
    record { number = forward; moment = moment; of = passed.OriginRequest (request_text request) cause }

abbrev pub response_record : ℕ → ℕ → Bool → Message ResponseHead → Record
response_record forward moment to_head response =
    record { number = forward; moment = moment; of = passed.OriginResponse (response_text (Response to_head) response) }

abbrev pub failure_record : ℕ → ℕ → Record
failure_record forward moment = record { number = forward; moment = moment; of = passed.OriginFailure }

abbrev pub reply_record : ℕ → ℕ → Bool → Message ResponseHead → Record
reply_record exchange moment to_head reply =
    record { number = exchange; moment = moment; of = passed.ClientReply (response_text (Response to_head) reply) }

-- ---- actions

-- a client's request is recorded
abbrev pub ask_actions : ℕ → ℕ → Message RequestHead → List Action
ask_actions exchange moment request = action.Record (request_record exchange moment request) ∷ []

-- a request goes to the origin, for an exchange or for none
abbrev pub send_actions : ℕ → ℕ → Option ℕ → Message RequestHead → List Action
send_actions forward moment cause request =
    action.Record (forward_record forward moment cause request) ∷ action.Forward forward (request_text request) ∷ []

-- the connection closes, where it does
abbrev pub close_actions : ℕ → Bool → List Action
close_actions connection closes = if closes then action.CloseClient connection ∷ [] else []

-- a reply goes to the client of a connection, which may close behind it
abbrev pub reply_actions : ℕ → ℕ → Bool → ℕ → Bool → Message ResponseHead → List Action
reply_actions exchange moment to_head connection closes reply =
    action.Record (reply_record exchange moment to_head reply)
    ∷ action.ToClient connection (response_text (Response to_head) reply)
    ∷ close_actions connection closes

-- the origin has answered
abbrev pub response_actions : ℕ → ℕ → Bool → Message ResponseHead → List Action
response_actions forward moment to_head response =
    action.Record (response_record forward moment to_head response) ∷ action.CloseForward forward ∷ []

-- the origin gave no answer; a forward that broke by itself needs no closing
abbrev pub failure_actions : ℕ → ℕ → Bool → List Action
failure_actions forward moment closes =
    action.Record (failure_record forward moment) ∷ (if closes then action.CloseForward forward ∷ [] else [])

-- what can't be read as a request is refused: with a reply without a record, behind which the connection closes
abbrev pub refusal_actions : ℕ → Message ResponseHead → List Action
refusal_actions connection reply =
    action.ToClient connection (response_text (Response false) reply) ∷ action.CloseClient connection ∷ []

-- ---- the records among actions, the oldest first, as they are given out
abbrev pub records_of : List Action → List Record
records_of [] = []
records_of (action.Record r ∷ actions) = r ∷ records_of actions
records_of (action.ToClient connection octets ∷ actions) = records_of actions
records_of (action.CloseClient connection ∷ actions) = records_of actions
records_of (action.Forward forward octets ∷ actions) = records_of actions
records_of (action.CloseForward forward ∷ actions) = records_of actions
