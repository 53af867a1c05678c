-- Which items are read back once they are written, and the records that bear them.
use Rattle.std.specs.Prelude.{◌≤◌, Bool, List}
use Rattle.hc_head.specs.declared.head.RequestHead.{RequestHead}
use Rattle.hc_head.specs.declared.head.ResponseHead.{ResponseHead}
use Rattle.hc_head.specs.declared.head.Target.{Target}
use Rattle.hc_head.specs.declared.head.TheConstants.Room.{RECORDED}
use Rattle.hc_head.specs.Targets.{HasTarget}
use Rattle.hc_framing.specs.declared.kind.Kind.TheVariants.{Response}
use Rattle.hc_framing.specs.declared.message.Message.{Message}
use Rattle.hc_framing.specs.Texts.{request_text, response_text}
use Rattle.hc_framing.specs.Written.{IsReadableRequest, IsReadableResponse}
use Rattle.hc_transcript.specs.declared.record.Passed.TheVariants as passed
use Rattle.hc_transcript.specs.declared.record.Record.{Record}
use Rattle.hc_transcript.specs.Items.{Item, ClientRequest, OriginRequest, OriginResponse, OriginFailure, ClientReply, exchange_is_head, forward_is_head}
use Rattle.hc_transcript.specs.History.{exchange_of, forward_of}

-- the record of an item that follows the history: its message as it is written
abbrev pub written_as : List Item → Item → Record
written_as h (ClientRequest n moment request target) = record { number = n; moment = moment; of = passed.ClientRequest (request_text request) }
written_as h (OriginRequest n moment request target cause) = record { number = n; moment = moment; of = passed.OriginRequest (request_text request) cause }
written_as h (OriginResponse n moment response) =
    record { number = n; moment = moment; of = passed.OriginResponse (response_text (Response (forward_is_head (forward_of n h))) response) }
written_as h (OriginFailure n moment) = record { number = n; moment = moment; of = passed.OriginFailure }
written_as h (ClientReply n moment reply) =
    record { number = n; moment = moment; of = passed.ClientReply (response_text (Response (exchange_is_head (exchange_of n h))) reply) }

-- a request that is read back once it is written, and has that target
pub record IsWritableAsk (request : Message RequestHead) (target : Target) : Type 0 where
  pub readable : IsReadableRequest request RECORDED
  pub target_is : HasTarget request.head target

-- a final response that is read back once it is written, to a HEAD request or another
pub record IsWritableAnswer (to_head : Bool) (response : Message ResponseHead) : Type 0 where
  pub readable : IsReadableResponse to_head response RECORDED
  pub is_final : 200 ≤ response.head.status

-- the message of the item is read back once it is written after the history
abbrev pub IsWritable : List Item → Item → Type 0
IsWritable h (ClientRequest n moment request target) = IsWritableAsk request target
IsWritable h (OriginRequest n moment request target cause) = IsWritableAsk request target
IsWritable h (OriginResponse n moment response) = IsWritableAnswer (forward_is_head (forward_of n h)) response
IsWritable h (OriginFailure n moment) = Unit {0}
IsWritable h (ClientReply n moment reply) = IsWritableAnswer (exchange_is_head (exchange_of n h)) reply
