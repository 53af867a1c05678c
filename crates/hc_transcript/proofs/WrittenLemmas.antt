-- A written record is read as it was written.
use Rattle.std.proofs.Common.{◌≡◌, ℕ, Bool, List, [], ◌∷◌, ◌++◌, length, drop, Some, None, refl, ap, subst, arith, append-nil, length-drop}
use Rattle.hc_head.specs.declared.head.RequestHead.{RequestHead}
use Rattle.hc_head.specs.declared.head.ResponseHead.{ResponseHead}
use Rattle.hc_head.specs.declared.head.Room.{Room}
use Rattle.hc_head.specs.declared.head.Target.{Target}
use Rattle.hc_head.specs.declared.head.TheConstants.Room.{RECORDED}
use Rattle.hc_framing.specs.declared.kind.Kind.{Kind}
use Rattle.hc_framing.specs.declared.kind.Kind.TheVariants.{Request, Response}
use Rattle.hc_framing.specs.declared.message.Message.{Message}
use Rattle.hc_framing.specs.Forms.{Form}
use Rattle.hc_framing.specs.Faults.{IsWholeIn, IsWholeRequest, IsWholeResponse}
use Rattle.hc_framing.specs.Messages.{request_form, response_form}
use Rattle.hc_framing.specs.Reader.{BeginsIn}
use Rattle.hc_framing.specs.Texts.{request_text, response_text}
use Rattle.hc_framing.specs.Written.{IsReadableRequest, IsReadableResponse}
use Rattle.hc_framing.proofs.BodyLemmas.{whole_body}
use Rattle.hc_framing.proofs.TextLemmas.{request_begins, response_begins}
use Rattle.hc_transcript.specs.declared.format.Format.{Format}
use Rattle.hc_transcript.specs.declared.format.Format.TheVariants as form
use Rattle.hc_transcript.specs.declared.record.Record.{Record}
use Rattle.hc_transcript.specs.Records.{CanTell, line_of, record_text}
use Rattle.hc_transcript.specs.Items.{Item, ClientRequest, OriginRequest, OriginResponse, OriginFailure, ClientReply, exchange_is_head, forward_is_head}
use Rattle.hc_transcript.specs.History.{exchange_of, forward_of}
use Rattle.hc_transcript.specs.Checks.{line_fault}
use Rattle.hc_transcript.specs.Transcript.{ReadsRequest, ReadsResponse, IsReadAs, IsTranscript}
use Rattle.hc_transcript.specs.Written.{IsWritableAsk, IsWritableAnswer, IsWritable, written_as}
use Rattle.hc_transcript.proofs.OnceLemmas.{one_more}

module _ {H : Type 0} (form : Form H) where
  -- a message that takes all of the octets that it begins is whole
  whole_there : (kind : Kind) (octets : List ℕ) (room : Room) (message : Message H) → BeginsIn form kind octets room message (length octets)
      → IsWholeIn form kind octets room message
  whole_there kind octets room message b =
      let m = b.begins in
      record {
        is = record {
          head = m.head;
          head_len = m.head_len;
          begins = m.begins;
          frame = m.frame;
          framed = m.framed;
          body = whole_body m.frame (drop m.head_len octets) message.body m.body_len (omega (arith, m.len_is, length-drop m.head_len octets)) m.body;
          head_is = m.head_is;
        };
        octets_fit = b.octets_fit;
        fields_fit = b.fields_fit;
      }

request_whole : (request : Message RequestHead) → IsReadableRequest request RECORDED → IsWholeRequest (request_text request) RECORDED request
request_whole request readable =
    let octets = request_text request in
    whole_there request_form Request octets RECORDED request
    (subst (λ (o : List ℕ). BeginsIn request_form Request o RECORDED request (length octets)) (append-nil octets)
    (request_begins request RECORDED readable []))

response_whole : (to_head : Bool) (response : Message ResponseHead) → IsReadableResponse to_head response RECORDED
    → IsWholeResponse to_head (response_text (Response to_head) response) RECORDED response
response_whole to_head response readable =
    let octets = response_text (Response to_head) response in
    whole_there response_form (Response to_head) octets RECORDED response
    (subst (λ (o : List ℕ). BeginsIn response_form (Response to_head) o RECORDED response (length octets)) (append-nil octets)
    (response_begins to_head response RECORDED readable []))

reads_request : (request : Message RequestHead) (target : Target) → IsWritableAsk request target → ReadsRequest (request_text request) request target
reads_request request target w = record { whole = request_whole request w.readable; target_is = w.target_is }

reads_response : (to_head : Bool) (response : Message ResponseHead) → IsWritableAnswer to_head response → ReadsResponse to_head (response_text (Response to_head) response) response
reads_response to_head response w = record { whole = response_whole to_head response w.readable; is_final = w.is_final }

-- the message of an item is read back as it
reads_item : (format : Format) (h : List Item) (item : Item) → IsWritable h item → CanTell format (written_as h item) → IsReadAs format h (written_as h item) item
reads_item format h (ClientRequest n moment request target) w can = (request, target, reads_request request target w, refl)
reads_item form.First h (OriginRequest n moment request target cause) w can = (request, target, reads_request request target w, ap (OriginRequest n moment request target) can)
reads_item form.Second h (OriginRequest n moment request target (Some e)) w can = (request, target, reads_request request target w, refl)
reads_item form.Second h (OriginRequest n moment request target None) w can = (request, target, reads_request request target w, refl)
reads_item format h (OriginResponse n moment response) w can = (response, reads_response (forward_is_head (forward_of n h)) response w, refl)
reads_item format h (OriginFailure n moment) w can = refl
reads_item format h (ClientReply n moment reply) w can = (reply, reads_response (exchange_is_head (exchange_of n h)) reply w, refl)

pub read_back : (format : Format) (octets : List ℕ) (records : List Record) (h : List Item) (item : Item) → IsTranscript format octets records h → IsWritable h item
    → CanTell format (written_as h item) → line_fault h (line_of format (written_as h item)) ≡ None
    → IsTranscript format (octets ++ record_text format (written_as h item)) (written_as h item ∷ records) (item ∷ h)
read_back format octets records h item t w can keeps =
    one_more format octets records h (written_as h item) item t (record { told = can; keeps = keeps; reads = reads_item format h item w can })
