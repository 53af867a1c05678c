use Rattle.hc_head.specs.declared.head.TheConstants.Room.{RECEIVED}
use Rattle.hc_framing.specs.declared.kind.Kind.TheVariants.{Request}
use Rattle.hc_incoming.proofs.RequestLemmas.{went_on, has_met, has_ended}
use Rattle.hc_framing.specs.FramingLaws.{request_laws}
use Rattle.hc_framing.specs.Messages.{request_form}
use Rattle.hc_incoming.proofs.BeginningLemmas.{takes_of_piece}
use Rattle.hc_incoming.proofs.RequestLaws.{finds_request}
use Rattle.hc_incoming.proofs.requests.RequestReader.next.Goals as goal

pub returns-in-Err-clause-gives : goal.returns-in-Err-clause-gives
returns-in-Err-clause-gives c = λ octets a.
    c.refuse.ensures.gives octets (has_met c.args.self.now c.feed.new.self c.in-Err.fault c.as_slice.result.now octets a c.as_slice.ensures c.in-Err.ensures.keeps
    (c.in-Err.ensures.gives Request RECEIVED a.read a.reads) (c.in-Err.ensures.head Request RECEIVED a.read a.reads))

pub returns-in-Ok-More-clause-gives : goal.returns-in-Ok-More-clause-gives
returns-in-Ok-More-clause-gives c = λ octets a.
    c.go_on.ensures.gives octets (went_on c.args.self.now c.feed.new.self c.as_slice.result.now octets a c.as_slice.ensures c.in-Ok-More.ensures.keeps
    (rw c.in-Ok-More.field-0-is at (c.in-Ok-More.ensures.gives Request RECEIVED a.read a.reads)))

pub returns-in-Ok-Whole-clause-gives : goal.returns-in-Ok-Whole-clause-gives
returns-in-Ok-Whole-clause-gives c = λ octets a.
    c.take_request.ensures.gives octets (has_ended c.args.self.now c.feed.new.self c.in-Ok-Whole.used c.as_slice.result.now octets a c.as_slice.ensures c.in-Ok-Whole.ensures.keeps
    (rw c.in-Ok-Whole.field-0-is at (c.in-Ok-Whole.ensures.gives Request RECEIVED a.read a.reads)))

pub returns-in-Err-clause-found : goal.returns-in-Err-clause-found
returns-in-Err-clause-found c = λ octets message target len a request.
    finds_request c.refuse.result c.refuse.new.self octets message target len (c.refuse.ensures.gives octets (has_met c.args.self.now c.feed.new.self c.in-Err.fault c.as_slice.result.now octets a c.as_slice.ensures c.in-Err.ensures.keeps
    (c.in-Err.ensures.gives Request RECEIVED a.read a.reads) (c.in-Err.ensures.head Request RECEIVED a.read a.reads))) request

pub returns-in-Ok-More-clause-found : goal.returns-in-Ok-More-clause-found
returns-in-Ok-More-clause-found c = λ octets message target len a request.
    finds_request c.go_on.result c.go_on.new.self octets message target len (c.go_on.ensures.gives octets (went_on c.args.self.now c.feed.new.self c.as_slice.result.now octets a c.as_slice.ensures c.in-Ok-More.ensures.keeps
    (rw c.in-Ok-More.field-0-is at (c.in-Ok-More.ensures.gives Request RECEIVED a.read a.reads)))) request

pub returns-in-Ok-Whole-clause-found : goal.returns-in-Ok-Whole-clause-found
returns-in-Ok-Whole-clause-found c = λ octets message target len a request.
    finds_request c.take_request.result c.take_request.new.self octets message target len (c.take_request.ensures.gives octets (has_ended c.args.self.now c.feed.new.self c.in-Ok-Whole.used c.as_slice.result.now octets a c.as_slice.ensures c.in-Ok-Whole.ensures.keeps
    (rw c.in-Ok-Whole.field-0-is at (c.in-Ok-Whole.ensures.gives Request RECEIVED a.read a.reads)))) request

pub take_request-requires-clause-some : goal.take_request-requires-clause-some
take_request-requires-clause-some c =
    (takes_of_piece request_form request_laws c.args.self.now.reader c.feed.new.self c.as_slice.result.now c.in-Ok-Whole.used c.requires
    (λ kind room octets agrees. rw c.in-Ok-Whole.field-0-is at (c.in-Ok-Whole.ensures.gives kind room octets agrees)) (λ failed. rw c.in-Ok-Whole.field-0-is at (c.in-Ok-Whole.ensures.failed failed))).0
