use Rattle.std.proofs.Common.{◌∙◌, subst, sym}
use Rattle.hc_head.specs.declared.head.RequestHead.{RequestHead}
use Rattle.hc_head.specs.Targets.{HasTarget}
use Rattle.hc_framing.specs.declared.message.Message.{Message}
use Rattle.hc_framing.specs.Places.{request_at}
use Rattle.hc_transcript.proofs.ReadingLemmas.{no_request, no_target}
use Rattle.hc_transcript.proofs.places.RecordPlaces.find_request.Goals as goal

pub returns-in_err-find_request : goal.returns-in_err-find_request
returns-in_err-find_request c = no_request c.args.octets.now _ c.from_residual.result _ _ c.from_residual.ensures.1 c.in_err-find_request.ensures.found

pub returns-in_err-read_target : goal.returns-in_err-read_target
returns-in_err-read_target c =
    let request = request_at c.find_request.new.self c.args.octets.now in
    no_target c.args.octets.now request _ c.from_residual-in_err-read_target.result c.read_target.new.target c.from_residual-in_err-read_target.ensures.1
    c.in_ok-find_request.ensures.gives
    (λ t has. c.in_err-read_target.ensures.found t (subst (λ (m : Message RequestHead). HasTarget m.head t) (sym c.request-request.ensures ∙ sym c.request.view_is) has))
