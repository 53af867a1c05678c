use Rattle.hc_framing.specs.declared.kind.Kind.TheVariants.{Request}
use Rattle.hc_framing.specs.Messages.{request_form}
use Rattle.hc_framing.specs.FramingLaws.{request_laws}
use Rattle.hc_framing.proofs.ReaderLemmas.{message_unique}
use Rattle.hc_framing.proofs.whole.one_request.Goals as goal

pub returns : goal.returns
returns c = message_unique request_form request_laws Request
