use Rattle.hc_framing.specs.declared.kind.Kind.TheVariants.{Response}
use Rattle.hc_framing.specs.Messages.{response_form}
use Rattle.hc_framing.specs.FramingLaws.{response_laws}
use Rattle.hc_framing.proofs.ReaderLemmas.{one_whole}
use Rattle.hc_framing.proofs.whole.one_whole_response.Goals as goal

pub returns : goal.returns
returns c = λ to_head. one_whole response_form response_laws (Response to_head)
