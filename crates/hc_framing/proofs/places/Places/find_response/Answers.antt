use Rattle.hc_framing.specs.declared.kind.Kind.TheVariants.{Response}
use Rattle.hc_framing.specs.Messages.{response_form}
use Rattle.hc_framing.specs.FramingLaws.{response_laws}
use Rattle.hc_framing.proofs.ReaderLemmas.{finds_whole}
use Rattle.hc_framing.proofs.places.Places.find_response.Goals as goal

pub returns-clause-found : goal.returns-clause-found
returns-clause-found c = λ message. finds_whole response_form response_laws (Response c.args.to_head) c.args.octets.now _ _ message c.find.ensures
