use Rattle.hc_framing.specs.declared.kind.Kind.TheVariants.{Request}
use Rattle.hc_framing.specs.Messages.{request_form}
use Rattle.hc_framing.specs.FramingLaws.{request_laws}
use Rattle.hc_framing.proofs.ReaderLemmas.{finds_whole}
use Rattle.hc_framing.proofs.places.Places.find_request.Goals as goal

pub returns-clause-found : goal.returns-clause-found
returns-clause-found c = λ message. finds_whole request_form request_laws Request c.args.octets.now _ _ message c.find.ensures
