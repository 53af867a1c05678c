use Rattle.hc_transcript.proofs.ReadingLemmas.{no_response}
use Rattle.hc_transcript.proofs.places.RecordPlaces.find_response.Goals as goal

pub returns-in_err-find_response : goal.returns-in_err-find_response
returns-in_err-find_response c = no_response c.args.to_head c.args.octets.now _ c.from_residual.result _ c.from_residual.ensures.1 c.in_err-find_response.ensures.found
