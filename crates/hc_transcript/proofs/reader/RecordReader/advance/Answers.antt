use Rattle.hc_transcript.proofs.ReaderLemmas.{given_up}
use Rattle.hc_transcript.proofs.reader.RecordReader.advance.Goals as goal

pub returns-in-Err-clause-gives : goal.returns-in-Err-clause-gives
returns-in-Err-clause-gives c = λ octets records h agrees other.
    c.in-Err.ensures.gives octets records h
    (given_up c.args.self.now c.give_up.new.self octets records h agrees c.give_up.ensures.held c.give_up.ensures.none c.give_up.ensures.stay) other
