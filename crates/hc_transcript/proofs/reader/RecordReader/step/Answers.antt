use Rattle.std.proofs.Common.{ap, arith}
use Rattle.hc_transcript.specs.Reader.{octets_held}
use Rattle.hc_transcript.proofs.ReaderLemmas.{unfinished_opening_is_short}
use Rattle.hc_transcript.proofs.reader.RecordReader.step.Goals as goal

pub returns-in-Ok-None-clause-waits : goal.returns-in-Ok-None-clause-waits
returns-in-Ok-None-clause-waits c = λ read.
    let on = rw c.in-Ok-None.field-0-is at c.in-Ok-None.ensures in
    omega (arith, ap octets_held on.0, unfinished_opening_is_short c.args.self.now.held on.1)
