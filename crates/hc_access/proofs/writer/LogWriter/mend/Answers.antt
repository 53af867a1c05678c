use Rattle.hc_access.proofs.LogLemmas.{mends}
use Rattle.hc_access.proofs.writer.LogWriter.mend.Goals as goal

pub returns-then-self-clause-mended : goal.returns-then-self-clause-mended
returns-then-self-clause-mended g c = mends _ _ c.put.result.now c.put.ensures
