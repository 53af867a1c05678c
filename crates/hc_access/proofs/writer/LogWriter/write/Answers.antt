use Rattle.std.proofs.Common.{rules}
use Rattle.hc_access.proofs.LogLemmas.{written_behind}
use Rattle.hc_access.proofs.writer.LogWriter.write.Goals as goal

pub returns-clause-written : goal.returns-clause-written
returns-clause-written g c =
    written_behind _ _ _ c.args.self.now.lines c.mend.new.self.lines _ _ _ _ c.mend.ensures.mended c.mend.ensures.rest.0 c.mend.ensures.rest.1 c.put_lines-unwritten.ensures (search rules)
