use Rattle.hc_command.proofs.baseline.read_baseline.Goals as goal

pub returns-in-Err-NoReport-clause-err : goal.returns-in-Err-NoReport-clause-err
returns-in-Err-NoReport-clause-err c = c.in-Err-NoReport.ensures.err c.in-Err-NoReport.field-0-is
