use Rattle.std.proofs.Common.{inr}
use Rattle.hc_auditing.proofs.program.status.Goals as goal

pub returns-in-Err : goal.returns-in-Err
returns-in-Err g c = inr c.unread.ensures
