use Rattle.std.proofs.Common.{rules}
use Rattle.hc_command.proofs.EndLemmas.{explained_untwice}
use Rattle.hc_command.proofs.run.explained.Goals as goal

pub returns-in-Err : goal.returns-in-Err
returns-in-Err g c = explained_untwice c.args.terms.json c.args.terms.position c.told.result _ _ _ _ c.told.ensures (search (rules))
