use Rattle.hc_command.proofs.ReportLemmas.{explained_of}
use Rattle.hc_command.proofs.run.explained_twice.Goals as goal

pub returns : goal.returns
returns g c = explained_of c.args.terms.json c.args.terms.position c.args.terms.settings _ _ c.explain.result _ _ _ _ c.explain.ensures.first c.explain.ensures.at
