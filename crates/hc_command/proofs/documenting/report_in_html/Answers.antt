use Rattle.hc_command.proofs.DocumentLemmas.{documents_by}
use Rattle.hc_command.proofs.documenting.report_in_html.Goals as goal

pub returns-in-Ok : goal.returns-in-Ok
returns-in-Ok g c = documents_by c.args.terms.settings c.args.terms.minimums c.in-Ok.verdict _ c.ended.result _ _ _ _ c.in-Ok.ensures c.ended.ensures
