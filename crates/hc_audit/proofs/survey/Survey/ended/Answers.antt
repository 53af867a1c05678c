use Rattle.std.proofs.Common.{ap}
use Rattle.hc_audit.specs.Surveying.{ended_by}
use Rattle.hc_audit.proofs.SurveyLemmas.{open_may_go_on}
use Rattle.hc_audit.proofs.survey.Survey.ended.Goals as goal

pub returns-in-Open-clause-open : goal.returns-in-Open-clause-open
returns-in-Open-clause-open g c = λ settings octets h wrongs all ending surveys none are.
    open_may_go_on g.I.Index.seen c.args.self.now.reach settings octets h wrongs all ending (ap ended_by c.in-Open.is) surveys are
