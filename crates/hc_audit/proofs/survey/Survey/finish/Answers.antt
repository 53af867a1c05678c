use Rattle.hc_audit.proofs.SurveyLemmas.{ended_is, open_is}
use Rattle.hc_audit.proofs.survey.Survey.finish.Goals as goal

pub returns-in-Open-clause-ending : goal.returns-in-Open-clause-ending
returns-in-Open-clause-ending g c = λ settings octets h wrongs surveys.
    c.end.ensures settings octets h wrongs
    (rw (← c.in-Open.judge-is) at (open_is g.I.Index.seen c.args.self.reach settings octets h wrongs c.in-Open.judge c.in-Open.is surveys))

pub returns-in-Ended-clause-ending : goal.returns-in-Ended-clause-ending
returns-in-Ended-clause-ending g c = λ settings octets h wrongs surveys.
    ended_is g.I.Index.seen c.args.self.reach settings octets h wrongs c.in-Ended.ending c.in-Ended.is surveys
