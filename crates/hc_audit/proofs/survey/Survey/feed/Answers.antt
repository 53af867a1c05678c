use Rattle.hc_audit.proofs.SurveyLemmas.{ended_goes_on, open_is}
use Rattle.hc_audit.proofs.survey.Survey.feed.Goals as goal

pub returns-in-Ended-clause-ok : goal.returns-in-Ended-clause-ok
returns-in-Ended-clause-ok g c = λ settings octets told.
    (told.0, told.1, ended_goes_on g.I.Index.seen c.args.self.now.reach settings octets c.args.piece.now told.0 told.1 c.in-Ended.field-0 c.in-Ended.is told.2, told.3, told.4)

pub returns-in-Ok-None-clause-ok : goal.returns-in-Ok-None-clause-ok
returns-in-Ok-None-clause-ok g c = λ settings octets told.
    rw c.in-Ok-None.field-0-is at
    (c.in-Ok-None.ensures.gives settings octets
    (told.0, told.1, open_is g.I.Index.seen c.args.self.now.reach settings octets told.0 told.1 c.in-Open.judge c.in-Open.is told.2, told.3, told.4))

pub returns-in-Ok-Some-clause-ok : goal.returns-in-Ok-Some-clause-ok
returns-in-Ok-Some-clause-ok g c = λ settings octets told.
    rw c.in-Ok-Some.field-0-is at
    (c.in-Ok-Some.ensures.gives settings octets
    (told.0, told.1, open_is g.I.Index.seen c.args.self.now.reach settings octets told.0 told.1 c.in-Open.judge c.in-Open.is told.2, told.3, told.4))
