use Rattle.hc_agenda.proofs.MomentsLaws.{as_counted, catches_up, goes_forward, steady_test}
use Rattle.hc_agenda.proofs.moments.moments_follow_what_stays_ahead.Goals as goal

pub returns-clause-forward : goal.returns-clause-forward
returns-clause-forward c = goes_forward

pub returns-clause-counted : goal.returns-clause-counted
returns-clause-counted c = as_counted

pub returns-clause-caught_up : goal.returns-clause-caught_up
returns-clause-caught_up c = λ reading history wall more is. catches_up reading.wall reading.monotonic wall history more is

pub returns-clause-steady : goal.returns-clause-steady
returns-clause-steady c = steady_test
