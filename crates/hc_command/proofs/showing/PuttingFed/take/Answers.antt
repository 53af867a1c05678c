use Rattle.std.proofs.Common.{rules, ◌++◌}
use Rattle.hc_command.proofs.ShowLemmas.{goes_on}
use Rattle.hc_command.proofs.showing.PuttingFed.take.Goals as goal

pub returns-in-Ok-clause-goes : goal.returns-in-Ok-clause-goes
returns-in-Ok-clause-goes g c = λ span read text shows.
    goes_on c.feed.new.self span (read ++ c.args.piece.now) text _ _ _ _ c.in_ok-reach.reach c.stopped_by.result
    (c.in_ok-reach.ensures span read text shows) (search rules) (search rules) c.stopped_by.ensures
