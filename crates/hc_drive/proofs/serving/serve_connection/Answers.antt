use Rattle.std.proofs.lemmas.Result.{err_from_is_err_and}
use Rattle.hc_drive.proofs.DriveLemmas.{as_broken, is_busy}
use Rattle.hc_drive.proofs.serving.serve_connection.Goals as goal

pub returns-then-not-idle-clause-serves : goal.returns-then-not-idle-clause-serves
returns-then-not-idle-clause-serves g c = λ log text told held.
    as_broken c.what_may_happen_in_turn_is_served.ensures.mirrors _ _ _ _ _ log text c.drive.new.links.peers.client.number
    (λ room settings occurrences results s other h records rest untouched runs served orderly mirrors passed.
    c.a_connection_at_rest_leaves_a_cache_at_rest.ensures c.drive.new.links.clock.now c.drive.new.links.opened c.drive.new.links.peers.client c.drive.new.links.peers.forwards.links
    1 room settings occurrences results s other h records log rest untouched runs served orderly mirrors passed c.in_ok-drive.ensures.rests)
    (is_busy _ _ c.if-not-idle.true c.idle.ensures.state) c.in_ok-drive.ensures.rests (c.in_ok-drive.ensures.drive log text told held)

pub returns-then-has_failed-clause-serves : goal.returns-then-has_failed-clause-serves
returns-then-has_failed-clause-serves g c = λ log text told held. c.in_ok-drive.ensures.drive log text told held

pub returns-clause-serves : goal.returns-clause-serves
returns-clause-serves g c = λ log text told held. c.in_ok-drive.ensures.drive log text told held

pub returns-in_err-drive-clause-serves : goal.returns-in_err-drive-clause-serves
returns-in_err-drive-clause-serves g c =
    let p = err_from_is_err_and c.from_residual.result c.from_residual.ensures.1 in
    rw (p.1, p.2) (λ log text told held. c.in_err-drive.ensures.drive log text told held)
