use Rattle.hc_core.proofs.ServeLemmas.{does_end_by_octets, does_origin_sending, there}
use Rattle.hc_core.proofs.desk.Desk.origin_sent.Goals as goal

pub finish-requires : goal.finish-requires
finish-requires g c =
    let a = there _ c.requires.known in
    let gives = c.in_ok-receive_origin.ensures c.requires.settings c.requires.state a.0 c.requires.stands a.1 in
    record { settings = c.requires.settings; state = gives.state; stands = gives.stands }

pub returns-in-IsOpen : goal.returns-in-IsOpen
returns-in-IsOpen g c = λ settings s stands known place.
    let a = there _ known in
    does_origin_sending g.row.S.Denot g.row.S-Hasher.Denot settings s c.new-actions.result.items c.new-actions.ensures.items c.args.f c.args.octets.now c.receive_origin.new.self c.receive_origin.new.actions.items
    (rw c.in-IsOpen.is at (c.in_ok-receive_origin.ensures settings s a.0 stands a.1))

pub returns-in_ok-finish-in-HasEnded : goal.returns-in_ok-finish-in-HasEnded
returns-in_ok-finish-in-HasEnded g c = λ settings s stands known place.
    let a = there _ known in
    let gives = rw c.in-HasEnded.is at (c.in_ok-receive_origin.ensures settings s a.0 stands a.1) in
    does_end_by_octets g.row.S.Denot g.row.S-Hasher.Denot settings s c.new-actions.result.items c.new-actions.ensures.items c.args.f c.args.octets.now c.in-HasEnded.client c.receive_origin.new.self c.finish.new.self
    c.receive_origin.new.actions.items c.finish.new.actions.items gives (c.in_ok-finish-in-HasEnded.ensures settings gives.state gives.stands)
