use Rattle.hc_core.proofs.ServeLemmas.{does_loss, there}
use Rattle.hc_core.proofs.desk.Desk.origin_lost.Goals as goal

pub finish-requires : goal.finish-requires
finish-requires g c =
    let a = there _ c.requires.known in
    let gives = c.in_ok-client.ensures c.requires.settings c.requires.state a.0 c.requires.stands a.1 in
    record { settings = c.requires.settings; state = gives.state; stands = gives.stands }

pub returns : goal.returns
returns g c = λ settings s stands known place.
    let a = there _ known in
    let gives = c.in_ok-client.ensures settings s a.0 stands a.1 in
    does_loss g.row.S.Denot g.row.S-Hasher.Denot settings s c.new-actions.result.items c.new-actions.ensures.items c.args.f c.in_ok-client.client c.lose.new.self c.finish.new.self
    c.lose.new.actions.items c.finish.new.actions.items gives (c.in_ok-finish.ensures settings gives.state gives.stands)
