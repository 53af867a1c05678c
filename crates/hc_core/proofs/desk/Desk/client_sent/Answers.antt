use Rattle.hc_core.proofs.ServeLemmas.{does_client_sending, there}
use Rattle.hc_core.proofs.desk.Desk.client_sent.Goals as goal

pub read_on-requires : goal.read_on-requires
read_on-requires g c =
    let k = there _ c.requires.known in
    let gives = c.in_ok-receive_client.ensures c.requires.settings c.requires.state k.0 c.requires.stands k.1 in
    record { settings = c.requires.settings; state = gives.state; stands = gives.stands }

pub returns : goal.returns
returns g c = λ settings s stands known place.
    let k = there _ known in
    let gives = c.in_ok-receive_client.ensures settings s k.0 stands k.1 in
    does_client_sending g.row.S.Denot g.row.S-Hasher.Denot settings s c.new-actions.result.items c.new-actions.ensures.items c.args.c c.args.octets.now c.receive_client.new.self c.read_on.new.self c.read_on.new.actions.items
    gives (c.in_ok-read_on.ensures settings gives.state gives.stands)
