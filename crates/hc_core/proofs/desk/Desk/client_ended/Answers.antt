use Rattle.hc_core.proofs.ServeLemmas.{does_end, there}
use Rattle.hc_core.proofs.desk.Desk.client_ended.Goals as goal

pub returns : goal.returns
returns g c = λ settings s stands known place.
    let k = there _ known in
    does_end g.row.S.Denot g.row.S-Hasher.Denot settings s c.new-actions.result.items c.new-actions.ensures.items c.args.c k.0 c.end_client.new.self c.end_client.new.actions.items k.1
    (c.in_ok-end_client.ensures settings s k.0 stands k.1)
