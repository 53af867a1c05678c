use Rattle.hc_core.proofs.ServeLemmas.{does_end_of_origin, can_behind_end_of_origin, there}
use Rattle.hc_core.proofs.desk.Desk.origin_ended.Goals as goal

pub finish-requires : goal.finish-requires
finish-requires g c =
    let a = there _ c.requires.known in
    can_behind_end_of_origin g.row.S.Denot g.row.S-Hasher.Denot c.requires.settings c.requires.state c.args.f c.in_ok-client.client c.new-actions.result.items c.end_origin.new.actions.items c.end_origin.new.self
    (c.in_ok-client.ensures c.requires.settings c.requires.state a.0 c.requires.stands a.1)

pub returns : goal.returns
returns g c = λ settings s stands known place.
    let a = there _ known in
    does_end_of_origin g.row.S.Denot g.row.S-Hasher.Denot settings s c.new-actions.result.items c.new-actions.ensures.items c.args.f c.in_ok-client.client c.end_origin.new.self c.finish.new.self
    c.end_origin.new.actions.items c.finish.new.actions.items (c.in_ok-client.ensures settings s a.0 stands a.1) (c.in_ok-finish.ensures settings)
