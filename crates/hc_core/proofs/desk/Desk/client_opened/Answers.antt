use Rattle.hc_core.proofs.ServeLemmas.{does_opening, has_place}
use Rattle.hc_core.proofs.desk.Desk.client_opened.Goals as goal

pub returns : goal.returns
returns g c = λ settings s stands known place.
    does_opening g.row.S.Denot g.row.S-Hasher.Denot settings s c.new.result.items c.new.ensures.items c.args.c c.open.new.self
    (c.in_ok-open.ensures settings s stands known (has_place _ _ place))
