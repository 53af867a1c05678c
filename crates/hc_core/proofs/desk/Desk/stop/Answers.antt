use Rattle.hc_core.proofs.ServeLemmas.{does_stopping}
use Rattle.hc_core.proofs.desk.Desk.stop.Goals as goal

pub returns : goal.returns
returns g c = λ settings s stands known place.
    does_stopping g.row.S.Denot g.row.S-Hasher.Denot settings s c.new.result.items c.new.ensures.items c.args.self.now c.stop.new.self stands c.stop.ensures
