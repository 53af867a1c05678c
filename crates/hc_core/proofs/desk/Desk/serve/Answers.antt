use Rattle.hc_core.proofs.EventLemmas.{can_take_then, passed, served}
use Rattle.hc_core.proofs.desk.Desk.serve.Goals as goal

pub take-requires : goal.take-requires
take-requires g c =
    can_take_then g.row.S.Denot g.row.S-Hasher.Denot c.args.event.moment c.args.event.of c.args.self.now c.pass_to.new.self c.clear.new.self c.requires.can c.requires.in_time c.pass_to.ensures

pub returns : goal.returns
returns g c = λ settings s stands none.
    served g.row.S.Denot g.row.S-Hasher.Denot settings c.args.event s c.take.result (record c.args.self.now { incidents = c.clear.new.self; numbers = c.pass_to.new.self }) c.take.new.self none
    (passed g.row.S.Denot g.row.S-Hasher.Denot settings c.args.event.moment c.args.self.now s c.pass_to.new.self c.clear.new.self stands c.requires.in_time c.pass_to.ensures) c.take.ensures
