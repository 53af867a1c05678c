use Rattle.std.proofs.Common.{None, sym, ◌∙◌}
use Rattle.hc_open.specs.Links.{IsClient}
use Rattle.hc_open.proofs.TableLemmas.{alike_taken, found_none}
use Rattle.hc_core.proofs.ReadLemmas.{reads_absent, taken_with}
use Rattle.hc_core.proofs.desk.Desk.read_one.Goals as goal

pub returns-in_default-clause-reading : goal.returns-in_default-clause-reading
returns-in_default-clause-reading g c = λ settings s stands.
    reads_absent g.row.S.Denot g.row.S-Hasher.Denot settings c.args.c c.args.self.now s c.remove.new.self c.args.actions.now.items stands
    (found_none IsClient _ _ (stands.clients.at c.args.c) (sym c.in_default.ensures.value))
    (alike_taken IsClient c.args.self.now.clients c.remove.new.self s.connections c.args.c None stands.clients
    c.in_default.ensures.updates c.in_default.ensures.value c.in_default.ensures.len)

pub returns-in_ok-trim-in-Some-exchange-clause-reading : goal.returns-in_ok-trim-in-Some-exchange-clause-reading
returns-in_ok-trim-in-Some-exchange-clause-reading g c = λ settings s stands.
    let taken = taken_with g.row.S.Denot g.row.S-Hasher.Denot settings c.args.c c.args.self.now s c.in-Some.client c.remove.new.self stands
    c.in-Some.ensures.updates c.in-Some.ensures.value c.in-Some.ensures.len in
    c.in_ok-trim-in-Some-exchange.ensures settings s taken.0 c.in-Some-exchange.field-0 c.args.actions.now.items taken.3 taken.1 taken.2 (sym taken.2.exchange ∙ c.in-Some-exchange.is)

pub returns-in-None-clause-reading : goal.returns-in-None-clause-reading
returns-in-None-clause-reading g c = λ settings s stands.
    let taken = taken_with g.row.S.Denot g.row.S-Hasher.Denot settings c.args.c c.args.self.now s c.in-Some.client c.remove.new.self stands
    c.in-Some.ensures.updates c.in-Some.ensures.value c.in-Some.ensures.len in
    c.read_idle.ensures.reading settings s taken.0 taken.3 taken.1 taken.2 (sym taken.2.exchange ∙ c.in-None.is)
