use Rattle.std.proofs.Common.{take, refl}
use Rattle.hc_peers.proofs.ClientLemmas.{drops, goes_on}
use Rattle.hc_peers.proofs.client.Client.discard.Goals as goal

pub returns-in-Octets-clause-kept : goal.returns-in-Octets-clause-kept
returns-in-Octets-clause-kept g c =
    drops g.S.Stream.has_given g.S.Stream.has_got c.args.self.now (record c.args.self.now { flow = c.read.new.self }) c.if-not-self.false refl refl
    (take c.in-Octets.field-0 c.read.new.buffer) (rw c.in-Octets.is at c.read.ensures.gave) c.read.ensures.owes

pub returns-in-End-clause-kept : goal.returns-in-End-clause-kept
returns-in-End-clause-kept g c =
    goes_on g.S.Stream.has_given g.S.Stream.has_got c.args.self.now (record c.args.self.now { flow = c.read.new.self }) refl refl
    (rw c.in-End.is at c.read.ensures.gave) c.read.ensures.owes

pub returns-in-Later-clause-kept : goal.returns-in-Later-clause-kept
returns-in-Later-clause-kept g c =
    goes_on g.S.Stream.has_given g.S.Stream.has_got c.args.self.now (record c.args.self.now { flow = c.read.new.self }) refl refl
    (rw c.in-Later.is at c.read.ensures.gave) c.read.ensures.owes

pub returns-in-Failed-clause-kept : goal.returns-in-Failed-clause-kept
returns-in-Failed-clause-kept g c =
    goes_on g.S.Stream.has_given g.S.Stream.has_got c.args.self.now (record c.args.self.now { flow = c.read.new.self }) refl refl
    (rw c.in-Failed.is at c.read.ensures.gave) c.read.ensures.owes
