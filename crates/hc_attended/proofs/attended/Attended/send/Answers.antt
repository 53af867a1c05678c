use Rattle.std.proofs.lemmas.Result.{err_from_is_err_and}
use Rattle.hc_attended.proofs.GroundLemmas.{sends_alone, sends_nothing, sends_safely, served_alone}
use Rattle.hc_attended.proofs.OwingLemmas.{sent_to}
use Rattle.hc_attended.proofs.attended.Attended.send.Goals as goal

pub invariant_of-self : goal.invariant_of-self
invariant_of-self g c =
    let now = c.make_ready.new.self in
    record {
      noted = sent_to c.args.to now.times now.time.tick now.peers c.send.new.self now.agenda c.send.result c.in_ok-make_ready.ensures.ready c.send.ensures.only c.send.ensures.behind c.send.ensures.opened now.noted;
    }

pub returns-in_err-make_ready-clause-tells : goal.returns-in_err-make_ready-clause-tells
returns-in_err-make_ready-clause-tells g c = λ bounds log t. let p = err_from_is_err_and c.from_residual.result c.from_residual.ensures.1 in rw p.1 (c.make_ready.ensures.kept.tells bounds log t)

pub returns-clause-tells : goal.returns-clause-tells
returns-clause-tells g c = λ bounds log t. c.send.ensures.sent bounds log (c.make_ready.ensures.kept.tells bounds log t)

pub returns-clause-shown : goal.returns-clause-shown
returns-clause-shown g c = λ log s. c.send.ensures.shown log (c.make_ready.ensures.kept.shown log s)

pub returns-in_err-make_ready-clause-fails : goal.returns-in_err-make_ready-clause-fails
returns-in_err-make_ready-clause-fails g c = sends_nothing g.W.Stream.Stream.has_failed c.args.to c.args.self.now.peers c.make_ready.new.self.peers c.make_ready.ensures.served

pub returns-clause-fails : goal.returns-clause-fails
returns-clause-fails g c = sends_safely g.W.Stream.Stream.has_failed c.args.to _ c.args.self.now.peers c.make_ready.new.self.peers c.send.new.self c.make_ready.ensures.served c.send.ensures.client

pub returns-in_err-make_ready-clause-others : goal.returns-in_err-make_ready-clause-others
returns-in_err-make_ready-clause-others g c = served_alone g.W.Stream.Stream.has_failed c.args.to c.args.self.now.peers c.make_ready.new.self.peers c.make_ready.ensures.served

pub returns-clause-others : goal.returns-clause-others
returns-clause-others g c = sends_alone g.W.Stream.Stream.has_failed c.args.to c.args.self.now.peers c.make_ready.new.self.peers c.send.new.self c.make_ready.ensures.served c.send.ensures.only
