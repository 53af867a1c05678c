use Rattle.hc_attended.proofs.AttendedLemmas.{client_attended, client_left}
use Rattle.hc_attended.proofs.ClientLemmas.{nobody_there}
use Rattle.hc_attended.proofs.attended.Attended.let_go.Goals as goal

pub invariant_of-self : goal.invariant_of-self
invariant_of-self g c =
    let now = c.args.self.now in
    record {
      noted = client_attended now.times now.time.tick now.peers c.let_go.new.peers now.agenda c.let_go.new.agenda c.args.number (c.let_go.ensures.tends now.times now.time.tick)
          (λ none client there. nobody_there _ client (c.let_go.ensures.gone c.if-let_go.true) there) now.noted;
    }

pub invariant_of-self-else-let_go : goal.invariant_of-self-else-let_go
invariant_of-self-else-let_go g c =
    let now = c.args.self.now in
    let stays = c.let_go.ensures.stays c.if-let_go.false in
    record {
      noted = client_left now.times now.time.tick now.peers c.let_go.new.peers now.agenda c.let_go.new.agenda c.forget.new.self c.args.number (c.let_go.ensures.tends now.times now.time.tick).only stays.0 stays.1 stays.2 c.forget.ensures now.noted;
    }

pub returns-then-let_go-clause-only : goal.returns-then-let_go-clause-only
returns-then-let_go-clause-only g c = (c.let_go.ensures.tends c.args.self.now.times c.args.self.now.time.tick).only

pub returns-else-let_go-clause-only : goal.returns-else-let_go-clause-only
returns-else-let_go-clause-only g c = (c.let_go.ensures.tends c.args.self.now.times c.args.self.now.time.tick).only
