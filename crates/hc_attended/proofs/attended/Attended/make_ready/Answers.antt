use Rattle.hc_attended.proofs.OwingLemmas.{owe_keeps, owed_attended}
use Rattle.hc_attended.proofs.attended.Attended.make_ready.Goals as goal

pub invariant_of-self : goal.invariant_of-self
invariant_of-self g c =
    let now = c.args.self.now in
    record {
      noted = owed_attended now.times now.time.tick now.peers now.agenda c.owe.new.self c.in-Client.field-0
          (owe_keeps c.owe.result c.args.to now.agenda c.owe.new.self c.owe.ensures.only c.owe.ensures.ok c.owe.ensures.err) now.noted;
    }
