use Rattle.hc_attended.proofs.NoteLemmas.{batch_kept}
use Rattle.hc_attended.proofs.OwingLemmas.{owed_attended}
use Rattle.hc_attended.proofs.attended.Attended.begin_batch.Goals as goal

pub invariant_of-self : goal.invariant_of-self
invariant_of-self g c =
    let now = c.args.self.now in
    record { noted = owed_attended now.times now.time.tick now.peers now.agenda _ 0 (batch_kept now.agenda c.begin_batch.new.self c.begin_batch.ensures) now.noted }
