use Rattle.hc_attended.proofs.LineLemmas.{next_taken}
use Rattle.hc_attended.proofs.StepLemmas.{skipped_attended}
use Rattle.hc_attended.proofs.attended.Attended.skip_candidate.Goals as goal

pub invariant_of-self : goal.invariant_of-self
invariant_of-self g c =
    let s = c.args.self.now in
    let after = c.next_candidate.new.self in
    let taken = next_taken c.args.candidate c.next_candidate.result s.peers.places after.places c.requires.next c.next_candidate.ensures.first c.next_candidate.ensures.taken c.next_candidate.ensures.left in
    record { noted = skipped_attended s.times s.time.tick c.args.candidate.forward s.peers after s.agenda c.next_candidate.ensures.rest taken.lines c.requires.gone s.noted }
