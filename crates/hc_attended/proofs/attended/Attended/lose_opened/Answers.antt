use Rattle.hc_attended.proofs.KeepingLemmas.{keeps_then}
use Rattle.hc_attended.proofs.LineLemmas.{nobody_opened, some_opened}
use Rattle.hc_attended.proofs.NoteLemmas.{notes_same}
use Rattle.hc_attended.proofs.StepLemmas.{calls_attended, lines_attended, none_moved}
use Rattle.hc_attended.proofs.attended.Attended.lose_opened.Goals as goal

pub invariant_of-self : goal.invariant_of-self
invariant_of-self g c =
    let s = c.args.self.now in
    let next = c.next_opened in
    let f = c.in-Some.forward in
    record {
      noted = calls_attended s.times s.time.tick f s.peers next.new.self c.lose.new.peers s.agenda s.agenda c.lose.new.agenda next.ensures.rest
          (some_opened f next.result s.peers.places next.new.self.places c.in-Some.is next.ensures.line next.ensures.first) (none_moved f (notes_same s.agenda)) c.lose.ensures.only c.lose.ensures.absent
          (none_moved f c.lose.ensures.notes) c.lose.ensures.seen (λ ok. c.lose.ensures.timed s.times s.time.tick) s.noted;
    }

pub invariant_of-self-in_default : goal.invariant_of-self-in_default
invariant_of-self-in_default g c =
    let s = c.args.self.now in
    let next = c.next_opened in
    record {
      noted = lines_attended s.times s.time.tick 0 s.peers next.new.self s.agenda next.ensures.rest (nobody_opened next.result s.peers.places next.new.self.places c.in_default.is next.ensures.line next.ensures.first) s.noted;
    }

pub returns-in-Some-clause-kept : goal.returns-in-Some-clause-kept
returns-in-Some-clause-kept g c = keeps_then c.next_opened.ensures.kept c.lose.ensures.kept
