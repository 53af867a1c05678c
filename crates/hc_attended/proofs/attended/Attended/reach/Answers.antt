use Rattle.std.proofs.Common.{ap, ◌∙◌}
use Rattle.hc_peers.specs.Forwards.{is_waiting_at}
use Rattle.hc_peers.specs.declared.peers.Peers.{Peers}
use Rattle.hc_attended.proofs.KeepingLemmas.{keeps_then}
use Rattle.hc_attended.proofs.LineLemmas.{kept_lines, lines_then, next_taken}
use Rattle.hc_attended.proofs.NoteLemmas.{notes_same}
use Rattle.hc_attended.proofs.StepLemmas.{calls_attended, none_moved, places_then}
use Rattle.hc_attended.proofs.attended.Attended.reach.Goals as goal

pub invariant_of-self : goal.invariant_of-self
invariant_of-self g c =
    let s = c.args.self.now in
    let next = c.next_candidate in
    let given = c.give_place in
    let f = c.args.candidate.forward in
    let taken = next_taken c.args.candidate next.result s.peers.places next.new.self.places c.requires.next next.ensures.first next.ensures.taken next.ensures.left in
    record {
      noted = calls_attended s.times s.time.tick f s.peers given.new.self c.lose.new.peers s.agenda s.agenda c.lose.new.agenda (places_then s.peers next.new.self given.new.self next.ensures.rest given.ensures.rest)
          (lines_then f s.peers.places next.new.self.places given.new.self.places taken.lines (kept_lines f next.new.self.places given.new.self.places given.ensures.lines))
          (none_moved f (notes_same s.agenda)) c.lose.ensures.only c.lose.ensures.absent (none_moved f c.lose.ensures.notes) c.lose.ensures.seen (λ ok. c.lose.ensures.timed s.times s.time.tick) s.noted;
    }

pub invariant_of-self-2 : goal.invariant_of-self-2
invariant_of-self-2 g c =
    let s = c.args.self.now in
    let next = c.next_candidate in
    let given = c.give_place in
    let linked = c.link_or_lose in
    let f = c.args.candidate.forward in
    let taken = next_taken c.args.candidate next.result s.peers.places next.new.self.places c.requires.next next.ensures.first next.ensures.taken next.ensures.left in
    let rest = places_then s.peers next.new.self given.new.self next.ensures.rest given.ensures.rest in
    let waits = ap (λ (p : Peers g.row.W-Stream.Denot). is_waiting_at f p.forwards.links) rest ∙ c.requires.waits in
    record {
      noted = calls_attended s.times s.time.tick f s.peers given.new.self linked.new.peers s.agenda s.agenda linked.new.agenda rest
          (lines_then f s.peers.places next.new.self.places given.new.self.places taken.lines (kept_lines f next.new.self.places given.new.self.places given.ensures.lines))
          (none_moved f (notes_same s.agenda)) linked.ensures.only linked.ensures.absent linked.ensures.notes linked.ensures.seen (λ ok. linked.ensures.timed ok waits) s.noted;
    }

pub returns-then-is_err-clause-kept : goal.returns-then-is_err-clause-kept
returns-then-is_err-clause-kept g c fresh = keeps_then c.next_candidate.ensures.kept (keeps_then c.give_place.ensures.kept c.lose.ensures.kept)

pub returns-clause-kept : goal.returns-clause-kept
returns-clause-kept g c fresh = keeps_then c.next_candidate.ensures.kept (keeps_then c.give_place.ensures.kept (c.link_or_lose.ensures.kept fresh))
