use Rattle.std.proofs.Common.{[], IfSome, refl, subst}
use Rattle.hc_agenda.specs.Deadlines.{is_of_forward}
use Rattle.hc_peers.specs.Behind.{ForwardIsLinked}
use Rattle.hc_attended.specs.Notes.{due_of}
use Rattle.hc_attended.proofs.ForwardLemmas.{notes_due}
use Rattle.hc_attended.proofs.KeepingLemmas.{keeps_then}
use Rattle.hc_attended.proofs.NoteLemmas.{notes_then}
use Rattle.hc_attended.proofs.TimedLemmas.{marked_behind}
use Rattle.hc_attended.proofs.forwards.link_or_lose.Goals as goal

pub returns-then-not-link-clause-kept : goal.returns-then-not-link-clause-kept
returns-then-not-link-clause-kept g c fresh =
    let one = subst (λ stream. IfSome stream (λ one. g.S.Stream.has_given one [] × g.S.Stream.has_got one [])) c.in-Some.is fresh in
    keeps_then (c.link.ensures.kept one.0 one.1) c.lose-then-not-link.ensures.kept

pub returns-clause-kept : goal.returns-clause-kept
returns-clause-kept g c fresh =
    let one = subst (λ stream. IfSome stream (λ one. g.S.Stream.has_given one [] × g.S.Stream.has_got one [])) c.in-Some.is fresh in
    keeps_then (c.link.ensures.kept one.0 one.1) c.see_to_forward.ensures.kept

pub returns-clause-notes : goal.returns-clause-notes
returns-clause-notes g c = notes_then c.watch_link.ensures.notes (notes_due (λ timeout n apart. refl) c.see_to_forward.ensures.notes)

pub returns-clause-seen : goal.returns-clause-seen
returns-clause-seen g c none marked =
    let f = c.args.attempt.forward in
    c.see_to_forward.ensures.seen none
    (marked_behind f (due_of is_of_forward f) (ForwardIsLinked c.link.result c.args.attempt.tick) c.args.peers.now c.link.new.self c.args.agenda.now c.watch_link.new.agenda (λ one other is. is.queued)
    c.link.ensures.behind c.watch_link.ensures.notes marked)
