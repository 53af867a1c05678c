use Rattle.hc_agenda.specs.declared.deadline.Timeout.TheVariants.{Connect}
use Rattle.hc_attended.proofs.ForwardLemmas.{connect_less, notes_due, origin_less}
use Rattle.hc_attended.proofs.NoteLemmas.{due_moved, notes_then}
use Rattle.hc_attended.proofs.forwards.watch_link.Goals as goal

pub returns-clause-notes : goal.returns-clause-notes
returns-clause-notes g c =
    let f = c.args.attempt.forward in
    notes_then (notes_due (connect_less f) (due_moved Connect c.saturating_add-due.result f c.args.agenda.now c.note.new.self c.note.ensures))
    (notes_due (origin_less f) c.watch_forward.ensures.notes)
