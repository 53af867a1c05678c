use Rattle.std.proofs.Common.{refl}
use Rattle.hc_agenda.specs.declared.deadline.Timeout.TheVariants.{OriginLingering}
use Rattle.hc_attended.proofs.ForwardLemmas.{notes_due}
use Rattle.hc_attended.proofs.KeepingLemmas.{keeps_then}
use Rattle.hc_attended.proofs.NoteLemmas.{due_moved, notes_then}
use Rattle.hc_attended.proofs.lingering.linger.Goals as goal

pub returns-clause-kept : goal.returns-clause-kept
returns-clause-kept g c = keeps_then c.linger.ensures.kept c.give_lingering_turn.ensures.kept

pub returns-clause-notes : goal.returns-clause-notes
returns-clause-notes g c =
    notes_then (due_moved OriginLingering c.saturating_add-due.result c.args.forward c.args.agenda.now c.note.new.self c.note.ensures)
    (notes_due (λ timeout n apart. refl) c.give_lingering_turn.ensures.notes)
