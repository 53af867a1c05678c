use Rattle.hc_attended.proofs.NoteLemmas.{notes_then}
use Rattle.hc_attended.proofs.TendLemmas.{forward_is_seen}
use Rattle.hc_attended.proofs.seeing.see_to_forward.Goals as goal

pub returns-clause-notes : goal.returns-clause-notes
returns-clause-notes g c = notes_then c.hear_next.ensures.notes c.write_next.ensures.notes

pub returns-clause-seen : goal.returns-clause-seen
returns-clause-seen g c = λ none marked.
    let heard = c.write_next.ensures.notes.refused none in
    forward_is_seen c.args.forward c.hear_next.new.peers c.hear_next.new.agenda c.write_next.new.agenda (c.hear_next.ensures.marked heard marked)
    (c.hear_next.ensures.heard heard marked) (c.write_next.ensures.written none) c.write_next.ensures.notes
