use Rattle.std.proofs.Common.{refl}
use Rattle.hc_attended.proofs.TendLemmas.{client_is_seen, lingers_less, tends_by_notes, tends_by_turn, tends_then}
use Rattle.hc_attended.proofs.seeing.see_to_client.Goals as goal

pub returns-clause-tends : goal.returns-clause-tends
returns-clause-tends g c = λ times.
    tends_then c.args.number times c.args.tick _ _ _ _ _ _
    (tends_by_turn c.args.number times c.args.tick _ _ _ _ c.hear_next.ensures.turns c.hear_next.ensures.notes c.hear_next.ensures.marked)
    (tends_then c.args.number times c.args.tick _ _ _ _ _ _
    (tends_by_notes c.args.number times c.args.tick _ _ _ _ c.write_next.ensures.notes (λ timeout m apart. refl) refl)
    (tends_by_notes c.args.number times c.args.tick _ _ _ _ c.let_linger.ensures.notes (lingers_less c.args.number) refl))

pub returns-clause-seen : goal.returns-clause-seen
returns-clause-seen g c = λ none marked.
    let written = c.let_linger.ensures.notes.refused none in
    let heard = c.write_next.ensures.notes.refused written in
    client_is_seen c.args.number c.args.tick c.hear_next.new.peers c.hear_next.new.agenda c.write_next.new.agenda c.let_linger.new.agenda (c.hear_next.ensures.marked heard marked)
    (c.hear_next.ensures.heard heard marked) (c.write_next.ensures.written written) (c.let_linger.ensures.lingers none) c.write_next.ensures.notes _ c.let_linger.ensures.notes
