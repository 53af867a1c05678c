use Rattle.std.proofs.Common.{ℕ, subst}
use Rattle.std.proofs.lemmas.Result.{on_ok_weaker}
use Rattle.hc_history.specs.Noting.{Notes}
use Rattle.hc_history.proofs.NoteLemmas.{noted}
use Rattle.hc_index.proofs.keeping.AnyIndex.note.Goals as goal

pub returns : goal.returns
returns g c = λ h at is.
    let old = g.K.Noting.knows c.args.self.now in
    let new = g.K.Noting.knows c.note_record.new.noting in
    on_ok_weaker c.note_record.result
    (λ notes. noted c.args.format old new h c.args.view.now is (subst (λ (p : ℕ). Notes c.args.format old p c.args.view.now new) at notes))
    c.note_record.ensures
