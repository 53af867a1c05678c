use Rattle.std.proofs.Common.{◌∷◌, ◌++◌, [], sym, subst, refl, append_assoc}
use Rattle.std.proofs.lemmas.Result.{err_from_is_err_and}
use Rattle.hc_links.proofs.KeepingLemmas.{recorder_stays}
use Rattle.hc_drive.proofs.CarryLemmas.{writes_last, writes_part}
use Rattle.hc_drive.proofs.recorder.write_parts.Goals as goal

pub returns-in_err-write-2-clause-got : goal.returns-in_err-write-2-clause-got
returns-in_err-write-2-clause-got g c =
    let p = err_from_is_err_and c.from_residual-in_err-write-2.result c.from_residual-in_err-write-2.ensures.1 in
    rw p.1 (writes_part (g.R.Link.has_got c.args.recorder.now) (g.R.Link.has_got c.write.new.recorder) (g.R.Link.has_got c.write-2.new.recorder) c.args.front.now _
    c.in_ok-write.ensures.got c.args.rest.now (10 ∷ []) (sym (append_assoc c.args.front.now c.args.rest.now (10 ∷ []))) c.in_err-write-2.ensures.got)

pub returns-clause-got : goal.returns-clause-got
returns-clause-got g c =
    writes_last (g.R.Link.has_got c.args.recorder.now) (g.R.Link.has_got c.write-2.new.recorder) (g.R.Link.has_got c.write-3.new.recorder) (c.args.front.now ++ c.args.rest.now) _
    (λ got had. subst (g.R.Link.has_got c.write-2.new.recorder) (append_assoc got c.args.front.now c.args.rest.now) (c.in_ok-write-2.ensures.got _ (c.in_ok-write.ensures.got got had)))
    c.write-3.result (10 ∷ []) refl c.write-3.ensures.got

pub returns-in_err-write-2-clause-recorder : goal.returns-in_err-write-2-clause-recorder
returns-in_err-write-2-clause-recorder g c = recorder_stays c.write.ensures.recorder c.write-2.ensures.recorder

pub returns-clause-recorder : goal.returns-clause-recorder
returns-clause-recorder g c = recorder_stays c.write.ensures.recorder (recorder_stays c.write-2.ensures.recorder c.write-3.ensures.recorder)
