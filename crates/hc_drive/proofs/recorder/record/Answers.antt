use Rattle.std.proofs.lemmas.Result.{err_from_is_err_and}
use Rattle.hc_drive.proofs.CarryLemmas.{writes_nothing}
use Rattle.hc_drive.proofs.recorder.record.Goals as goal

pub returns-in_err-front-clause-got : goal.returns-in_err-front-clause-got
returns-in_err-front-clause-got g c =
    let p = err_from_is_err_and c.from_residual.result c.from_residual.ensures.1 in
    rw p.1 (λ got had. writes_nothing (g.R.Link.has_got c.args.recorder.now) _ got had)
