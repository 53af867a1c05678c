use Rattle.std.proofs.Common.{Some, None, ◌∙◌, ⊎_elim}
use Rattle.std.proofs.lemmas.Bool.{cases_lt, false≢true}
use Rattle.std.proofs.lemmas.Result.{on_ok_weaker}
use Rattle.hc_shown.proofs.MomentLemmas.{early_is_civil, scaled}
use Rattle.hc_shown.proofs.moment.push_moment.Goals as goal

pub returns-in-Err : goal.returns-in-Err
returns-in-Err c =
    let late = ⊎_elim
    (λ early. absurd (false≢true (c.in-Err.ensures.succeeds.1
    (rw (scaled c.from.result c.args.moment c.ranges.moment.fits c.from.ensures) (early_is_civil c.args.moment early)))))
    (λ late. late)
    (cases_lt c.args.moment 253_402_300_800) in
    on_ok_weaker c.write.result (λ written. (None, late, written)) c.write.ensures.bytes

pub returns-in-Ok : goal.returns-in-Ok
returns-in-Ok c =
    let is = c.in-Ok.ensures.value ∙ scaled c.from.result c.args.moment c.ranges.moment.fits c.from.ensures in
    on_ok_weaker c.push_date_time.result (λ written. (Some c.in-Ok.at, is, written)) c.push_date_time.ensures
