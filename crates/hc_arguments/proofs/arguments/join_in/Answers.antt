use Rattle.std.proofs.Common.{inl, refl}
use Rattle.std.proofs.lemmas.Result.{err_from_is_err_and}
use Rattle.hc_options.proofs.FaultLemmas.{missing_at}
use Rattle.hc_arguments.specs.Tables.{entries_of, folder, taken_by}
use Rattle.hc_arguments.specs.Tables.Command.{Joins}
use Rattle.hc_arguments.proofs.arguments.join_in.Goals as goal

pub returns-in_err-dir-clause-err : goal.returns-in_err-dir-clause-err
returns-in_err-dir-clause-err c =
    let same = err_from_is_err_and c.from_residual.result c.from_residual.ensures.1 in
    let missing = c.in_err-dir.ensures.err in
    rw (same.1, same.2) (missing_at taken_by (entries_of Joins) _ folder _ (inl refl) refl missing.0 missing.1)
