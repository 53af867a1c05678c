use Rattle.std.proofs.Common.{inl, inr, refl}
use Rattle.std.proofs.lemmas.Result.{err_from_is_err_and}
use Rattle.hc_options.proofs.FaultLemmas.{missing_at}
use Rattle.hc_arguments.specs.Tables.{entries_of, explained, folder, taken_by}
use Rattle.hc_arguments.specs.Tables.Command.{Splits}
use Rattle.hc_arguments.proofs.arguments.split_in.Goals as goal

pub returns-in_err-file-clause-err : goal.returns-in_err-file-clause-err
returns-in_err-file-clause-err c =
    let same = err_from_is_err_and c.from_residual.result c.from_residual.ensures.1 in
    let missing = c.in_err-file.ensures.err in
    rw (same.1, same.2) (missing_at taken_by (entries_of Splits) _ explained _ (inl refl) refl missing.0 missing.1)

pub returns-in_err-dir-clause-err : goal.returns-in_err-dir-clause-err
returns-in_err-dir-clause-err c =
    let same = err_from_is_err_and c.from_residual-in_err-dir.result c.from_residual-in_err-dir.ensures.1 in
    let missing = c.in_err-dir.ensures.err in
    rw (same.1, same.2) (missing_at taken_by (entries_of Splits) _ folder _ (inr (inr (inl refl))) refl missing.0 missing.1)
