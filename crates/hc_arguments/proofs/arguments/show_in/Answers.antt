use Rattle.std.proofs.Common.{inl, inr, refl}
use Rattle.std.proofs.lemmas.Result.{err_from_is_err_and}
use Rattle.hc_options.proofs.FaultLemmas.{missing_at}
use Rattle.hc_options.specs.Rows.{audited}
use Rattle.hc_arguments.specs.Tables.{entries_of, taken_by, span}
use Rattle.hc_arguments.specs.Tables.Command.{Shows}
use Rattle.hc_arguments.proofs.arguments.show_in.Goals as goal

pub returns-in_err-file-clause-err : goal.returns-in_err-file-clause-err
returns-in_err-file-clause-err c =
    let same = err_from_is_err_and c.from_residual.result c.from_residual.ensures.1 in
    let missing = c.in_err-file.ensures.err in
    rw (same.1, same.2) (missing_at taken_by (entries_of Shows) _ audited _ (inl refl) refl missing.0 missing.1)

pub returns-in_err-written-clause-err : goal.returns-in_err-written-clause-err
returns-in_err-written-clause-err c =
    let same = err_from_is_err_and c.from_residual-in_err-written.result c.from_residual-in_err-written.ensures.1 in
    let missing = c.in_err-written.ensures.err in
    rw (same.1, same.2) (missing_at taken_by (entries_of Shows) _ span _ (inr (inl refl)) refl missing.0 missing.1)
