use Rattle.std.proofs.Common.{codes, inl, inr, refl}
use Rattle.std.proofs.lemmas.Result.{err_from_is_err_and}
use Rattle.hc_options.proofs.FaultLemmas.{missing_at}
use Rattle.hc_options.specs.declared.rows.Takes.TheVariants.{OriginAddress}
use Rattle.hc_arguments.specs.Tables.{entries_of, taken_by, wanted}
use Rattle.hc_arguments.specs.Tables.Command.{Proxies}
use Rattle.hc_arguments.proofs.arguments.proxy_in.Goals as goal

pub returns-in_err-origin-clause-err : goal.returns-in_err-origin-clause-err
returns-in_err-origin-clause-err c =
    let same = err_from_is_err_and c.from_residual.result c.from_residual.ensures.1 in
    let missing = c.in_err-origin.ensures.err in
    rw (same.1, same.2) (missing_at taken_by (entries_of Proxies) _ (wanted (codes "origin") OriginAddress) _ (inr (inl refl)) refl missing.0 missing.1)
