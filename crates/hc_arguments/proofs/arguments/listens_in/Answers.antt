use Rattle.std.proofs.Common.{codes, inl, refl}
use Rattle.std.proofs.lemmas.Result.{err_from_is_err_and}
use Rattle.hc_options.proofs.FaultLemmas.{missing_at}
use Rattle.hc_options.specs.declared.rows.Takes.TheVariants.{AnyText}
use Rattle.hc_arguments.specs.Tables.{entries_of, taken_by, wanted_again}
use Rattle.hc_arguments.specs.Tables.Command.{Proxies}
use Rattle.hc_arguments.proofs.arguments.listens_in.Goals as goal

pub returns-clause-ok : goal.returns-clause-ok
returns-clause-ok c = rw (c.in_ok-copied.ensures.items_if_clones_equal (λ x y e. e)) c.in_ok-listens.ensures.ok

pub returns-clause-all : goal.returns-clause-all
returns-clause-all c = rw (c.in_ok-copied.ensures.items_if_clones_equal (λ x y e. e)) c.in_ok-listens.ensures.all

pub returns-in_err-listens-clause-err : goal.returns-in_err-listens-clause-err
returns-in_err-listens-clause-err c =
    let same = err_from_is_err_and c.from_residual.result c.from_residual.ensures.1 in
    let missing = c.in_err-listens.ensures.err in
    rw (same.1, same.2) (missing_at taken_by (entries_of Proxies) _ (wanted_again (codes "listen") AnyText) _ (inl refl) refl missing.0 missing.1)
