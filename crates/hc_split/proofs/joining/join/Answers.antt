use Rattle.std.proofs.Common.{◌≡◌, ℕ, length, arith, subst}
use Rattle.std.proofs.lemmas.Option.{slice_get-get_or}
use Rattle.hc_split.specs.Joined.{JoinsFirst}
use Rattle.hc_split.proofs.JoinedLemmas.{joins_all}
use Rattle.hc_split.proofs.joining.join.Goals as goal

pub loop-number-preserved : goal.loop-number-preserved
loop-number-preserved c =
    let before = c.loop-number.invariant in (
      λ part format settings records h told. c.with_part-so_far.ensures.says part format settings records h (before.0 part format settings records h told) (told c.loop-number.number _ (slice_get-get_or c.args.told.now c.loop-number.number _ c.loop-number-test.true)),
      c.with_part-so_far.ensures.lacking c.args.told.now (slice_get-get_or c.args.told.now c.loop-number.number _ c.loop-number-test.true) before.1,
    )

pub returns-clause-says : goal.returns-clause-says
returns-clause-says c = λ part format octets settings records h is keeps few told.
    let all : c.loop-number.number ≡ length c.args.told.now = omega (arith, c.loop-number-test.false, c.loop-number.auto.number-end) in
    joins_all part format settings records h octets (length c.args.told.now) c.loop-number.so_far is keeps few
    (subst (λ (n : ℕ). JoinsFirst part format settings records h n c.loop-number.so_far) all (c.loop-number.invariant.0 part format settings records h told))
