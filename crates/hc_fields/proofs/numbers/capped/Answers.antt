use Rattle.std.proofs.Common.{◌≡◌, get_or, refl, arith, true}
use Rattle.std.specs.Char.{is_ascii_digit}
use Rattle.std.proofs.lemmas.Grind.{common_steps}
use Rattle.hc_fields.proofs.NumberLemmas.{capped_more}
use Rattle.hc_fields.proofs.numbers.capped.Goals as goal

pub loop-digit-preserved : goal.loop-digit-preserved
loop-digit-preserved c =
    let digit : is_ascii_digit (get_or c.args.text.now c.loop-digit.digit-index 0) ≡ true = grind (arith, common_steps) in
    let more = capped_more c.args.limit c.args.text.now c.loop-digit.digit-index _ c.loop-digit.value c.loop-digit-test.true refl digit c.loop-digit.invariant.value in
    record { digits = grind (arith, common_steps); value = cc; low = omega arith }
