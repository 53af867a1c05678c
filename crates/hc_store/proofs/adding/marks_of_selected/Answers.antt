use Rattle.std.proofs.Common.{rules, arith}
use Rattle.hc_store.specs.Choosing.{is_selected}
use Rattle.hc_store.proofs.MarkLemmas.{marked_more}
use Rattle.hc_store.proofs.adding.marks_of_selected.Goals as goal

pub loop-place-preserved : goal.loop-place-preserved
loop-place-preserved c = record {
  size = search rules;
  so_far = marked_more (is_selected c.args.presented.now) c.args.variants.now c.loop-place.marks c.loop-place.place c.index-variants-place.result c.in_ok-marks.field-0
      c.loop-place-test.true (omega arith) c.index-variants-place.is (search rules) c.loop-place.invariant.so_far;
}
