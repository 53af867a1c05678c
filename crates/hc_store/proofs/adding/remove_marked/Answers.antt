use Rattle.std.proofs.Common.{◌-◌, arith}
use Rattle.hc_store.proofs.MarkLemmas.{keep_one}
use Rattle.hc_store.proofs.adding.remove_marked.Goals as goal

pub loop-place-preserved : goal.loop-place-preserved
loop-place-preserved c = let loop = c.loop-place.invariant in record {
  before = omega arith;
  items = keep_one c.args.marks.now c.args.variants.now.items c.loop-place.place (c.loop-place.place - 1) c.loop-place.variants.items
      (omega arith) (omega arith) (omega arith) c.if-marks-place.false loop.items;
  room = loop.room;
}
