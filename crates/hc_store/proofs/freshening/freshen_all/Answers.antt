use Rattle.std.proofs.Common.{arith, refl, ◌-◌}
use Rattle.hc_store.specs.Views.{validation_seen}
use Rattle.hc_store.proofs.FreshenLemmas.{stays_left, freshened_left, goes_left}
use Rattle.hc_store.proofs.freshening.freshen_all.Goals as goal

pub loop-place-preserved-in-Stays : goal.loop-place-preserved-in-Stays
loop-place-preserved-in-Stays c = record {
  before = omega arith;
  left = stays_left c.args.keeps_cookies (validation_seen c.args.validation) c.args.variants.now.items c.loop-place.place (c.loop-place.place - 1) c.loop-place.freshened c.loop-place.variants.items
      c.index_mut.result.now c.freshen_variant.new.variant (omega arith) (omega arith) c.index_mut.ensures.value c.loop-place.invariant.left c.in-Stays.ensures;
}

pub loop-place-preserved-in-Freshened : goal.loop-place-preserved-in-Freshened
loop-place-preserved-in-Freshened c = record {
  before = omega arith;
  left = freshened_left c.args.keeps_cookies (validation_seen c.args.validation) c.args.variants.now.items c.loop-place.place (c.loop-place.place - 1) c.loop-place.freshened c.loop-place.variants.items
      c.index_mut.result.now c.freshen_variant.new.variant (omega arith) (omega arith) c.index_mut.ensures.value c.loop-place.invariant.left c.in-Freshened.ensures;
}

pub loop-place-preserved : goal.loop-place-preserved
loop-place-preserved c = record {
  before = omega arith;
  left = goes_left c.args.keeps_cookies (validation_seen c.args.validation) c.args.variants.now.items c.loop-place.place (c.loop-place.place - 1) c.loop-place.freshened c.loop-place.variants.items
      _ c.remove.new.self.items c.index_mut.result.now c.freshen_variant.new.variant (omega arith) (omega arith) c.index_mut.ensures.value c.loop-place.invariant.left c.in-Goes.ensures
      refl c.remove.ensures.by_index.2;
}
