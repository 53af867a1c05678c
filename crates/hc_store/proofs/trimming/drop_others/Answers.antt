use Rattle.std.proofs.Common.{sym, ◌∙◌, ap}
use Rattle.hc_store.proofs.TrimLemmas.{dropped_is_part, one_dropped, all_dropped, last_is_there}
use Rattle.hc_store.proofs.trimming.drop_others.Goals as goal

pub weight_without-others-requires : goal.weight_without-others-requires
weight_without-others-requires g c =
    rw c.as_slice.ensures
    (dropped_is_part c.args.room c.args.keys.now.entries c.loop-room.keys.entries c.loop-room.others (c.in-Some.field-0-0, c.in-Some.variants)
    c.loop-room.invariant.trims (sym c.has_to_drop.ensures ∙ c.loop-room-test.true) (sym c.in-Some.ensures.value))

pub loop-room-preserved-in-Some : goal.loop-room-preserved-in-Some
loop-room-preserved-in-Some g c = record {
  cap = ap (λ k. k.cap) c.in-Some.ensures.entries ∙ c.loop-room.invariant.cap;
  trims = rw (c.weight_without-others.ensures, c.as_slice.ensures)
      (one_dropped c.args.room c.args.keys.now.entries c.loop-room.keys.entries c.pop_lru.new.self.entries c.loop-room.others (c.in-Some.field-0-0, c.in-Some.variants)
      c.loop-room.invariant.trims (sym c.has_to_drop.ensures ∙ c.loop-room-test.true) (sym c.in-Some.ensures.value) (ap (λ k. k.entries) c.in-Some.ensures.entries));
}

pub loop-room-preserved : goal.loop-room-preserved
loop-room-preserved g c =
    absurd (last_is_there c.loop-room.keys.entries _ (sym c.has_to_drop.ensures ∙ c.loop-room-test.true) (sym c.pop_lru.ensures.value ∙ c.in_default.is))

pub returns-clause-entries : goal.returns-clause-entries
returns-clause-entries g c =
    (all_dropped c.args.room c.args.keys.now.entries c.loop-room.keys.entries c.loop-room.others c.loop-room.invariant.trims (sym c.has_to_drop.ensures ∙ c.loop-room-test.false)).0

pub returns-clause-weight : goal.returns-clause-weight
returns-clause-weight g c =
    (all_dropped c.args.room c.args.keys.now.entries c.loop-room.keys.entries c.loop-room.others c.loop-room.invariant.trims (sym c.has_to_drop.ensures ∙ c.loop-room-test.false)).1
