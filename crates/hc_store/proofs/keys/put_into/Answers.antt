use Rattle.std.proofs.Common.{arith, ◌∷◌, ap, sym, refl, ◌∙◌, take, drop, ◌++◌, List, Option, ℕ}
use Rattle.std.specs.Map.{set_value}
use Rattle.hc_head.specs.Targets.{same_target}
use Rattle.hc_update.specs.declared.stored.Stored.{Stored}
use Rattle.hc_store.specs.Entries.{Entries, entries_weight, variants_weight}
use Rattle.hc_store.specs.Changes.{last_variants, without}
use Rattle.hc_store.specs.Trims.{kept_beside, room_beside}
use Rattle.hc_store.proofs.TrimLemmas.{entries_weight-cons, settled_light}
use Rattle.hc_store.proofs.KeyLemmas.{known, cache_is, on_err, put_known}
use Rattle.hc_store.proofs.keys.put_into.Goals as goal

pub weight_without-others-requires : goal.weight_without-others-requires
weight_without-others-requires g c =
    let is = known c.args.target.now c.args.keys.now.entries c.in-Some.variants.now (sym c.in-Some.ensures.value) in
    omega (arith, is.weighs, ap variants_weight c.as_slice.ensures, c.requires.weighs)

pub returns-in_err-add-clause-err : goal.returns-in_err-add-clause-err
returns-in_err-add-clause-err g c =
    let target = c.args.target.now in let es = c.args.keys.now.entries in
    let is = known target es c.in-Some.variants.now (sym c.in-Some.ensures.value) in
    on_err c.from_residual.result
    (sym (cache_is c.args.keys.now (set_value (same_target target) es c.add.new.self) c.args.keys.now.cap
    (sym (ap (set_value (same_target target) es) c.in_err-add.ensures.err ∙ is.same)) refl))

pub drop_others-others-requires : goal.drop_others-others-requires
drop_others-others-requires g c =
    let target = c.args.target.now in let es = c.args.keys.now.entries in
    let is = known target es c.in-Some.variants.now (sym c.in-Some.ensures.value) in
    let first = ap (λ k. k.entries) c.promote.ensures.entries ∙ is.first c.settle-settled.new.self in
    omega (arith, is.weighs, ap variants_weight c.as_slice.ensures, c.requires.weighs, c.weight_without-others.ensures, ap (λ (l : Entries). entries_weight (drop 1 l)) first)

pub overflow_add-result : goal.overflow_add-result
overflow_add-result g c =
    let target = c.args.target.now in let es = c.args.keys.now.entries in
    let is = known target es c.in-Some.variants.now (sym c.in-Some.ensures.value) in
    let first = ap (λ k. k.entries) c.promote.ensures.entries ∙ is.first c.settle-settled.new.self in
    let light = settled_light c.args.bytes c.add.new.self (without target es) in
    let beside = ap (λ (l : Entries). entries_weight (kept_beside c.settle-settled.result.room (drop 1 l))) first
    ∙ ap (λ (r : Option ℕ). entries_weight (kept_beside r (without target es))) c.settle-settled.ensures.room in
    omega (arith, light, c.ranges.bytes.fits, c.settle-settled.ensures.weight, ap variants_weight c.settle-settled.ensures.variants, c.drop_others-others.ensures.weight, beside)

pub returns-clause-ok : goal.returns-clause-ok
returns-clause-ok g c =
    let target = c.args.target.now in let es = c.args.keys.now.entries in let bytes = c.args.bytes in
    let is = known target es c.in-Some.variants.now (sym c.in-Some.ensures.value) in
    let first = ap (λ k. k.entries) c.promote.ensures.entries ∙ is.first c.settle-settled.new.self in
    let put = put_known c.args.keys.now.cap bytes target c.args.stored es c.in-Some.variants.now is c.requires.few_keys c.requires.light in
    let kept : List Stored → Entries = λ vs. (target, last_variants bytes vs) ∷ kept_beside (room_beside bytes (variants_weight vs)) (without target es) in
    cache_is c.drop_others-others.new.keys _ _
    (c.drop_others-others.ensures.entries
    ∙ ap (λ (l : Entries). take 1 l ++ kept_beside c.settle-settled.result.room (drop 1 l)) first
    ∙ ap (λ (r : Option ℕ). (target, c.settle-settled.new.self) ∷ kept_beside r (without target es)) c.settle-settled.ensures.room
    ∙ ap (λ (vs : List Stored). (target, vs) ∷ kept_beside (room_beside bytes (variants_weight c.add.new.self)) (without target es)) c.settle-settled.ensures.variants
    ∙ ap kept c.in_ok-add.ensures.ok
    ∙ sym put)
    (c.drop_others-others.ensures.cap ∙ ap (λ k. k.cap) c.promote.ensures.entries)

pub returns-clause-total : goal.returns-clause-total
returns-clause-total g c =
    let target = c.args.target.now in let es = c.args.keys.now.entries in
    let is = known target es c.in-Some.variants.now (sym c.in-Some.ensures.value) in
    let first = ap (λ k. k.entries) c.promote.ensures.entries ∙ is.first c.settle-settled.new.self in
    let all = c.drop_others-others.ensures.entries ∙ ap (λ (l : Entries). take 1 l ++ kept_beside c.settle-settled.result.room (drop 1 l)) first in
    let beside = ap (λ (l : Entries). entries_weight (kept_beside c.settle-settled.result.room (drop 1 l))) first in
    omega (
      arith,
      c.settle-settled.ensures.weight,
      c.drop_others-others.ensures.weight,
      beside,
      ap entries_weight all,
      entries_weight-cons (target, c.settle-settled.new.self) (kept_beside c.settle-settled.result.room (without target es)),
    )
