use Rattle.std.proofs.Common.{arith, ◌≡◌, ◌∷◌, ◌-◌, ap, sym, ◌∙◌, take, drop, ◌++◌, List, Option, Some, ℕ}
use Rattle.std.specs.Prelude.{slice_get}
use Rattle.std.specs.Option.{option_map_or}
use Rattle.hc_head.specs.declared.head.Target.{Target}
use Rattle.hc_update.specs.declared.stored.Stored.{Stored}
use Rattle.std.specs.Map.{remove_entry}
use Rattle.hc_head.specs.Targets.{same_target}
use Rattle.hc_store.specs.Entries.{Entries, entries_weight, variants_weight}
use Rattle.hc_store.specs.Changes.{last_variants}
use Rattle.hc_store.specs.Trims.{kept_beside, room_beside, dropped_weight}
use Rattle.hc_store.proofs.TrimLemmas.{settled_light}
use Rattle.hc_store.proofs.KeyLemmas.{unknown, cache_is, taken_weighs, put_unknown}
use Rattle.hc_store.proofs.keys.put_new.Goals as goal

pub weight_behind-requires : goal.weight_behind-requires
weight_behind-requires g c =
    let target = c.args.target in let es = c.args.keys.now.entries in let cap = c.args.keys.now.cap in
    let is = unknown target es c.requires.new in
    let dropped : c.in_ok-dropped.dropped ≡ slice_get es (cap - 1) =
    c.in_ok-dropped.ensures.old ∙ ap (λ (o : Option (List Stored)). option_map_or (λ old. Some (target, old)) o (slice_get es (cap - 1))) is.value in
    omega (arith, c.requires.weighs, ap dropped_weight dropped, taken_weighs (cap - 1) es (omega (arith, c.requires.few_keys)))

pub drop_others-others-requires : goal.drop_others-others-requires
drop_others-others-requires g c =
    let target = c.args.target in let es = c.args.keys.now.entries in let cap = c.args.keys.now.cap in
    let is = unknown target es c.requires.new in
    let dropped : c.in_ok-dropped.dropped ≡ slice_get es (cap - 1) =
    c.in_ok-dropped.ensures.old ∙ ap (λ (o : Option (List Stored)). option_map_or (λ old. Some (target, old)) o (slice_get es (cap - 1))) is.value in
    let first : c.push.new.self.entries ≡ (target, c.settle-settled.new.self) ∷ take (cap - 1) es =
    ap (λ k. k.entries) c.in_ok-dropped.ensures.entries
    ∙ ap (λ (o : Option (Target × List Stored)). option_map_or (λ (e : Target × List Stored). (e.0, c.settle-settled.new.self) ∷ remove_entry (same_target target) es) o
    ((target, c.settle-settled.new.self) ∷ take (cap - 1) es)) is.entry in
    omega (
      arith,
      c.weight_behind.ensures,
      c.requires.weighs,
      ap dropped_weight dropped,
      taken_weighs (cap - 1) es (omega (arith, c.requires.few_keys)),
      ap (λ (l : Entries). entries_weight (drop 1 l)) first,
    )

pub overflow_add-result : goal.overflow_add-result
overflow_add-result g c =
    let target = c.args.target in let es = c.args.keys.now.entries in let cap = c.args.keys.now.cap in
    let is = unknown target es c.requires.new in
    let first : c.push.new.self.entries ≡ (target, c.settle-settled.new.self) ∷ take (cap - 1) es =
    ap (λ k. k.entries) c.in_ok-dropped.ensures.entries
    ∙ ap (λ (o : Option (Target × List Stored)). option_map_or (λ (e : Target × List Stored). (e.0, c.settle-settled.new.self) ∷ remove_entry (same_target target) es) o
    ((target, c.settle-settled.new.self) ∷ take (cap - 1) es)) is.entry in
    let light = settled_light c.args.bytes c.in_ok-variants.variants (take (cap - 1) es) in
    let beside = ap (λ (l : Entries). entries_weight (kept_beside c.settle-settled.result.room (drop 1 l))) first
    ∙ ap (λ (r : Option ℕ). entries_weight (kept_beside r (take (cap - 1) es))) c.settle-settled.ensures.room in
    omega (arith, light, c.ranges.bytes.fits, c.settle-settled.ensures.weight, ap variants_weight c.settle-settled.ensures.variants, c.drop_others-others.ensures.weight, beside)

pub returns-clause-ok : goal.returns-clause-ok
returns-clause-ok g c =
    let target = c.args.target in let es = c.args.keys.now.entries in let cap = c.args.keys.now.cap in let bytes = c.args.bytes in
    let is = unknown target es c.requires.new in
    let first : c.push.new.self.entries ≡ (target, c.settle-settled.new.self) ∷ take (cap - 1) es =
    ap (λ k. k.entries) c.in_ok-dropped.ensures.entries
    ∙ ap (λ (o : Option (Target × List Stored)). option_map_or (λ (e : Target × List Stored). (e.0, c.settle-settled.new.self) ∷ remove_entry (same_target target) es) o
    ((target, c.settle-settled.new.self) ∷ take (cap - 1) es)) is.entry in
    let kept : List Stored → Entries = λ vs. (target, last_variants bytes vs) ∷ kept_beside (room_beside bytes (variants_weight vs)) (take (cap - 1) es) in
    cache_is c.drop_others-others.new.keys _ _
    (c.drop_others-others.ensures.entries
    ∙ ap (λ (l : Entries). take 1 l ++ kept_beside c.settle-settled.result.room (drop 1 l)) first
    ∙ ap (λ (r : Option ℕ). (target, c.settle-settled.new.self) ∷ kept_beside r (take (cap - 1) es)) c.settle-settled.ensures.room
    ∙ ap (λ (vs : List Stored). (target, vs) ∷ kept_beside (room_beside bytes (variants_weight c.in_ok-variants.variants)) (take (cap - 1) es)) c.settle-settled.ensures.variants
    ∙ ap kept c.in_ok-variants.ensures
    ∙ sym (put_unknown cap bytes target c.args.stored es is c.requires.some_keys c.requires.light))
    (c.drop_others-others.ensures.cap ∙ ap (λ k. k.cap) c.in_ok-dropped.ensures.entries)
