use Rattle.std.proofs.Common.{arith, ◌≡◌, ◌∷◌, ap, sym, refl, ◌∙◌, subst, take, drop, ◌++◌, cond, true, false, Bool, List, [], map, Option, ℕ}
use Rattle.std.specs.List.{list_any}
use Rattle.std.specs.Prelude.{unwrap_or}
use Rattle.hc_update.specs.declared.stored.Stored.{Stored}
use Rattle.hc_store.specs.Entries.{Entries, entries_weight, variants_weight}
use Rattle.hc_store.specs.Changes.{Leaves, after_freshen, after_validation, is_validated, keyed, last_variants, trimmed, with_variants, without}
use Rattle.hc_store.specs.Trims.{kept_beside, room_beside, without_empty}
use Rattle.hc_store.specs.Views.{validation_seen}
use Rattle.hc_store.proofs.TrimLemmas.{settled_light, trimmed_is}
use Rattle.hc_store.proofs.KeyLemmas.{known, unknown, leaves_lighter, none_freshened, one_freshened, emptied, first_emptied, with_weighs, keyed_weighs, not_known, holdings_are}
use Rattle.hc_store.proofs.keys.freshen_key.Goals as goal

pub returns-in_default-clause-freshens : goal.returns-in_default-clause-freshens
returns-in_default-clause-freshens g c =
    let target = c.args.target.now in let es = c.args.keys.now.entries in
    let is = unknown target es (not_known target es c.in_default.ensures.value) in
    record {
      left = [];
      leaves = subst (λ (l : List Stored). Leaves c.args.keeps_cookies (validation_seen c.args.validation) l []) (sym (ap (λ (o : Option (List Stored)). unwrap_or o []) is.value)) refl;
      becomes = ap (λ (l : Entries). record { entries = l; keys = c.args.keys.now.cap; bytes = c.args.bytes; keeps_cookies = c.args.keeps_cookies }) (sym is.others);
    }

pub weight_without-others-requires : goal.weight_without-others-requires
weight_without-others-requires g c =
    let target = c.args.target.now in let es = c.args.keys.now.entries in let bytes = c.args.bytes in let v = validation_seen c.args.validation in
    let is = known target es c.in-Some.variants.now (sym c.in-Some.ensures.value) in
    omega (arith, is.weighs, ap variants_weight c.as_slice.ensures, c.requires.weighs)

pub weight_within-left-requires : goal.weight_within-left-requires
weight_within-left-requires g c =
    let target = c.args.target.now in let es = c.args.keys.now.entries in let bytes = c.args.bytes in let v = validation_seen c.args.validation in
    let is = known target es c.in-Some.variants.now (sym c.in-Some.ensures.value) in
    let left = c.freshen.ensures.left in
    let none : list_any (is_validated v) left ≡ false = sym c.freshen.ensures.some ∙ c.if-not-freshen.true in
    let same = c.freshen.ensures.becomes ∙ none_freshened v left none in
    omega (
      arith,
      is.weighs,
      c.requires.weighs,
      c.requires.light,
      leaves_lighter c.args.keeps_cookies v c.in-Some.variants.now left c.freshen.ensures.leaves,
      ap variants_weight (c.as_slice-then-not-freshen.ensures ∙ same),
    )

pub overflow_add-result : goal.overflow_add-result
overflow_add-result g c =
    let target = c.args.target.now in let es = c.args.keys.now.entries in let bytes = c.args.bytes in let v = validation_seen c.args.validation in
    let is = known target es c.in-Some.variants.now (sym c.in-Some.ensures.value) in
    let left = c.freshen.ensures.left in
    let none : list_any (is_validated v) left ≡ false = sym c.freshen.ensures.some ∙ c.if-not-freshen.true in
    let same = c.freshen.ensures.becomes ∙ none_freshened v left none in
    omega (
      arith,
      is.weighs,
      c.requires.weighs,
      c.requires.light,
      c.ranges.bytes.fits,
      leaves_lighter c.args.keeps_cookies v c.in-Some.variants.now left c.freshen.ensures.leaves,
      ap variants_weight (c.as_slice-then-not-freshen.ensures ∙ same),
      c.weight_within-left.ensures,
      c.weight_without-others.ensures,
      ap variants_weight c.as_slice.ensures,
    )

pub returns-then-not-freshen-clause-freshens : goal.returns-then-not-freshen-clause-freshens
returns-then-not-freshen-clause-freshens g c =
    let target = c.args.target.now in let es = c.args.keys.now.entries in let bytes = c.args.bytes in let v = validation_seen c.args.validation in
    let is = known target es c.in-Some.variants.now (sym c.in-Some.ensures.value) in
    let left = c.freshen.ensures.left in
    let none : list_any (is_validated v) left ≡ false = sym c.freshen.ensures.some ∙ c.if-not-freshen.true in
    let same = c.freshen.ensures.becomes ∙ none_freshened v left none in
    let all = ap (λ k. k.entries) c.remove_if_empty.ensures ∙ emptied target es c.in-Some.variants.now c.freshen.new.self is ∙ ap (λ (l : List Stored). with_variants target l es) same in
    let wanted : after_freshen bytes v target left es ≡ with_variants target left es =
    ap (λ (b : Bool). cond b (trimmed bytes ((target, map (after_validation v) left) ∷ without target es)) (with_variants target left es)) none in
    record {
      left = left;
      leaves = subst (λ (l : List Stored). Leaves c.args.keeps_cookies v l left) (sym is.variants) c.freshen.ensures.leaves;
      becomes = holdings_are bytes c.args.keeps_cookies (all ∙ sym wanted) (ap (λ k. k.cap) c.remove_if_empty.ensures);
    }

pub returns-then-not-freshen-clause-total : goal.returns-then-not-freshen-clause-total
returns-then-not-freshen-clause-total g c =
    let target = c.args.target.now in let es = c.args.keys.now.entries in let bytes = c.args.bytes in let v = validation_seen c.args.validation in
    let is = known target es c.in-Some.variants.now (sym c.in-Some.ensures.value) in
    let all = ap (λ k. k.entries) c.remove_if_empty.ensures ∙ emptied target es c.in-Some.variants.now c.freshen.new.self is in
    omega (
      arith,
      ap entries_weight all,
      with_weighs target es c.in-Some.variants.now c.freshen.new.self is,
      is.weighs,
      c.requires.weighs,
      c.weight_within-left.ensures,
      ap variants_weight c.as_slice-then-not-freshen.ensures,
      c.weight_without-others.ensures,
      ap variants_weight c.as_slice.ensures,
    )

pub drop_others-others-requires : goal.drop_others-others-requires
drop_others-others-requires g c =
    let target = c.args.target.now in let es = c.args.keys.now.entries in let bytes = c.args.bytes in let v = validation_seen c.args.validation in
    let is = known target es c.in-Some.variants.now (sym c.in-Some.ensures.value) in
    let first = ap (λ k. k.entries) c.promote.ensures.entries ∙ is.first c.settle-settled.new.self in
    omega (arith, is.weighs, ap variants_weight c.as_slice.ensures, c.requires.weighs, c.weight_without-others.ensures, ap (λ (l : Entries). entries_weight (drop 1 l)) first)

pub overflow_add-result-2 : goal.overflow_add-result-2
overflow_add-result-2 g c =
    let target = c.args.target.now in let es = c.args.keys.now.entries in let bytes = c.args.bytes in let v = validation_seen c.args.validation in
    let is = known target es c.in-Some.variants.now (sym c.in-Some.ensures.value) in
    let first = ap (λ k. k.entries) c.promote.ensures.entries ∙ is.first c.settle-settled.new.self in
    let light = settled_light bytes c.freshen.new.self (without target es) in
    let beside = ap (λ (l : Entries). entries_weight (kept_beside c.settle-settled.result.room (drop 1 l))) first
    ∙ ap (λ (r : Option ℕ). entries_weight (kept_beside r (without target es))) c.settle-settled.ensures.room in
    omega (arith, light, c.ranges.bytes.fits, c.settle-settled.ensures.weight, ap variants_weight c.settle-settled.ensures.variants, c.drop_others-others.ensures.weight, beside)

pub returns-clause-freshens : goal.returns-clause-freshens
returns-clause-freshens g c =
    let target = c.args.target.now in let es = c.args.keys.now.entries in let bytes = c.args.bytes in let v = validation_seen c.args.validation in
    let is = known target es c.in-Some.variants.now (sym c.in-Some.ensures.value) in
    let left = c.freshen.ensures.left in
    let some : list_any (is_validated v) left ≡ true = sym c.freshen.ensures.some ∙ c.if-not-freshen.false in
    let after = map (after_validation v) left in
    let kept : List Stored → Entries = λ vs. keyed target (last_variants bytes vs) ++ kept_beside (room_beside bytes (variants_weight vs)) (without target es) in
    let first = ap (λ k. k.entries) c.promote.ensures.entries ∙ is.first c.settle-settled.new.self in
    let beside = kept_beside c.settle-settled.result.room (without target es) in
    let all = ap (λ k. k.entries) c.remove_if_empty-2.ensures
    ∙ ap (without_empty target) (c.drop_others-others.ensures.entries ∙ ap (λ (l : Entries). take 1 l ++ kept_beside c.settle-settled.result.room (drop 1 l)) first)
    ∙ first_emptied target c.settle-settled.new.self beside in
    let wanted : after_freshen bytes v target left es ≡ kept after =
    ap (λ (b : Bool). cond b (trimmed bytes ((target, after) ∷ without target es)) (with_variants target left es)) some
    ∙ trimmed_is bytes target after (without target es) (one_freshened v left some) in
    record {
      left = left;
      leaves = subst (λ (l : List Stored). Leaves c.args.keeps_cookies v l left) (sym is.variants) c.freshen.ensures.leaves;
      becomes = holdings_are bytes c.args.keeps_cookies
          (all
          ∙ ap (λ (r : Option ℕ). keyed target c.settle-settled.new.self ++ kept_beside r (without target es)) c.settle-settled.ensures.room
          ∙ ap (λ (l : List Stored). keyed target l ++ kept_beside (room_beside bytes (variants_weight c.freshen.new.self)) (without target es)) c.settle-settled.ensures.variants
          ∙ ap kept c.freshen.ensures.becomes
          ∙ sym wanted)
          (ap (λ k. k.cap) c.remove_if_empty-2.ensures ∙ c.drop_others-others.ensures.cap ∙ ap (λ k. k.cap) c.promote.ensures.entries);
    }

pub returns-clause-total : goal.returns-clause-total
returns-clause-total g c =
    let target = c.args.target.now in let es = c.args.keys.now.entries in let bytes = c.args.bytes in let v = validation_seen c.args.validation in
    let is = known target es c.in-Some.variants.now (sym c.in-Some.ensures.value) in
    let first = ap (λ k. k.entries) c.promote.ensures.entries ∙ is.first c.settle-settled.new.self in
    let beside = kept_beside c.settle-settled.result.room (without target es) in
    let all = ap (λ k. k.entries) c.remove_if_empty-2.ensures
    ∙ ap (without_empty target) (c.drop_others-others.ensures.entries ∙ ap (λ (l : Entries). take 1 l ++ kept_beside c.settle-settled.result.room (drop 1 l)) first)
    ∙ first_emptied target c.settle-settled.new.self beside in
    omega (
      arith,
      ap entries_weight all,
      keyed_weighs target c.settle-settled.new.self beside,
      c.settle-settled.ensures.weight,
      c.drop_others-others.ensures.weight,
      ap (λ (l : Entries). entries_weight (kept_beside c.settle-settled.result.room (drop 1 l))) first,
    )
