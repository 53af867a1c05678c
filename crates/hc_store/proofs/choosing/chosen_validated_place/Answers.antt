use Rattle.std.proofs.Common.{rules, ◌∙◌, ap, Some, refl, length}
use Rattle.std.proofs.lemmas.Option.{slice_get_read}
use Rattle.std.specs.Option.{option_map}
use Rattle.hc_store.specs.Choosing.{is_selected_validated}
use Rattle.hc_store.proofs.ChoiceLemmas.{choice_taken, choice_kept}
use Rattle.hc_store.proofs.choosing.chosen_validated_place.Goals.{then-branch, else-branch}
use Rattle.hc_store.proofs.choosing.chosen_validated_place.Goals as goal

pub loop-place-preserved : goal.loop-place-preserved
loop-place-preserved c =
    let xs = c.args.variants.now in let x = c.index-variants-place.result in
    elim c.if-branch.branch [
      | then-branch w ↦ record {
        so_far = ap (option_map (λ b. b.variant.now)) w.best-is ∙ ap Some w.preferred.ensures.variant
            ∙ choice_taken (is_selected_validated c.args.presented.now c.args.position) xs c.loop-place.place x _ c.loop-place-test.true c.index-variants-place.is (search rules) c.loop-place.invariant.so_far;
        at_place = rw w.best-is (w.preferred.ensures.place xs c.loop-place.invariant.at_place
            (slice_get_read xs (length xs) c.loop-place.place x refl c.loop-place-test.true c.index-variants-place.is));
      }
      | else-branch w ↦ record {
        so_far = ap (option_map (λ b. b.variant.now)) w.best-is
            ∙ choice_kept (is_selected_validated c.args.presented.now c.args.position) xs c.loop-place.place x _ c.loop-place-test.true c.index-variants-place.is (search rules) c.loop-place.invariant.so_far;
        at_place = rw w.best-is c.loop-place.invariant.at_place;
      }
    ]
