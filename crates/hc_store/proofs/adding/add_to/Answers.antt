use Rattle.std.proofs.Common.{arith, ◌++◌, length, ap, ◌∙◌, length-drop}
use Rattle.std.specs.Prelude.{◌-◌, [], ◌∷◌, List}
use Rattle.std.specs.List.{list_any}
use Rattle.std.specs.Vec.{vec_capacity}
use Rattle.hc_store.specs.Choosing.{is_selected}
use Rattle.hc_store.specs.Changes.{last_ones}
use Rattle.hc_update.specs.declared.stored.Stored.{Stored}
use Rattle.hc_store.proofs.AddLemmas.{true_is_false, first_is_selected}
use Rattle.hc_store.proofs.MarkLemmas.{left_by, fewer_unmarked, room_left, marks_cut}
use Rattle.hc_store.proofs.adding.add_to.Goals as goal

pub returns-in_err-make_room-clause-no_vary : goal.returns-in_err-make_room-clause-no_vary
returns-in_err-make_room-clause-no_vary c = λ some none.
    let xs = c.args.variants.now.items in let test = is_selected c.args.stored.request.fields in
    let marks = marks_cut test xs _ _ _ _ _ c.as_slice.ensures.value c.in_ok-marks.ensures.answer c.len.ensures c.args.variants.now.ok.0 c.split_at.ensures.front in
    absurd (true_is_false (c.in_err-make_room.ensures.succeeds (ap (list_any (λ mark. mark)) marks ∙ first_is_selected c.args.stored.request.fields xs some none)))

pub make_place-requires : goal.make_place-requires
make_place-requires c =
    let xs = c.args.variants.now.items in let test = is_selected c.args.stored.request.fields in
    let marks = marks_cut test xs _ _ _ _ _ c.as_slice.ensures.value c.in_ok-marks.ensures.answer c.len.ensures c.args.variants.now.ok.0 c.split_at.ensures.front in
    let left = c.remove_marked.ensures.items ∙ left_by test xs _ _ marks c.make_room.ensures.items in
    omega (arith, ap length left, fewer_unmarked test xs)

pub returns-in_err-push-clause-err : goal.returns-in_err-push-clause-err
returns-in_err-push-clause-err c =
    let xs = c.args.variants.now.items in let test = is_selected c.args.stored.request.fields in
    let marks = marks_cut test xs _ _ _ _ _ c.as_slice.ensures.value c.in_ok-marks.ensures.answer c.len.ensures c.args.variants.now.ok.0 c.split_at.ensures.front in
    let left = c.remove_marked.ensures.items ∙ left_by test xs _ _ marks c.make_room.ensures.items in
    let made = c.make_room.new.variants in
    let fits = room_left test xs (vec_capacity made) (omega (arith, made.ok.0, made.ok.1, ap length c.make_room.ensures.items))
    (λ none. let left_room = c.in_ok-make_room.ensures.room (ap (list_any (λ mark. mark)) marks ∙ none) in omega (arith, left_room, made.ok.0, ap length c.make_room.ensures.items)) in
    let placed = c.make_place.new.variants in
    absurd (omega (
      arith,
      fits,
      c.in_err-push.ensures.full,
      ap length left,
      placed.ok.0,
      ap length c.make_place.ensures.items,
      length-drop (length c.remove_marked.new.variants.items - 15) c.remove_marked.new.variants.items,
      c.make_place.ensures.room,
      c.remove_marked.ensures.room,
    ))

pub returns-in_err-push-clause-no_vary : goal.returns-in_err-push-clause-no_vary
returns-in_err-push-clause-no_vary c = λ some none.
    let xs = c.args.variants.now.items in let test = is_selected c.args.stored.request.fields in
    let marks = marks_cut test xs _ _ _ _ _ c.as_slice.ensures.value c.in_ok-marks.ensures.answer c.len.ensures c.args.variants.now.ok.0 c.split_at.ensures.front in
    let left = c.remove_marked.ensures.items ∙ left_by test xs _ _ marks c.make_room.ensures.items in
    let made = c.make_room.new.variants in
    let fits = room_left test xs (vec_capacity made) (omega (arith, made.ok.0, made.ok.1, ap length c.make_room.ensures.items))
    (λ none. let left_room = c.in_ok-make_room.ensures.room (ap (list_any (λ mark. mark)) marks ∙ none) in omega (arith, left_room, made.ok.0, ap length c.make_room.ensures.items)) in
    let placed = c.make_place.new.variants in
    absurd (omega (
      arith,
      fits,
      c.in_err-push.ensures.full,
      ap length left,
      placed.ok.0,
      ap length c.make_place.ensures.items,
      length-drop (length c.remove_marked.new.variants.items - 15) c.remove_marked.new.variants.items,
      c.make_place.ensures.room,
      c.remove_marked.ensures.room,
    ))

pub returns-clause-ok : goal.returns-clause-ok
returns-clause-ok c =
    let xs = c.args.variants.now.items in let test = is_selected c.args.stored.request.fields in
    let marks = marks_cut test xs _ _ _ _ _ c.as_slice.ensures.value c.in_ok-marks.ensures.answer c.len.ensures c.args.variants.now.ok.0 c.split_at.ensures.front in
    let left = c.remove_marked.ensures.items ∙ left_by test xs _ _ marks c.make_room.ensures.items in
    c.in_ok-push.ensures.items ∙ ap (λ (ys : List Stored). ys ++ c.args.stored ∷ []) (c.make_place.ensures.items ∙ ap (last_ones 15) left)
