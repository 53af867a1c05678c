use Rattle.std.proofs.Common.{ℕ, ◌-◌, List, ◌++◌, refl, ap, ◌∙◌}
use Rattle.hc_framing.proofs.ReaderLemmas.{head_awaited, head_faulty, body_begun, body_broken, body_whole, head_faulty_shows, body_broken_shows}
use Rattle.hc_framing.proofs.reader.MessageReader.feed_head.Goals as goal

pub returns-in-Err-clause-gives : goal.returns-in-Err-clause-gives
returns-in-Err-clause-gives g c = λ kind room octets agrees.
    head_faulty g.H.MessageHead.form g.met.H.MessageHead.laws
    kind room c.args.self.now (record c.args.self.now { start = c.extend_from_slice.new.self; search = c.find_empty_line-search.result.0 }) octets c.args.piece.now c.front_of-near.result.now c.split_at.result.1.now c.saturating_sub.result c.find_empty_line-search.result.1 c.in-Err.fault
    (record {
      stage_is = c.requires.stage;
      agrees = agrees;
      searches = record {
        near_is = c.front_of-near.ensures;
        within = c.find_empty_line-search.ensures.within;
        after_is = c.find_empty_line-search.ensures.stands;
        all = c.find_empty_line-search.ensures.all;
        first = c.find_empty_line-search.ensures.first;
      };
      most_is = c.saturating_sub.ensures ∙ ap (λ (n : ℕ). c.args.self.now.room.octets - n) c.len.ensures;
      kind_is = refl;
      room_is = refl;
      still = refl;
      shown_is = refl;
      start_is = c.in_ok-extend_from_slice.ensures.ok ∙ ap (λ (o : List ℕ). c.args.self.now.start ++ o) c.split_at.ensures.front;
      rest_is = c.split_at.ensures.back;
    }) c.in-Err.ensures.1

pub returns-in-Err-clause-head : goal.returns-in-Err-clause-head
returns-in-Err-clause-head g c = λ kind room octets agrees.
    head_faulty_shows g.H.MessageHead.form g.met.H.MessageHead.laws
    kind room c.args.self.now (record c.args.self.now { start = c.extend_from_slice.new.self; search = c.find_empty_line-search.result.0 }) c.read_head.new.self octets c.args.piece.now c.front_of-near.result.now c.split_at.result.1.now c.saturating_sub.result c.find_empty_line-search.result.1 c.in-Err.fault
    (record {
      stage_is = c.requires.stage;
      agrees = agrees;
      searches = record {
        near_is = c.front_of-near.ensures;
        within = c.find_empty_line-search.ensures.within;
        after_is = c.find_empty_line-search.ensures.stands;
        all = c.find_empty_line-search.ensures.all;
        first = c.find_empty_line-search.ensures.first;
      };
      most_is = c.saturating_sub.ensures ∙ ap (λ (n : ℕ). c.args.self.now.room.octets - n) c.len.ensures;
      kind_is = refl;
      room_is = refl;
      still = refl;
      shown_is = refl;
      start_is = c.in_ok-extend_from_slice.ensures.ok ∙ ap (λ (o : List ℕ). c.args.self.now.start ++ o) c.split_at.ensures.front;
      rest_is = c.split_at.ensures.back;
    }) c.in-Err.ensures

pub returns-in-Ok-None-clause-gives : goal.returns-in-Ok-None-clause-gives
returns-in-Ok-None-clause-gives g c = λ kind room octets agrees.
    head_awaited g.H.MessageHead.form g.met.H.MessageHead.laws
    kind room c.args.self.now (record c.args.self.now { start = c.extend_from_slice.new.self; search = c.find_empty_line-search.result.0 }) c.read_head.new.self octets c.args.piece.now c.front_of-near.result.now c.split_at.result.1.now c.saturating_sub.result c.find_empty_line-search.result.1
    (record {
      stage_is = c.requires.stage;
      agrees = agrees;
      searches = record {
        near_is = c.front_of-near.ensures;
        within = c.find_empty_line-search.ensures.within;
        after_is = c.find_empty_line-search.ensures.stands;
        all = c.find_empty_line-search.ensures.all;
        first = c.find_empty_line-search.ensures.first;
      };
      most_is = c.saturating_sub.ensures ∙ ap (λ (n : ℕ). c.args.self.now.room.octets - n) c.len.ensures;
      kind_is = refl;
      room_is = refl;
      still = refl;
      shown_is = refl;
      start_is = c.in_ok-extend_from_slice.ensures.ok ∙ ap (λ (o : List ℕ). c.args.self.now.start ++ o) c.split_at.ensures.front;
      rest_is = c.split_at.ensures.back;
    }) (rw c.in-Ok-None.field-0-is at c.in-Ok-None.ensures)

pub returns-in-Ok-More-clause-gives : goal.returns-in-Ok-More-clause-gives
returns-in-Ok-More-clause-gives g c = λ kind room octets agrees.
    body_begun g.H.MessageHead.form g.met.H.MessageHead.laws
    kind room c.args.self.now (record c.args.self.now { start = c.extend_from_slice.new.self; search = c.find_empty_line-search.result.0 }) c.read_head.new.self c.begin_body.new.self octets c.args.piece.now c.front_of-near.result.now c.split_at.result.1.now c.saturating_sub.result c.find_empty_line-search.result.1 c.in-Ok-Some.framing
    (record {
      stage_is = c.requires.stage;
      agrees = agrees;
      searches = record {
        near_is = c.front_of-near.ensures;
        within = c.find_empty_line-search.ensures.within;
        after_is = c.find_empty_line-search.ensures.stands;
        all = c.find_empty_line-search.ensures.all;
        first = c.find_empty_line-search.ensures.first;
      };
      most_is = c.saturating_sub.ensures ∙ ap (λ (n : ℕ). c.args.self.now.room.octets - n) c.len.ensures;
      kind_is = refl;
      room_is = refl;
      still = refl;
      shown_is = refl;
      start_is = c.in_ok-extend_from_slice.ensures.ok ∙ ap (λ (o : List ℕ). c.args.self.now.start ++ o) c.split_at.ensures.front;
      rest_is = c.split_at.ensures.back;
    }) (rw c.in-Ok-Some.field-0-is at c.in-Ok-Some.ensures) (rw c.in-Ok-More.field-0-is at c.in-Ok-More.ensures)

pub returns-in-Err-begin_body-clause-gives : goal.returns-in-Err-begin_body-clause-gives
returns-in-Err-begin_body-clause-gives g c = λ kind room octets agrees.
    body_broken g.H.MessageHead.form g.met.H.MessageHead.laws
    kind room c.args.self.now (record c.args.self.now { start = c.extend_from_slice.new.self; search = c.find_empty_line-search.result.0 }) c.read_head.new.self c.begin_body.new.self octets c.args.piece.now c.front_of-near.result.now c.split_at.result.1.now c.saturating_sub.result c.find_empty_line-search.result.1 c.in-Ok-Some.framing c.in-Err-begin_body.fault
    (record {
      stage_is = c.requires.stage;
      agrees = agrees;
      searches = record {
        near_is = c.front_of-near.ensures;
        within = c.find_empty_line-search.ensures.within;
        after_is = c.find_empty_line-search.ensures.stands;
        all = c.find_empty_line-search.ensures.all;
        first = c.find_empty_line-search.ensures.first;
      };
      most_is = c.saturating_sub.ensures ∙ ap (λ (n : ℕ). c.args.self.now.room.octets - n) c.len.ensures;
      kind_is = refl;
      room_is = refl;
      still = refl;
      shown_is = refl;
      start_is = c.in_ok-extend_from_slice.ensures.ok ∙ ap (λ (o : List ℕ). c.args.self.now.start ++ o) c.split_at.ensures.front;
      rest_is = c.split_at.ensures.back;
    }) (rw c.in-Ok-Some.field-0-is at c.in-Ok-Some.ensures) c.in-Err-begin_body.ensures

pub returns-in-Err-begin_body-clause-head : goal.returns-in-Err-begin_body-clause-head
returns-in-Err-begin_body-clause-head g c = λ kind room octets agrees.
    body_broken_shows g.H.MessageHead.form g.met.H.MessageHead.laws
    kind room c.args.self.now (record c.args.self.now { start = c.extend_from_slice.new.self; search = c.find_empty_line-search.result.0 }) c.read_head.new.self c.begin_body.new.self octets c.args.piece.now c.front_of-near.result.now c.split_at.result.1.now c.saturating_sub.result c.find_empty_line-search.result.1 c.in-Ok-Some.framing c.in-Err-begin_body.fault
    (record {
      stage_is = c.requires.stage;
      agrees = agrees;
      searches = record {
        near_is = c.front_of-near.ensures;
        within = c.find_empty_line-search.ensures.within;
        after_is = c.find_empty_line-search.ensures.stands;
        all = c.find_empty_line-search.ensures.all;
        first = c.find_empty_line-search.ensures.first;
      };
      most_is = c.saturating_sub.ensures ∙ ap (λ (n : ℕ). c.args.self.now.room.octets - n) c.len.ensures;
      kind_is = refl;
      room_is = refl;
      still = refl;
      shown_is = refl;
      start_is = c.in_ok-extend_from_slice.ensures.ok ∙ ap (λ (o : List ℕ). c.args.self.now.start ++ o) c.split_at.ensures.front;
      rest_is = c.split_at.ensures.back;
    }) (rw c.in-Ok-Some.field-0-is at c.in-Ok-Some.ensures) c.in-Err-begin_body.ensures

pub returns-in-Ok-Whole-clause-gives : goal.returns-in-Ok-Whole-clause-gives
returns-in-Ok-Whole-clause-gives g c = λ kind room octets agrees.
    body_whole g.H.MessageHead.form g.met.H.MessageHead.laws
    kind room c.args.self.now (record c.args.self.now { start = c.extend_from_slice.new.self; search = c.find_empty_line-search.result.0 }) c.read_head.new.self c.begin_body.new.self octets c.args.piece.now c.front_of-near.result.now c.split_at.result.1.now c.saturating_sub.result c.find_empty_line-search.result.1 c.in-Ok-Whole.taken c.in-Ok-Some.framing
    (record {
      stage_is = c.requires.stage;
      agrees = agrees;
      searches = record {
        near_is = c.front_of-near.ensures;
        within = c.find_empty_line-search.ensures.within;
        after_is = c.find_empty_line-search.ensures.stands;
        all = c.find_empty_line-search.ensures.all;
        first = c.find_empty_line-search.ensures.first;
      };
      most_is = c.saturating_sub.ensures ∙ ap (λ (n : ℕ). c.args.self.now.room.octets - n) c.len.ensures;
      kind_is = refl;
      room_is = refl;
      still = refl;
      shown_is = refl;
      start_is = c.in_ok-extend_from_slice.ensures.ok ∙ ap (λ (o : List ℕ). c.args.self.now.start ++ o) c.split_at.ensures.front;
      rest_is = c.split_at.ensures.back;
    }) (rw c.in-Ok-Some.field-0-is at c.in-Ok-Some.ensures) (rw c.in-Ok-Whole.field-0-is at c.in-Ok-Whole.ensures)
