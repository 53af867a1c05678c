use Rattle.std.proofs.Common.{rules}
use Rattle.std.proofs.lemmas.Result.{on_ok_weaker}
use Rattle.hc_index.specs.declared.list_index.ListIndex.{ListIndex}
use Rattle.hc_index.proofs.NoteLemmas.{notes_answer}
use Rattle.hc_index.proofs.list_index.ListIndexNoting.answer_forward.Goals as goal

pub returns : goal.returns
returns c =
    let new : ListIndex = record {
      alloc = c.args.self.now.alloc;
      lives = c.begin_live.new.lives;
      exchanges = c.add_to_windows.new.exchanges;
      forwards = c.take.new.self;
      errors = c.keep_error.new.positions;
      failures = c.args.self.now.failures;
    } in
    on_ok_weaker c.begin_live.result
    (λ begun. notes_answer c.args.format c.args.self.now new c.in-Some.forward c.args.number c.args.position c.args.moment c.args.response c.answer_lives.new.lives.items (record {
      forwards = c.in-Some.ensures;
      errors = c.in_ok-keep_error.ensures;
      exchanges = rw c.told_in-cause.ensures at c.in_ok-add_to_windows.ensures;
      answered = c.in_ok-answer_lives.ensures;
      begun = begun;
      failures = search rules;
    }))
    c.begin_live.ensures
