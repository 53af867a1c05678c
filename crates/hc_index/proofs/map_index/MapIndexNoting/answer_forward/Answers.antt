use Rattle.std.proofs.Common.{refl}
use Rattle.std.proofs.lemmas.Result.{on_ok_weaker}
use Rattle.hc_index.specs.declared.map_index.MapIndex.{MapIndex}
use Rattle.hc_index.proofs.MapLemmas.{notes_response}
use Rattle.hc_index.proofs.map_index.MapIndexNoting.answer_forward.Goals as goal

pub returns : goal.returns
returns c =
    let new : MapIndex = record {
      alloc = c.args.self.now.alloc;
      targets = c.answer_at.new.targets;
      exchanges = c.args.self.now.exchanges;
      forwards = c.take.new.self;
    } in
    on_ok_weaker c.answer_at.result
    (λ changes. notes_response c.args.format c.args.self.now c.in-Some.forward c.args.number c.args.position c.args.moment c.args.response new
    (record {
      forwards = c.in-Some.ensures;
      targets = rw c.told_in-cause.ensures at changes;
      exchanges = refl;
    }))
    c.answer_at.ensures
