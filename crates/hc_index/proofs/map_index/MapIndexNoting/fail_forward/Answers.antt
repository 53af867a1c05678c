use Rattle.std.proofs.Common.{refl}
use Rattle.std.proofs.lemmas.Result.{on_ok_weaker}
use Rattle.hc_index.specs.declared.map_index.MapIndex.{MapIndex}
use Rattle.hc_index.proofs.MapLemmas.{notes_failure}
use Rattle.hc_index.proofs.map_index.MapIndexNoting.fail_forward.Goals as goal

pub returns : goal.returns
returns c =
    let new : MapIndex = record {
      alloc = c.args.self.now.alloc;
      targets = c.fail_at.new.targets;
      exchanges = c.args.self.now.exchanges;
      forwards = c.take.new.self;
    } in
    λ format moment. on_ok_weaker c.fail_at.result
    (λ changes. notes_failure format c.args.self.now c.in-Some.forward c.args.number c.args.position moment new
    (record {
      forwards = c.in-Some.ensures;
      targets = changes;
      exchanges = refl;
    }))
    c.fail_at.ensures
