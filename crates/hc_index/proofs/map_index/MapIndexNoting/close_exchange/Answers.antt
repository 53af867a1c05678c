use Rattle.std.proofs.Common.{rules}
use Rattle.hc_index.specs.declared.map_index.MapIndex.{MapIndex}
use Rattle.hc_index.proofs.MapLemmas.{notes_reply}
use Rattle.hc_index.proofs.map_index.MapIndexNoting.close_exchange.Goals as goal

pub returns-in-Some : goal.returns-in-Some
returns-in-Some c =
    let new : MapIndex = record {
      alloc = c.args.self.now.alloc;
      targets = c.close_at.new.targets;
      exchanges = c.remove.new.self;
      forwards = c.begin_anew.new.self;
    } in
    λ format position moment reply. notes_reply format c.args.self.now c.args.number position moment reply c.in-Some.pooled.exchange.target new
    (record {
      exchanges = λ e. search rules;
      targets = c.close_at.ensures;
      forwards = c.begin_anew.ensures;
    })
