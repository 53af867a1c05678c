use Rattle.std.proofs.Common.{rules, refl}
use Rattle.hc_index.specs.declared.kept.PooledExchange.{PooledExchange}
use Rattle.hc_index.specs.declared.map_index.MapIndex.{MapIndex}
use Rattle.hc_index.proofs.MapLemmas.{notes_request}
use Rattle.hc_index.proofs.map_index.MapIndexNoting.open_exchange.Goals as goal

pub returns : goal.returns
returns c =
    let pooled : PooledExchange = record {
      exchange = record { number = c.args.number; position = c.args.position; request = c.args.request; target = c.args.target };
      behind = c.in_ok-behind.behind;
    } in
    let new : MapIndex = record {
      alloc = c.args.self.now.alloc;
      targets = c.open_at.new.targets;
      exchanges = c.insert.new.self;
      forwards = c.begin_anew.new.self;
    } in
    λ format moment body. notes_request format c.args.self.now c.args.number c.args.position moment (record { head = c.args.request; body = body }) pooled new
    (record {
      exchanges = λ e. search rules;
      targets = c.in_ok-behind.ensures;
      forwards = c.begin_anew.ensures;
    })
    refl
