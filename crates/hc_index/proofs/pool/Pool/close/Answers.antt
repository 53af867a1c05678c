use Rattle.std.proofs.Common.{◌+◌, length, ◌∙◌}
use Rattle.hc_index.proofs.PoolLemmas.{closed_within, apart}
use Rattle.hc_index.proofs.pool.Pool.close.Goals as goal

pub invariant_of-self : goal.invariant_of-self
invariant_of-self c =
    let pool = c.args.self.now in
    record {
      few = pool.few;
      in_order = closed_within (pool.dropped + length pool.answers.items) c.args.behind c.args.number pool.windows c.remove.new.self c.remove.ensures.updates pool.in_order;
    }

pub returns : goal.returns
returns c = record {
  others = λ b n ne. c.give_up.ensures.windows b n ∙ c.remove.ensures.updates.2 (b, n) (apart c.args.behind c.args.number b n ne);
  answers = λ b n ne is. c.give_up.ensures.answers b n (c.remove.ensures.updates.2 (b, n) (apart c.args.behind c.args.number b n ne) ∙ is);
}
