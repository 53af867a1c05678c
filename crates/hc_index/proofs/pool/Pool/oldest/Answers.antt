use Rattle.hc_index.proofs.PoolLemmas.{first_is_oldest}
use Rattle.hc_index.proofs.pool.Pool.oldest.Goals as goal

pub returns-in-Some-clause-oldest : goal.returns-in-Some-clause-oldest
returns-in-Some-clause-oldest c = λ b n is. first_is_oldest c.args.self.now.windows c.in-Some.field-0.now b n c.in-Some.ensures.least is

pub returns-in-Some-clause-few : goal.returns-in-Some-clause-few
returns-in-Some-clause-few c = c.args.self.now.in_order c.in-Some.field-0.now.0 c.in-Some.field-0.now.1 c.in-Some.ensures.member
