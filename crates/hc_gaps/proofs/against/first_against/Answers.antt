use Rattle.std.proofs.Common.{rules}
use Rattle.hc_gaps.proofs.AgainstLemmas.{what_is_left}
use Rattle.hc_gaps.proofs.against.first_against.Goals as goal

pub returns-clause-first : goal.returns-clause-first
returns-clause-first c = λ is.
    what_is_left c.args.state.now c.args.forward.now c.args.response.now c.read-telling.result is (search rules) (search rules) (search rules) c.read-telling.ensures
