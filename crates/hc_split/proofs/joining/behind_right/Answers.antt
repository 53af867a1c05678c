use Rattle.hc_split.proofs.JoinedLemmas.{right_wrong}
use Rattle.hc_split.proofs.joining.behind_right.Goals as goal

pub returns-in-Wrong-clause-says : goal.returns-in-Wrong-clause-says
returns-in-Wrong-clause-says c = λ part format settings records h are told.
    right_wrong part format settings records h c.args.number c.in-Wrong.position c.args.counts c.in-Wrong.why are (rw c.in-Wrong.is at told)
