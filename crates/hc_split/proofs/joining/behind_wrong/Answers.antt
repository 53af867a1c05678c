use Rattle.hc_split.proofs.JoinedLemmas.{wrong_earlier, wrong_later, wrong_right}
use Rattle.hc_split.proofs.joining.behind_wrong.Goals as goal

pub returns-then-other-position-clause-says : goal.returns-then-other-position-clause-says
returns-then-other-position-clause-says c = λ part format settings records h first told.
    wrong_earlier part format settings records h c.args.number c.args.position c.in-Wrong.other c.args.why c.in-Wrong.reason first (rw c.in-Wrong.is at told) c.if-other-position.true

pub returns-in-Right-clause-says : goal.returns-in-Right-clause-says
returns-in-Right-clause-says c = λ part format settings records h first told.
    wrong_right part format settings records h c.args.number c.args.position c.args.why c.in-Right.field-0 first (rw c.in-Right.is at told)

pub returns-else-other-position-clause-says : goal.returns-else-other-position-clause-says
returns-else-other-position-clause-says c = λ part format settings records h first told.
    wrong_later part format settings records h c.args.number c.args.position c.in-Wrong.other c.args.why c.in-Wrong.reason first (rw c.in-Wrong.is at told) c.if-other-position.false
