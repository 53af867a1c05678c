use Rattle.hc_head.proofs.TargetLemmas.{other_scheme}
use Rattle.hc_head.proofs.targets.behind_scheme.Goals as goal

pub returns-else-eq_ignore_ascii_case-clause-none : goal.returns-else-eq_ignore_ascii_case-clause-none
returns-else-eq_ignore_ascii_case-clause-none c =
    other_scheme c.args.text.now c.in_ok-scheme.scheme.now c.in_ok-scheme.ensures.cases.1
    (λ same. let yes = c.if-eq_ignore_ascii_case.ensures.test.1 same in cc)
