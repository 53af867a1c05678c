use Rattle.std.proofs.Common.{rules}
use Rattle.hc_rules.proofs.SelectLemmas.{selected_without_vary}
use Rattle.hc_rules.proofs.selecting.selects_in.Goals as goal

pub returns-then-not-contains-clause-answer : goal.returns-then-not-contains-clause-answer
returns-then-not-contains-clause-answer c = selected_without_vary c.args.fields.now c.args.forwarded.now c.args.presented.now (search rules)
