use Rattle.std.proofs.Common.{sym, ◌∙◌}
use Rattle.hc_index.specs.Lists.{forward_seen}
use Rattle.hc_index.proofs.LiveLemmas.{all_stay}
use Rattle.hc_index.proofs.lives.answer_lives.Goals as goal

pub returns-then-not-may_change : goal.returns-then-not-may_change
returns-then-not-may_change c =
    all_stay (forward_seen c.args.forward.now) c.args.position c.args.moment c.args.response.now c.args.lives.now.items (sym c.may_change.ensures ∙ c.if-not-may_change.true)
