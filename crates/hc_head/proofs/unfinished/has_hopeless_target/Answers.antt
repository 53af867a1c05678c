use Rattle.std.proofs.Common.{sym, ap, ◌∙◌}
use Rattle.hc_head.specs.Unfinished.{behind_space}
use Rattle.hc_head.proofs.UnfinishedLemmas.{tells_of_target}
use Rattle.hc_head.proofs.unfinished.has_hopeless_target.Goals as goal

pub returns-then-not-contains : goal.returns-then-not-contains
returns-then-not-contains c =
    tells_of_target c.args.octets.now c.behind_space-target.result.now _ (c.behind_space-target.ensures ∙ ap behind_space c.behind_blank.ensures)
    (sym c.contains.ensures.value ∙ c.if-not-contains.true) c.may_become_text.ensures
