use Rattle.std.proofs.Common.{sym, ◌∙◌}
use Rattle.std.specs.Option.{option_copied}
use Rattle.hc_service.specs.Answers.{replacement}
use Rattle.hc_reactions.proofs.OutcomeLemmas.{failed_by_none, failed_by_stored}
use Rattle.hc_reactions.proofs.outcomes.failed_reply.Goals as goal

pub returns-in-Some : goal.returns-in-Some
returns-in-Some c =
    failed_by_stored c.args.wanted.now c.args.cause (option_copied c.args.chosen)
    (replacement c.args.wanted.now (option_copied c.args.chosen)) c.in-Some.reply
    (sym c.in-Some.is ∙ c.in_ok-replaced.ensures)

pub returns-in-None : goal.returns-in-None
returns-in-None c =
    failed_by_none c.args.wanted.now c.args.cause (option_copied c.args.chosen)
    (replacement c.args.wanted.now (option_copied c.args.chosen)) c.failure_status.result c.made_reply.result
    (sym c.in-None.is ∙ c.in_ok-replaced.ensures) c.failure_status.ensures c.made_reply.ensures
