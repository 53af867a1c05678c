use Rattle.std.proofs.Common.{ap}
use Rattle.std.specs.Option.{option_copied}
use Rattle.hc_service.specs.Replying.{Wanted}
use Rattle.hc_reactions.proofs.OutcomeLemmas.{failure_gives}
use Rattle.hc_reactions.proofs.outcomes.fail_by_store.Goals as goal

pub returns : goal.returns
returns g c =
    let left = rw c.in_ok-choice.was at c.choose.follows.holds-at-none in
    failure_gives c.args.wanted.now c.args.forward.now.target c.args.cause c.args.store.now _ (option_copied c.in_ok-choice.choice.chosen) _ c.failed_reply.result
    (ap (λ (w : Wanted). w.asked.fields) c.wanted.view_is) (c.in_ok-choice.ensures.answer, left) c.failed_reply.ensures
