use Rattle.std.proofs.Common.{ap}
use Rattle.std.specs.Option.{option_copied}
use Rattle.hc_service.specs.Replying.{Wanted}
use Rattle.hc_reactions.proofs.OutcomeLemmas.{replacement_gives}
use Rattle.hc_reactions.proofs.outcomes.replace_by_store.Goals as goal

pub returns : goal.returns
returns g c =
    let left = rw c.in_ok-choice.was at c.choose.follows.holds-at-none in
    replacement_gives (record { wanted = c.args.wanted.now; forward = c.args.forward.now; cause = c.args.cause; response = c.args.response.now })
    c.args.store.now _ (option_copied c.in_ok-choice.choice.chosen) _ c.replacement.result
    (ap (λ (w : Wanted). w.asked.fields) c.wanted.view_is) (c.in_ok-choice.ensures.answer, left) c.replacement.ensures
