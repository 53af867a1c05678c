use Rattle.std.proofs.Common.{ap}
use Rattle.std.specs.Option.{option_copied}
use Rattle.hc_service.specs.Replying.{Wanted}
use Rattle.hc_reactions.proofs.ReleasingLemmas.{release_gives}
use Rattle.hc_reactions.proofs.releasing.release.Goals as goal

pub returns : goal.returns
returns g c =
    let left = rw c.in_ok-choice.was at c.choose.follows.holds-at-none in
    release_gives c.args.wanted.now c.args.target.now c.args.store.now _ (option_copied c.in_ok-choice.choice.chosen) _ c.shared_reply.result
    (ap (λ (w : Wanted). w.asked.fields) c.wanted.view_is) (c.in_ok-choice.ensures.answer, left) c.shared_reply.ensures
