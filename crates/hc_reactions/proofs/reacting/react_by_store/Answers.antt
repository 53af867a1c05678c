use Rattle.std.proofs.Common.{ap}
use Rattle.std.specs.Option.{option_copied}
use Rattle.hc_service.specs.Cases.{case_of}
use Rattle.hc_service.specs.Replying.{Wanted}
use Rattle.hc_reactions.proofs.ReactingLemmas.{reacts_alone, reacts_by_store, reacts_joined}
use Rattle.hc_reactions.proofs.reacting.react_by_store.Goals as goal

pub returns-in-Some : goal.returns-in-Some
returns-in-Some g c = λ underway is.
    let left = rw c.in_ok-choice.was at c.choose.follows.holds-at-none in
    reacts_joined c.args.wanted.now c.args.target.now c.args.request.now underway c.args.underway.least_joinable c.args.store.now _
    (option_copied c.in_ok-choice.choice.chosen) c.in_ok-choice.choice.is_known c.in-Some.forward is.least_joinable
    (c.in_ok-choice.ensures.answer, left) c.in_ok-choice.ensures.known c.in-Some.ensures

pub returns-in-None : goal.returns-in-None
returns-in-None g c = λ underway is.
    let left = rw c.in_ok-choice.was at c.choose.follows.holds-at-none in
    let known = c.in_ok-choice.choice.is_known in
    reacts_alone c.args.wanted.now c.args.target.now c.args.request.now underway c.args.underway.least_joinable c.args.store.now _
    known c.chosen_reaction.result is.least_joinable c.in_ok-choice.ensures.known c.in-None.ensures
    (reacts_by_store c.args.wanted.now c.args.target.now c.args.request.now underway.forwards c.args.store.now _ (option_copied c.in_ok-choice.choice.chosen)
    known c.wanted.inside.moment (case_of c.case_by_store-case.result) c.chosen_reaction.result (c.in_ok-choice.ensures.answer, left)
    c.in_ok-choice.ensures.known (ap (λ (w : Wanted). w.moment) c.wanted.view_is) c.case_by_store-case.ensures
    (c.chosen_reaction.ensures underway.forwards is.behind))
