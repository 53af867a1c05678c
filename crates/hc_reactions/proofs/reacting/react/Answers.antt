use Rattle.std.proofs.Common.{refl}
use Rattle.hc_reactions.proofs.ReactingLemmas.{reacts_asking, reacts_before}
use Rattle.hc_reactions.proofs.reacting.react.Goals as goal

pub returns-in-Some : goal.returns-in-Some
returns-in-Some g c = λ underway is.
    reacts_before c.args.wanted.now c.args.target.now c.args.request.now underway _ _ c.in-Some.cause c.forward_reaction.result
    c.in-Some.ensures refl c.forward_reaction.ensures

pub returns-in-None : goal.returns-in-None
returns-in-None g c = λ underway is.
    reacts_asking c.args.wanted.now c.args.target.now c.args.request.now underway _ _ c.react_by_store.result
    c.in-None.ensures (c.react_by_store.ensures underway is)
