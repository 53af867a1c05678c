use Rattle.std.specs.Option.{option_copied}
use Rattle.hc_service.specs.declared.cases.Case.TheVariants.{Hit}
use Rattle.hc_reactions.proofs.ReactingLemmas.{chosen_by_case}
use Rattle.hc_reactions.proofs.reacting.chosen_reaction.Goals as goal

pub returns-in-Hit : goal.returns-in-Hit
returns-in-Hit c = λ forwards is.
    chosen_by_case c.args.wanted.now c.args.target.now c.args.request.now forwards (option_copied c.args.chosen) c.args.case (Hit c.in-Hit.stored) c.hit_reaction.result
    c.in-Hit.is (c.hit_reaction.ensures forwards is)
