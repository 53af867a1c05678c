use Rattle.std.proofs.Common.{◌∙◌, ◌||◌, rules}
use Rattle.std.specs.Prelude.{codes, max}
use Rattle.hc_fresh.specs.Lifetimes.{explicit, says}
use Rattle.hc_rules.specs.Storing.{is_heuristically_cacheable}
use Rattle.hc_history.specs.Usable.{lifetime_of}
use Rattle.hc_use.proofs.UsingLemmas.{with_lent, without}
use Rattle.hc_use.proofs.usage.counted_lifetime.Goals as goal

pub returns-in-Some : goal.returns-in-Some
returns-in-Some c =
    let state = c.args.state.now in
    c.max.ensures ∙ (λ i. max (c.lifetime_of.ensures i) c.in-Some.seconds)
    ∙ with_lent c.args.claim.now.settings.allowed.default_lifetime (explicit state.fields) (says (codes "public") state.fields || is_heuristically_cacheable state.status)
    (lifetime_of state) c.in-Some.seconds (search rules)

pub returns-in-None : goal.returns-in-None
returns-in-None c =
    let state = c.args.state.now in
    c.lifetime_of-in-None.ensures
    ∙ without c.args.claim.now.settings.allowed.default_lifetime (explicit state.fields) (says (codes "public") state.fields || is_heuristically_cacheable state.status)
    (lifetime_of state) (search rules)
