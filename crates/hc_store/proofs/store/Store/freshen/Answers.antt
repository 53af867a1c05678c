use Rattle.hc_store.specs.Views.{held}
use Rattle.hc_store.proofs.WithinLemmas.{freshen_within}
use Rattle.hc_store.proofs.store.Store.freshen.Goals as goal

pub invariant_of-self : goal.invariant_of-self
invariant_of-self g c =
    let inside = c.self.inside in
    (c.freshen_key-self-inside.ensures.total, freshen_within _ c.args.target.now (held inside.bytes inside.keeps_cookies inside.keys) _ c.freshen_key-self-inside.ensures.freshens c.self.invariant.1)

pub returns-clause-within : goal.returns-clause-within
returns-clause-within g c =
    let inside = c.self.inside in
    freshen_within _ c.args.target.now (held inside.bytes inside.keeps_cookies inside.keys) _ c.freshen_key-self-inside.ensures.freshens c.self.invariant.1
