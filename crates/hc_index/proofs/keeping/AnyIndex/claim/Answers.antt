use Rattle.std.proofs.Common.{sym, ◌∙◌}
use Rattle.hc_index.proofs.FindLemmas.{claimed_of_lent}
use Rattle.hc_index.proofs.keeping.AnyIndex.claim.Goals as goal

pub returns : goal.returns
returns g c = λ h seen.
    let known = g.K.Noting.knows c.args.self.now in
    claimed_of_lent c.args.format known c.args.settings.now c.args.exchange c.args.moment c.args.reply.now h c.in-Some.opened c.claim_of.result seen c.in-Some.ensures
    (λ lends. c.claim_of.ensures known h c.args.exchange seen lends
    (c.is_made_for-has_forward.ensures ∙ sym (c.forwards.ensures.has_forward c.args.exchange)))
