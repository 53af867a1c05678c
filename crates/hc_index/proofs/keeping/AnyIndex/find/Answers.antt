use Rattle.std.proofs.Common.{Bool, ap, sym, ◌∙◌}
use Rattle.hc_history.specs.Marks.{mark_by}
use Rattle.hc_history.proofs.SeenLemmas.{mark_seen}
use Rattle.hc_index.specs.Lists.{exchange_seen}
use Rattle.hc_index.specs.Opened.{answers_lent}
use Rattle.hc_index.proofs.FindLemmas.{found_of_lent}
use Rattle.hc_index.proofs.WindowLemmas.{answers_tell}
use Rattle.hc_index.proofs.keeping.AnyIndex.find.Goals as goal

pub returns : goal.returns
returns g c = λ h seen.
    let known = g.K.Noting.knows c.args.self.now in
    let claim = c.claim_of-claim.result in
    let mark = c.mark_by-mark.result in
    let opened = c.in-Some.opened in
    let exchange = exchange_seen opened.exchange.now in
    let forwarded = c.is_made_for-has_forward.ensures ∙ sym (c.forwards.ensures.has_forward c.args.exchange) in
    found_of_lent c.args.format known c.args.settings.now c.args.exchange c.args.moment c.args.reply.now h opened mark claim c.found_by.result seen c.in-Some.ensures
    (λ there. c.mark_by-mark.ensures
    ∙ ap (λ (b : Bool). mark_by c.args.format c.args.settings.now.allowed b c.args.reply.now) forwarded
    ∙ mark_seen c.args.format known h c.args.settings.now c.args.exchange exchange c.args.reply.now seen there)
    (λ lends. c.claim_of-claim.ensures known h c.args.exchange seen lends forwarded)
    (λ lives window. c.found_by.ensures h lives (answers_tell claim mark (answers_lent opened) h c.is_carried-carried.result window c.is_carried-carried.ensures))
