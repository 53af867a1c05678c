use Rattle.std.proofs.Common.{sym, ◌∙◌}
use Rattle.hc_history.proofs.SeenLemmas.{claim_seen}
use Rattle.hc_index.specs.Lists.{exchange_seen}
use Rattle.hc_index.proofs.finding.claim_of.Goals as goal

pub returns : goal.returns
returns c = λ seen h e one lends forwarded.
    rw (c.reply.ensures, c.ttl_of.ensures, c.mark.ensures, c.infers.ensures, lends.error, lends.failure, forwarded)
    (claim_seen c.args.format seen h c.args.settings.now e (exchange_seen c.args.opened.now.exchange.now) c.args.moment c.args.reply.now one
    (sym (one.exchange e) ∙ lends.is_open))
