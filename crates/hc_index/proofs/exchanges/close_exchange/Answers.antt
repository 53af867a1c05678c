use Rattle.std.proofs.Common.{rules, not, eqb, ap, ◌∙◌}
use Rattle.std.proofs.lemmas.Fn.{filter_same}
use Rattle.hc_index.specs.Lists.{open_in}
use Rattle.hc_index.proofs.OpenLemmas.{closed}
use Rattle.hc_index.proofs.exchanges.close_exchange.Goals as goal

pub returns : goal.returns
returns c = λ e.
    ap (open_in e) (filter_same _ (λ x. not (eqb x.exchange.number c.args.number)) _ (λ x b f h. search rules) _ _ c.retain.ensures.filtered)
    ∙ closed c.args.number e c.args.exchanges.now.items
