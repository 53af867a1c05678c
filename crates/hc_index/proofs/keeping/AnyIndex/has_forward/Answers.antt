use Rattle.std.proofs.Common.{sym, ◌∙◌}
use Rattle.hc_index.proofs.keeping.AnyIndex.has_forward.Goals as goal

pub returns : goal.returns
returns g c = λ format h seen. c.is_made_for.ensures ∙ sym (c.forwards.ensures.has_forward c.args.exchange) ∙ seen.has_forward c.args.exchange
