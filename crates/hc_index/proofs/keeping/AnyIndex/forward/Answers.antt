use Rattle.std.proofs.Common.{sym, ap, ◌∙◌}
use Rattle.std.specs.Option.{option_map}
use Rattle.hc_index.specs.Lists.{cause_seen, forward_seen}
use Rattle.hc_index.proofs.keeping.AnyIndex.forward.Goals as goal

pub returns-clause-asked : goal.returns-clause-asked
returns-clause-asked g c = λ format h seen.
    ap (option_map forward_seen) c.get.ensures ∙ sym (c.forwards.ensures.forward c.args.number) ∙ seen.forward c.args.number

pub returns-clause-cause : goal.returns-clause-cause
returns-clause-cause g c = λ format h seen. ap cause_seen c.get.ensures ∙ sym (c.forwards.ensures.cause c.args.number) ∙ seen.cause c.args.number
