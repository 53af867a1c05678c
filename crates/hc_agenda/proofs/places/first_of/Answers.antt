use Rattle.std.proofs.Common.{◌∙◌}
use Rattle.hc_agenda.proofs.PlaceLemmas.{lent_first}
use Rattle.hc_agenda.proofs.places.first_of.Goals as goal

pub returns : goal.returns
returns c = c.copied.ensures ∙ lent_first c.args.line.now.items c.front.result c.front.ensures.item
