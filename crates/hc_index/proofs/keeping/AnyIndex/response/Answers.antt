use Rattle.std.proofs.Common.{ap, ◌∙◌}
use Rattle.hc_index.specs.Lists.{state_in}
use Rattle.hc_index.proofs.keeping.AnyIndex.response.Goals as goal

pub returns : goal.returns
returns g c = λ format h seen. c.response_among.ensures ∙ ap (state_in c.args.position) (c.lives.ensures ∙ seen.live c.args.target.now)
