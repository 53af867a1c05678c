use Rattle.std.proofs.Common.{◌∙◌}
use Rattle.hc_directives.specs.Spellings.{directive_meant}
use Rattle.hc_directives.proofs.DirectiveLemmas.{first_is_there}
use Rattle.hc_directives.proofs.cache_control.Directives.has.Goals as goal

pub returns : goal.returns
returns c = c.is_some.ensures ∙ first_is_there directive_meant c.first.result c.args.name.now c.args.self.now.directives c.first.ensures
