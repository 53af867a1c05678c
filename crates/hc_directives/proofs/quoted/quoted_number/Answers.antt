use Rattle.std.proofs.Common.{None, ap, ◌∙◌}
use Rattle.hc_directives.specs.QuotedStrings.{unescaped}
use Rattle.hc_directives.proofs.QuotedLemmas.{number_behind, number_is}
use Rattle.hc_directives.proofs.quoted.quoted_number.Goals as goal

pub loop-octet-init : goal.loop-octet-init
loop-octet-init c = record {
  can = tt;
  finite = tt;
  number = ap (number_behind None) c.into_iter-octet-iterator.ensures.into_iter_gives ∙ number_is (unescaped c.args.text.now);
}
