use Rattle.std.proofs.Common.{◌≡◌, arith}
use Rattle.std.proofs.lemmas.Grind.{common_steps}
use Rattle.hc_figures.specs.Tallies.{gone_from}
use Rattle.hc_report.proofs.KindLemmas.{by_kinds}
use Rattle.hc_report.proofs.counting.CountingReport.gone.Goals as goal

pub returns : goal.returns
returns c = λ h wrongs told counted.
    by_kinds (λ kinds. c.gone.result ≡ gone_from c.args.baseline.now kinds) c.args.self.now h wrongs told counted (grind (arith, common_steps))
    (λ kinds has few. c.gone.ensures.kinds kinds has few)
