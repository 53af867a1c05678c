use Rattle.std.proofs.Common.{arith}
use Rattle.std.proofs.lemmas.Grind.{common_steps}
use Rattle.hc_figures.specs.Kinds.{AreKnown}
use Rattle.hc_figures.specs.Tallies.{base_of}
use Rattle.hc_report.proofs.KindLemmas.{by_kinds}
use Rattle.hc_report.proofs.counting.CountingReport.is_covered.Goals as goal

pub returns-clause-yes : goal.returns-clause-yes
returns-clause-yes c = λ h wrongs told counted yes.
    by_kinds (AreKnown (base_of c.args.baseline.now)) c.args.self.now h wrongs told counted (grind (arith, common_steps))
    (λ kinds has few. c.covers.ensures.yes kinds has few yes)

pub returns-clause-no : goal.returns-clause-no
returns-clause-no c = λ h wrongs told counted no.
    by_kinds (λ kinds. ¬ AreKnown (base_of c.args.baseline.now) kinds) c.args.self.now h wrongs told counted (grind (arith, common_steps))
    (λ kinds has few. c.covers.ensures.no kinds has few no)
