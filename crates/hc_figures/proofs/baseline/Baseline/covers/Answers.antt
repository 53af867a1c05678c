use Rattle.std.proofs.Common.{◌∙◌, sym}
use Rattle.serde_json.specs.View.{members_view}
use Rattle.hc_figures.specs.Tallies.{base_of}
use Rattle.hc_figures.proofs.KindLemmas.{all_covered, not_covered}
use Rattle.hc_figures.proofs.baseline.Baseline.covers.Goals as goal

pub returns-clause-yes : goal.returns-clause-yes
returns-clause-yes c = λ kinds counted few yes.
    all_covered (base_of c.args.self.now) (members_view c.args.tally.now.counts.entries) kinds counted.are few (sym c.covers_all.ensures ∙ yes)

pub returns-clause-no : goal.returns-clause-no
returns-clause-no c = λ kinds counted few no.
    not_covered (base_of c.args.self.now) (members_view c.args.tally.now.counts.entries) kinds counted.are (sym c.covers_all.ensures ∙ no)
