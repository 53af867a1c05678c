use Rattle.std.proofs.Common.{◌≤◌, ap, arith, subst, sym}
use Rattle.serde_json.specs.Data.{Data, depth}
use Rattle.serde_json.specs.Find.{as_object}
use Rattle.serde_json.specs.View.{members_view}
use Rattle.serde_json.proofs.Views.{view-Object}
use Rattle.hc_figures.proofs.tally.Tally.into_counts.Goals as goal

pub returns : goal.returns
returns c = λ kinds counted.
    let is = view-Object c.args.self.counts in
    let nest = counted.nest in
    record {
      counts = members_view c.args.self.counts.entries;
      is = ap as_object is;
      are = counted.are;
      nests = subst (λ (d : Data). depth d ≤ 1) (sym is) (omega (arith, nest));
    }
