use Rattle.std.proofs.Common.{◌∙◌, ap, arith}
use Rattle.std.proofs.lemmas.Result.{on_ok_weaker}
use Rattle.serde_json.specs.Data.{Data, put}
use Rattle.serde_json.specs.View.{members_view}
use Rattle.hc_figures.proofs.EntryLemmas.{value_depth}
use Rattle.hc_figures.proofs.KindLemmas.{one_more}
use Rattle.hc_figures.proofs.tally.Tally.take.Goals as goal

pub returns : goal.returns
returns c = λ kinds counted.
    let kind = c.args.kind.now in
    let counts = members_view c.args.self.now.counts.entries in
    let nest = counted.nest in
    let value = rw (c.saturating_add-count.ensures, c.count.ensures) at c.from.ensures in
    on_ok_weaker c.put.result
    (λ is. record {
      are = one_more kind _ _ kinds counted.are (is ∙ ap (λ (d : Data). put kind d counts) value);
      nest = value_depth kind _ _ _ _ 0 c.from.ensures (omega arith) nest is;
    })
    c.put.ensures.ok
