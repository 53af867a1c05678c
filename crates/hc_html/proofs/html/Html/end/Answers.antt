use Rattle.hc_html.specs.Marked.Piece.{Ends}
use Rattle.hc_html.proofs.MarkedLemmas.{kept}
use Rattle.hc_html.proofs.html.Html.end.Goals as goal

pub invariant_of-self-else-is_err : goal.invariant_of-self-else-is_err
invariant_of-self-else-is_err c = record { marked = kept (Ends c.args.tag) c.push_end.result _ _ _ _ c.push_end.ensures c.is_err.ensures.value c.if-is_err.false c.args.self.now.marked }
