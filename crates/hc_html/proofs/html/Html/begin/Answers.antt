use Rattle.hc_html.specs.Marked.Piece.{Begins}
use Rattle.hc_html.proofs.MarkedLemmas.{kept}
use Rattle.hc_html.proofs.html.Html.begin.Goals as goal

pub invariant_of-self-else-is_err : goal.invariant_of-self-else-is_err
invariant_of-self-else-is_err c = record { marked = kept (Begins c.args.tag c.args.class) c.push_begin.result _ _ _ _ c.push_begin.ensures c.is_err.ensures.value c.if-is_err.false c.args.self.now.marked }
