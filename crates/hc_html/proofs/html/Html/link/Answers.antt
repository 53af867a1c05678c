use Rattle.hc_html.specs.Marked.Piece.{Link}
use Rattle.hc_html.proofs.MarkedLemmas.{kept}
use Rattle.hc_html.proofs.html.Html.link.Goals as goal

pub invariant_of-self-else-is_err : goal.invariant_of-self-else-is_err
invariant_of-self-else-is_err c = record { marked = kept (Link c.args.position) c.push_link.result _ _ _ _ c.push_link.ensures c.is_err.ensures.value c.if-is_err.false c.args.self.now.marked }
