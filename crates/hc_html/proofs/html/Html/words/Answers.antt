use Rattle.hc_html.specs.Marked.Piece.{Words}
use Rattle.hc_html.proofs.MarkedLemmas.{kept}
use Rattle.hc_html.proofs.html.Html.words.Goals as goal

pub invariant_of-self-else-is_err : goal.invariant_of-self-else-is_err
invariant_of-self-else-is_err c = record { marked = kept (Words c.args.words.now) c.push_escaped.result _ _ _ _ c.push_escaped.ensures c.is_err.ensures.value c.if-is_err.false c.args.self.now.marked }
