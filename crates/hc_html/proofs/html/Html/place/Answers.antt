use Rattle.hc_html.specs.Marked.Piece.{Place}
use Rattle.hc_html.proofs.MarkedLemmas.{kept}
use Rattle.hc_html.proofs.html.Html.place.Goals as goal

pub invariant_of-self-else-is_err : goal.invariant_of-self-else-is_err
invariant_of-self-else-is_err c = record { marked = kept (Place c.args.position) c.push_place.result _ _ _ _ c.push_place.ensures c.is_err.ensures.value c.if-is_err.false c.args.self.now.marked }
