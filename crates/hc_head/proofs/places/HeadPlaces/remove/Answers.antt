use Rattle.std.proofs.Common.{ℕ, List, ◌∙◌, ap, map}
use Rattle.hc_fields.specs.declared.views.LineSpan.{LineSpan}
use Rattle.hc_fields.specs.Views.{line_at}
use Rattle.hc_head.specs.Places.{without_named}
use Rattle.hc_head.proofs.PlaceLemmas.{lines_without}
use Rattle.hc_head.proofs.places.HeadPlaces.remove.Goals as goal

pub returns-clause-lines : goal.returns-clause-lines
returns-clause-lines c = λ octets.
    let names = c.args.self.now.names.items in
    ap (λ (ls : List LineSpan). map (line_at names octets) ls)
    (c.remove_lines.ensures ∙ ap (λ (ns : List ℕ). without_named ns c.args.name.now c.args.self.now.lines.items) c.as_slice.ensures.value)
    ∙ lines_without names octets c.args.name.now c.args.self.now.lines.items
