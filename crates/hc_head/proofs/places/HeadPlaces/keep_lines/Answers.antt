use Rattle.std.proofs.Common.{◌∙◌, List, ap, map, take}
use Rattle.httparse.specs.declared.spans.HeaderSpan.{HeaderSpan}
use Rattle.hc_head.specs.Places.{line_of}
use Rattle.hc_head.proofs.PlaceLemmas.{section_kept}
use Rattle.hc_head.proofs.places.HeadPlaces.keep_lines.Goals as goal

pub returns : goal.returns
returns c =
    section_kept c.args.octets.now c.lower_into.new.names.items c.lines_into.new.lines.items c.args.self.now.spans.items c.args.len c.args.count c.requires
    c.in_ok-lower_into.ensures
    (c.in_ok-lines_into.ensures ∙ ap (λ (hs : List HeaderSpan). map line_of (take c.args.count hs)) c.deref.ensures.value)
