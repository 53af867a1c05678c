use Rattle.std.proofs.Common.{not, bytes_eq, rules}
use Rattle.std.proofs.lemmas.Fn.{filter_same}
use Rattle.hc_fields.specs.declared.views.LineSpan.{LineSpan}
use Rattle.hc_fields.specs.Views.{piece}
use Rattle.hc_head.proofs.places.remove_lines.Goals as goal

pub returns : goal.returns
returns c =
    filter_same _ (λ (l : LineSpan). not (bytes_eq (piece c.args.names.now l.name_start l.name_len) c.args.name.now)) _ (λ x b f called. search rules)
    c.args.lines.now.items c.retain.new.self.items c.retain.ensures.filtered
