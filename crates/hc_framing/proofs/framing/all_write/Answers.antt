use Rattle.std.proofs.Common.{rules, tests, ◌∙◌}
use Rattle.std.proofs.lemmas.Iterator.Consumers.{YieldsList-from_first}
use Rattle.std.proofs.lemmas.Iterator.Search.{all_from_yields_List}
use Rattle.std.specs.Prelude.{codes}
use Rattle.hc_fields.specs.Values.{values_of}
use Rattle.hc_framing.specs.Framing.{members_of, each_writes}
use Rattle.hc_framing.proofs.FramingLemmas.{each_line}
use Rattle.hc_framing.proofs.framing.all_write.Goals as goal

pub returns : goal.returns
returns c =
    let values = values_of (codes "content-length") c.args.fields.now in
    all_from_yields_List (λ value. each_writes c.args.length (members_of value)) c.all.new.self _ c.all.result c.all.ensures.ran
    (YieldsList-from_first (λ x. x.now) (λ s. values_of s.name.now s.lines) values c.values.ensures)
    (λ x b q k. search (rules, tests))
    ∙ each_line c.args.length values
