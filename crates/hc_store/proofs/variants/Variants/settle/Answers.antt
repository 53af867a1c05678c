use Rattle.std.proofs.Common.{rules, arith, ◌≤◌, sym, ap, ◌∙◌}
use Rattle.hc_store.specs.Entries.{variants_weight}
use Rattle.hc_store.proofs.TrimLemmas.{last_variants_all, last_variants_light}
use Rattle.hc_store.proofs.variants.Variants.settle.Goals as goal

pub returns-in-Some-clause-variants : goal.returns-in-Some-clause-variants
returns-in-Some-clause-variants c =
    let light : variants_weight c.args.self.now ≤ c.args.bytes = search rules in
    sym (last_variants_all c.args.bytes c.args.self.now light)

pub weight_within-requires : goal.weight_within-requires
weight_within-requires c =
    omega (arith, last_variants_light c.args.bytes c.self.inside.list.items, ap variants_weight (c.as_slice-2.ensures.value ∙ c.drop_first.ensures))
