use Rattle.std.proofs.Common.{rules, ◌≤◌, ◌∙◌, sym}
use Rattle.hc_store.specs.Entries.{variants_weight}
use Rattle.hc_store.proofs.TrimLemmas.{last_variants_all}
use Rattle.hc_store.proofs.trimming.drop_first.Goals as goal

pub returns : goal.returns
returns c =
    let light : variants_weight c.loop-variants.variants.items ≤ c.args.bytes = search rules in
    sym (last_variants_all c.args.bytes c.loop-variants.variants.items light) ∙ c.loop-variants.invariant
