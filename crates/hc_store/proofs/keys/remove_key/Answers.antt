use Rattle.std.proofs.Common.{arith, sym, ap, ◌∙◌}
use Rattle.hc_store.specs.Entries.{entries_weight, variants_weight}
use Rattle.hc_store.proofs.KeyLemmas.{known, unknown, not_known}
use Rattle.hc_store.proofs.keys.remove_key.Goals as goal

pub weight_without-requires : goal.weight_without-requires
weight_without-requires g c =
    let is = known c.args.target.now c.args.keys.now.entries c.in-Some.variants (sym c.in-Some.ensures.value) in
    omega (arith, is.weighs, ap variants_weight c.as_slice.ensures, c.requires)

pub returns-in-Some-clause-total : goal.returns-in-Some-clause-total
returns-in-Some-clause-total g c =
    let is = known c.args.target.now c.args.keys.now.entries c.in-Some.variants (sym c.in-Some.ensures.value) in
    omega (arith, is.weighs, ap variants_weight c.as_slice.ensures, c.requires, c.weight_without.ensures, ap (λ k. entries_weight k.entries) c.in-Some.ensures.entries)

pub returns-in-None-clause-total : goal.returns-in-None-clause-total
returns-in-None-clause-total g c =
    let is = unknown c.args.target.now c.args.keys.now.entries (not_known c.args.target.now c.args.keys.now.entries c.in-None.ensures.value) in
    c.requires ∙ sym (ap (λ k. entries_weight k.entries) c.in-None.ensures.entries ∙ ap entries_weight is.others)
