use Rattle.std.proofs.Common.{sym, ap, subst}
use Rattle.hc_store.specs.Entries.{IsWithin}
use Rattle.hc_store.specs.Views.{held}
use Rattle.hc_store.proofs.WithinLemmas.{invalidate_within}
use Rattle.hc_store.proofs.store.Store.invalidate.Goals as goal

pub invariant_of-self : goal.invariant_of-self
invariant_of-self g c =
    let inside = c.self.inside in (
      c.remove_key-self-inside.ensures.total,
      subst IsWithin (sym (ap (held inside.bytes inside.keeps_cookies) c.remove_key-self-inside.ensures.keys)) (invalidate_within (held inside.bytes inside.keeps_cookies inside.keys) c.args.target.now c.self.invariant.1),
    )

pub returns-clause-within : goal.returns-clause-within
returns-clause-within g c =
    let inside = c.self.inside in
    subst IsWithin (sym (ap (held inside.bytes inside.keeps_cookies) c.remove_key-self-inside.ensures.keys)) (invalidate_within (held inside.bytes inside.keeps_cookies inside.keys) c.args.target.now c.self.invariant.1)
