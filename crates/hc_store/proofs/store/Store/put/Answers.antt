use Rattle.std.proofs.Common.{sym, ap, subst, ◌∙◌}
use Rattle.hc_store.specs.Entries.{IsWithin}
use Rattle.hc_store.specs.Views.{held}
use Rattle.hc_store.proofs.WithinLemmas.{put_within}
use Rattle.hc_store.proofs.store.Store.put.Goals as goal

pub invariant_of-self : goal.invariant_of-self
invariant_of-self g c =
    let inside = c.self.inside in (
      c.in-Ok.ensures.total,
      subst IsWithin (sym (ap (held inside.bytes inside.keeps_cookies) c.in-Ok.ensures.ok)) (put_within (held inside.bytes inside.keeps_cookies inside.keys) c.args.target c.args.stored (sym c.may_hold.ensures ∙ c.if-not-may_hold.false) c.self.invariant.1),
    )

pub returns-in-Ok-clause-within : goal.returns-in-Ok-clause-within
returns-in-Ok-clause-within g c =
    let inside = c.self.inside in
    subst IsWithin (sym (ap (held inside.bytes inside.keeps_cookies) c.in-Ok.ensures.ok)) (put_within (held inside.bytes inside.keeps_cookies inside.keys) c.args.target c.args.stored (sym c.may_hold.ensures ∙ c.if-not-may_hold.false) c.self.invariant.1)
