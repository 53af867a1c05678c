use Rattle.std.proofs.Common.{Some, sym, ap, ◌∙◌, subst}
use Rattle.std.specs.BTreeMap.{Updates, get as kept_at}
use Rattle.hc_head.specs.declared.head.Target.{Target}
use Rattle.hc_open.specs.Links.{by_target}
use Rattle.hc_open.proofs.BehindLemmas.{comes_behind, stays_behind}
use Rattle.hc_open.proofs.open_links.OpenLinks.note_behind.Goals as goal

pub returns-then-not-is_for_store-clause-behind : goal.returns-then-not-is_for_store-clause-behind
returns-then-not-is_for_store-clause-behind c = λ forwards a are none same place.
    stays_behind forwards c.args.number a c.args.forward.now same c.args.self.now.behind are none (sym c.is_for_store.ensures ∙ c.if-not-is_for_store.true)

pub returns-clause-behind : goal.returns-clause-behind
returns-clause-behind c = λ forwards a are none same place.
    let m = c.args.self.now.behind in
    comes_behind forwards c.args.number a c.args.forward.now same m are none (sym c.is_for_store.ensures ∙ c.if-not-is_for_store.false) place
    c.insert.new.self c.in_ok-insert.field-0
    (subst (λ (t : Target). Updates by_target m c.insert.new.self t (Some c.args.number)) c.in_ok-target.ensures c.in_ok-insert.ensures.updates)
    (c.in_ok-insert.ensures.old ∙ ap (kept_at by_target m) c.in_ok-target.ensures) c.in_ok-insert.ensures.len
