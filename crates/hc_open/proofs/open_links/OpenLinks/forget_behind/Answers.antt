use Rattle.std.proofs.Common.{sym, ◌∙◌}
use Rattle.hc_open.proofs.BehindLemmas.{keeps_behind, leaves_behind}
use Rattle.hc_open.proofs.open_links.OpenLinks.forget_behind.Goals as goal

pub returns-then-not-is_for_store-clause-behind : goal.returns-then-not-is_for_store-clause-behind
returns-then-not-is_for_store-clause-behind c = λ forwards f a are there same.
    keeps_behind forwards f a c.args.forward.now same c.args.self.now.behind are there (sym c.is_for_store.ensures ∙ c.if-not-is_for_store.true)

pub returns-clause-behind : goal.returns-clause-behind
returns-clause-behind c = λ forwards f a are there same.
    leaves_behind forwards f a c.args.forward.now same c.args.self.now.behind are there (sym c.is_for_store.ensures ∙ c.if-not-is_for_store.false)
    c.remove.new.self c.remove.result c.remove.ensures.updates c.remove.ensures.value c.remove.ensures.len
