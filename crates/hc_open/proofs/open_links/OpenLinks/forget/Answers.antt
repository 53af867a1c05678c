use Rattle.std.proofs.Common.{sym, subst}
use Rattle.hc_open.specs.Groups.{AreGrouped}
use Rattle.hc_open.specs.Links.{AreBehind, by_target, is_joinable_for}
use Rattle.std.specs.FinMap.{remove}
use Rattle.hc_open.proofs.open_links.OpenLinks.forget.Goals as goal

pub returns-clause-others : goal.returns-clause-others
returns-clause-others c = λ forwards a behind miss there same. (
  subst (λ m. AreBehind m (remove forwards c.args.number)) (sym c.forget_joinable.ensures.behind) (c.forget_behind.ensures.behind forwards c.args.number a behind there same),
  c.forget_joinable.ensures.joinable forwards a (subst (λ g. AreGrouped by_target is_joinable_for g.sets forwards) (sym c.forget_behind.ensures.joinable) miss) there same,
)
