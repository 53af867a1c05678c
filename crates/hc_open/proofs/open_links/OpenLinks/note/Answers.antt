use Rattle.std.proofs.Common.{sym, subst}
use Rattle.std.specs.FinMap.{insert}
use Rattle.hc_open.specs.Groups.{AreGrouped}
use Rattle.hc_open.specs.Links.{AreBehind, by_target, is_joinable_for}
use Rattle.hc_open.proofs.WaitLemmas.{with_both}
use Rattle.hc_open.proofs.open_links.OpenLinks.note.Goals as goal

pub returns-clause-others : goal.returns-clause-others
returns-clause-others c = λ forwards a behind miss none same place.
    with_both _ c.note_joinable.result
    (subst (λ m. AreBehind m (insert forwards c.args.number a)) (sym c.note_joinable.ensures.behind) (c.in_ok-note_behind.ensures.behind forwards a behind none same place))
    (c.note_joinable.ensures.joinable forwards a (subst (λ g. AreGrouped by_target is_joinable_for g.sets forwards) (sym c.in_ok-note_behind.ensures.joinable) miss) none same)
