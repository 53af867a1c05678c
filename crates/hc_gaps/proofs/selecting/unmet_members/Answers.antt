use Rattle.std.proofs.Common.{rules, ◌++◌, ◌∷◌, []}
use Rattle.std.specs.Prelude.{filter}
use Rattle.hc_gaps.specs.Selecting.{is_unmet, unmet_in}
use Rattle.hc_gaps.proofs.FirstLemmas.{goes_on}
use Rattle.hc_gaps.proofs.selecting.unmet_members.Goals as goal

pub loop-member-preserved : goal.loop-member-preserved
loop-member-preserved c =
    let claim = c.args.claim.now in
    let state = c.args.state.now in
    let member = c.in-Some.member.now in
    let before = c.loop-member.invariant in (
      before.0 ++ filter (is_unmet claim state) (member ∷ []),
      c.in_ok-take.ensures before.0 before.1,
      goes_on (is_unmet claim state) before.0 c.loop-member.member-iterator c.next.new.self (unmet_in claim state) member (search rules) before.2,
    )
