use Rattle.std.proofs.Common.{◌++◌, List, ℕ}
use Rattle.hc_shown.specs.Showings.{HasShown, IsAtStage}
use Rattle.hc_shown.proofs.ShowingLemmas.{joined}
use Rattle.hc_shown.proofs.showing.Showing.show_whole.Goals as goal

pub returns-in-Some : goal.returns-in-Some
returns-in-Some c = λ span octets text has.
    let so_far = c.records.invariant span octets text has in
    joined (λ (t : List ℕ). IsAtStage c.in-Some.reach c.show_next.new.self span octets t) text _ so_far.0 _ _ so_far.1
    (rw c.in-Some.is at (c.in_ok-reach.ensures.gives span octets (text ++ so_far.0) so_far.2))

pub records-preserved : goal.records-preserved
records-preserved c = λ span octets text has.
    let so_far = c.records.invariant span octets text has in
    joined (λ (t : List ℕ). HasShown c.show_next.new.self span octets t) text _ so_far.0 _ _ so_far.1
    (rw c.in-None.is at (c.in_ok-reach.ensures.gives span octets (text ++ so_far.0) so_far.2))
