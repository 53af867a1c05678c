use Rattle.std.proofs.Common.{ap, ◌∙◌}
use Rattle.hc_past.specs.declared.past.End.{End}
use Rattle.hc_past.specs.Remembered.{end_seen}
use Rattle.hc_why.specs.Due.{told_after, told_of}
use Rattle.hc_why.proofs.DueLemmas.{end_told}
use Rattle.hc_why.proofs.changes.Ends.take_all.Goals as goal

pub ends-preserved : goal.ends-preserved
ends-preserved c =
    let claim = c.args.known.now.claim in
    let before = told_of c.ends.self in (
      end_told claim before (told_of c.take.new.self) _ c.args.ends.now c.ends.end-index c.end-item.result c.ends-test.true
          (c.in_ok-take.ensures.told ∙ ap (λ (end : End). told_after claim before (end_seen end)) c.end-item.is) c.ends.invariant.0,
      λ was. c.in_ok-take.ensures.lists (c.ends.invariant.1 was),
    )
