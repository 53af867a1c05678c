use Rattle.hc_index.specs.Windows.{told_seen, carries_told}
use Rattle.hc_index.proofs.PoolLemmas.{told_by_older, told_by_newer}
use Rattle.hc_index.proofs.windows.carries_one.Goals as goal

pub returns-then-carries_one_of : goal.returns-then-carries_one_of
returns-then-carries_one_of c =
    told_by_older told_seen (carries_told c.args.claim.now) _ c.parts_behind.result.0.now c.parts_behind.result.1.now
    c.carries_one_of.result c.parts_behind.ensures c.carries_one_of.ensures c.if-carries_one_of.true

pub returns-else-carries_one_of : goal.returns-else-carries_one_of
returns-else-carries_one_of c =
    told_by_newer told_seen (carries_told c.args.claim.now) _ c.parts_behind.result.0.now c.parts_behind.result.1.now
    c.carries_one_of.result c.carries_one_of-else-carries_one_of.result
    c.parts_behind.ensures c.carries_one_of.ensures c.if-carries_one_of.false c.carries_one_of-else-carries_one_of.ensures
