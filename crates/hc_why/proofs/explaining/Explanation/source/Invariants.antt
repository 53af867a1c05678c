use Rattle.std.proofs.Common.{◌≡◌, drop}
use Rattle.hc_why.specs.Demanding.{source_among}
use Rattle.hc_why.proofs.explaining.Explanation.source.Given as goal

-- the first of those that are left is the first of all
abbrev pub invariant-sources : goal.invariant-sources
invariant-sources l = source_among l.position (drop l.end-index l.self.ends.sources.items) ≡ source_among l.position l.self.ends.sources.items
