use Rattle.std.proofs.Common.{ap, ◌∙◌}
use Rattle.std.specs.Ordering.{is_lt}
use Rattle.hc_index.proofs.CandidateLemmas.{compared}
use Rattle.hc_index.proofs.candidates.compare.Goals as goal

pub returns : goal.returns
returns c =
    ap is_lt c.cmp.ensures
    ∙ compared c.args.one.now.passed c.args.other.now.passed c.args.one.now.position c.args.other.now.position
