use Rattle.std.proofs.Common.{None}
use Rattle.hc_auditing.specs.Pulling.{IsPulled}
use Rattle.hc_auditing.proofs.pulling.pull.Given as goal

-- it was fed what the reader gave so far
abbrev pub invariant-pieces : goal.invariant-pieces
invariant-pieces g l = IsPulled g.F.Fed.goes l.fn.fed l.fn.told l.fed l.told (g.R.Read.remaining l.fn.input) (g.R.Read.remaining l.input) None
