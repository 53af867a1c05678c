use Rattle.std.proofs.Common.{ℕ, List}
use Rattle.hc_history.specs.declared.settings.Settings.{Settings}
use Rattle.hc_transcript.specs.Reader.{unread}
use Rattle.hc_audit.specs.Told.{IsToldOf}
use Rattle.hc_audit.specs.Surveying.{IsSurveying}
use Rattle.hc_audit.proofs.judge.Judge.survey_whole.Given as goal

-- what the witness tells and has heard of are the wrong replies and the items so far
abbrev pub invariant-records : goal.invariant-records
invariant-records g l =
    (settings : Settings) (octets : List ℕ)
    → IsToldOf (IsSurveying g.I.Index.seen l.fn.self settings octets) (g.W.Witness.tells l.fn.witness) (g.W.Witness.hears l.fn.witness)
    → IsToldOf (IsSurveying g.I.Index.seen l.self settings octets) (g.W.Witness.tells l.witness) (g.W.Witness.hears l.witness)

abbrev pub decreases-records : goal.decreases-records
decreases-records g l = unread l.self.reader
