use Rattle.std.proofs.Common.{ℕ, List}
use Rattle.hc_history.specs.declared.settings.Settings.{Settings}
use Rattle.hc_transcript.specs.Reader.{unread}
use Rattle.hc_audit.specs.Judging.{IsJudging}
use Rattle.hc_audit.proofs.judge.Judge.judge_whole.Given as goal

-- what was judged of the octets so far is right
abbrev pub invariant-records : goal.invariant-records
invariant-records g l = (settings : Settings) (octets : List ℕ) → IsJudging g.I.Index.seen l.fn.self settings octets → IsJudging g.I.Index.seen l.self settings octets

abbrev pub decreases-records : goal.decreases-records
decreases-records g l = unread l.self.reader
