use Rattle.std.proofs.Common.{◌≡◌, List, drop}
use Rattle.std.specs.Prelude.{find}
use Rattle.hc_transcript.specs.declared.format.Format.{Format}
use Rattle.hc_transcript.specs.Items.{Item}
use Rattle.hc_history.specs.Seen.{IsSeenAs}
use Rattle.hc_past.specs.Naming.{has_all}
use Rattle.hc_past.proofs.shortfalls.first_with_body.Given as goal

-- the first of those that are left is the first of all
abbrev pub invariant-candidates : goal.invariant-candidates
invariant-candidates g l = (format : Format) (h : List Item) → IsSeenAs format (g.I.Index.seen l.index) h
    → find (has_all l.claim h l.since l.passed) (drop l.one-index l.candidates) ≡ find (has_all l.claim h l.since l.passed) l.candidates
