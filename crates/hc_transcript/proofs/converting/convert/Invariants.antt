use Rattle.std.proofs.Common.{◌≡◌, List, length}
use Rattle.hc_transcript.specs.declared.record.Record.{Record}
use Rattle.hc_transcript.specs.Items.{Item}
use Rattle.hc_transcript.specs.Transcript.{Splits}
use Rattle.hc_transcript.specs.Standing.{StandsAs}
use Rattle.hc_transcript.specs.Converting.{converted}
use Rattle.hc_transcript.proofs.converting.convert.Given as goal

-- the records so far were converted
abbrev pub invariant-loop-rest : goal.invariant-loop-rest
invariant-loop-rest l =
    (records : List Record) × (h : List Item) × Splits l.format l.octets records h l.rest × StandsAs l.standing h × (l.text.items ≡ converted records)

abbrev pub decreases-loop-rest : goal.decreases-loop-rest
decreases-loop-rest l = length l.rest
