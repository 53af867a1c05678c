use Rattle.std.proofs.Common.{◌≡◌, ◌++◌, ℕ, List, string_bytes}
use Rattle.hc_transcript.specs.Reader.{unread}
use Rattle.hc_shown.specs.declared.span.Span.{Span}
use Rattle.hc_shown.specs.Showings.{HasShown}
use Rattle.hc_shown.proofs.showing.Showing.show_whole.Given as goal

-- some text was put behind what was there, and it was shown of the octets
abbrev pub invariant-records : goal.invariant-records
invariant-records l =
    (span : Span) (octets text : List ℕ) → HasShown l.fn.self span octets text
    → (more : List ℕ) × (string_bytes l.out ≡ string_bytes l.fn.out ++ more) × HasShown l.self span octets (text ++ more)

abbrev pub decreases-records : goal.decreases-records
decreases-records l = unread l.self.reader
