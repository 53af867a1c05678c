use Rattle.std.proofs.Common.{ℕ, List}
use Rattle.hc_transcript.specs.declared.record.Record.{Record}
use Rattle.hc_transcript.specs.Items.{Item}
use Rattle.hc_transcript.specs.Reader.{unread}
use Rattle.hc_split.specs.Splitting.{IsSplitting, SplitsOn}
use Rattle.hc_split.proofs.splitter.Splitter.feed.Given as goal

-- what was read since the piece was taken went into its part
abbrev pub invariant-records : goal.invariant-records
invariant-records g l =
    (octets : List ℕ) (records : List Record) (h : List Item) → IsSplitting l.initial.self octets records h
    → SplitsOn g.W.Write.contents l.initial.outlets l.outlets l.initial.self l.self octets records h

abbrev pub decreases-records : goal.decreases-records
decreases-records g l = unread l.self.reader
