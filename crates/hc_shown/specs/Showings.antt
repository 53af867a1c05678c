-- What is shown of octets, and how they end.
use Rattle.std.specs.Prelude.{◌≡◌, ◌<◌, ◌≤◌, ◌++◌, ◌⊎◌, ℕ, List, [], length, Option, None, Some}
use Rattle.hc_transcript.specs.declared.fault.RecordFault.{RecordFault}
use Rattle.hc_transcript.specs.declared.format.Format.{Format}
use Rattle.hc_transcript.specs.declared.record.Record.{Record}
use Rattle.hc_transcript.specs.Items.{Item}
use Rattle.hc_transcript.specs.History.{next_position}
use Rattle.hc_transcript.specs.Malformed.{BreaksOpening, IsMalformedAfter}
use Rattle.hc_transcript.specs.Reader.{Agrees, Waits}
use Rattle.hc_transcript.specs.Transcript.{IsTranscript, Splits}
use Rattle.hc_shown.specs.declared.showing.EarlyEnding.{EarlyEnding}
use Rattle.hc_shown.specs.declared.showing.EarlyEnding.TheVariants as ending
use Rattle.hc_shown.specs.declared.showing.ShowingStage.{ShowingStage}
use Rattle.hc_shown.specs.declared.showing.ShowingStage.TheVariants as stage
use Rattle.hc_shown.specs.declared.showing.Showing.{Showing}
use Rattle.hc_shown.specs.declared.span.Span.{Span}
use Rattle.hc_shown.specs.Shown.{AreShown}

-- ---- how it ends

-- the octets begin with as many records as the last position says, and the text is that of those of the span
pub record ShowsAll (span : Span) (octets text : List ℕ) : Type 0 where
  pub format : Format
  pub records : List Record
  pub history : List Item
  pub rest : List ℕ
  pub splits : Splits format octets records history rest
  pub all : length history ≡ span.last
  pub shown : AreShown span history text

-- the octets are a transcript of fewer records
pub record ShowsFewer (span : Span) (octets text : List ℕ) : Type 0 where
  pub format : Format
  pub records : List Record
  pub history : List Item
  pub is_transcript : IsTranscript format octets records history
  pub fewer : length history < span.last
  pub shown : AreShown span history text

-- the octets break at the opening, and nothing is shown; or at a position that is no later than the last, behind those that are shown
pub record ShowsBefore (span : Span) (octets text : List ℕ) (position : ℕ) (f : RecordFault) : Type 0 where
  pub history : List Item
  pub shown : AreShown span history text
  pub breaks : ((position ≡ 0) × ((history ≡ []) × BreaksOpening octets f))
      ⊎ ((format : Format) × (position ≡ next_position history) × (position ≤ span.last) × IsMalformedAfter format octets history f)

-- how octets end before the last position
abbrev pub EndsShowing : EarlyEnding → Span → List ℕ → List ℕ → Type 0
EndsShowing ending.Short span octets text = ShowsFewer span octets text
EndsShowing (ending.Broken position f) span octets text = ShowsBefore span octets text position f

-- ---- what private functions promise

-- a showing was fed these octets, and this text was put out of what was read of them
pub record HasShown (s : Showing) (span : Span) (octets text : List ℕ) : Type 0 where
  pub span_is : s.span ≡ span
  pub records : List Record
  pub history : List Item
  pub agrees : Agrees s.reader octets records history
  pub some : 0 < span.last
  pub no_more : length history ≤ span.last
  pub shown : AreShown span history text

-- and no whole record is left, and the last position hasn't come
pub record Shows (s : Showing) (span : Span) (octets text : List ℕ) : Type 0 where
  pub has : HasShown s span octets text
  pub waits : Waits s.reader has.history
  pub fewer : length has.history < span.last

-- what a showing comes to that was fed these octets, and put out this text
abbrev pub IsAtStage : ShowingStage → Showing → Span → List ℕ → List ℕ → Type 0
IsAtStage stage.More s span octets text = Shows s span octets text
IsAtStage stage.Last s span octets text = ShowsAll span octets text
IsAtStage (stage.Broken position f) s span octets text = ShowsBefore span octets text position f

-- some text was put behind what was there, and it comes to this
abbrev pub GivesStage : Showing → Span → List ℕ → List ℕ → List ℕ → List ℕ → ShowingStage → Type 0
GivesStage s span octets text old new reach = (more : List ℕ) × (new ≡ old ++ more) × IsAtStage reach s span octets (text ++ more)

-- and so of a step that may not be the last
abbrev pub GivesNext : Showing → Span → List ℕ → List ℕ → List ℕ → List ℕ → Option ShowingStage → Type 0
GivesNext s span octets text old new None = (more : List ℕ) × (new ≡ old ++ more) × HasShown s span octets (text ++ more)
GivesNext s span octets text old new (Some reach) = GivesStage s span octets text old new reach
