-- What is left on the two writers where records of a transcript are shown.
use Rattle.std.specs.Prelude.{◌≡◌, ◌≢◌, ◌⊎◌, ◌++◌, ℕ, List, [], Option, None, Some}
use Rattle.std.specs.Io.KnownBytes.{Appends, Consumes, IsAtEnd, Keeps}
use Rattle.hc_transcript.specs.Names.{fault_number, fault_name}
use Rattle.hc_shown.specs.declared.showing.ShowingStage.{ShowingStage}
use Rattle.hc_shown.specs.declared.showing.ShowingStage.TheVariants as stage
use Rattle.hc_shown.specs.declared.showing.Showing.{Showing}
use Rattle.hc_shown.specs.declared.span.Span.{Span}
use Rattle.hc_shown.specs.Showings.{Shows, ShowsAll, ShowsBefore, ShowsFewer}
use Rattle.hc_command.specs.declared.showing.Shown.{Shown}
use Rattle.hc_command.specs.declared.showing.Shown.TheVariants.{All, Fewer, Broken}
use Rattle.hc_auditing.specs.Line.{malformed_line}

-- what was shown of the octets, as far as they were read, and how that ended
abbrev pub ShowsOf : Shown → Span → List ℕ → List ℕ → Type 0
ShowsOf All span octets text = ShowsAll span octets text
ShowsOf Fewer span octets text = ShowsFewer span octets text
ShowsOf (Broken position f) span octets text = ShowsBefore span octets text position f

-- the exit status
abbrev pub shown_status : Shown → ℕ
shown_status All = 0
shown_status Fewer = 64
shown_status (Broken position f) = 2

-- what stands on the output behind the records: where a record breaks the transcript, the line of the audit that says so
abbrev pub shown_end : Shown → List ℕ
shown_end All = []
shown_end Fewer = []
shown_end (Broken position f) = malformed_line position (fault_number f) (fault_name f)

-- the faults get something only where the last position is past the end
abbrev pub SaysOfShown : Shown → Option (List ℕ) → Option (List ℕ) → Type 0
SaysOfShown All old new = Keeps old new
SaysOfShown Fewer old new = Unit {0}
SaysOfShown (Broken position f) old new = Keeps old new

-- the input was read up to the last position, to where a record breaks it, or to its end, and the output got the text of the records that it has at the
-- positions of the span, and nothing else but for the line of a break
pub record PutsOut (span : Span) (input left old new : Option (List ℕ)) (shown : Shown) : Type 0 where
  pub read : List ℕ
  pub text : List ℕ
  pub consumed : Consumes input left read
  pub is : ShowsOf shown span read text
  pub all : shown ≡ Fewer → IsAtEnd left
  pub written : Appends old new (text ++ shown_end shown)

-- so it was, and this is the status; where records can't be shown for want of memory or by a device, it is 3
abbrev pub ShowsFor : Span → Option (List ℕ) → Option (List ℕ) → ℕ → Option (List ℕ) → Option (List ℕ) → Option (List ℕ) → Option (List ℕ) → Type 0
ShowsFor span input left status old new faults_old faults_new =
    (status ≡ 3) ⊎ ((shown : Shown) × PutsOut span input left old new shown × (status ≡ shown_status shown) × SaysOfShown shown faults_old faults_new)

-- the same of an input that isn't known
abbrev pub ShownFor : Span → ℕ → Option (List ℕ) → Option (List ℕ) → Option (List ℕ) → Option (List ℕ) → Type 0
ShownFor span status old new faults_old faults_new = ShowsFor span None None status old new faults_old faults_new

-- ---- what private functions promise

-- a showing that was fed these octets, and of which that text was put out, needs no more where that is shown, and else may go on
abbrev pub ComesTo : Showing → Span → List ℕ → List ℕ → Option Shown → Type 0
ComesTo s span octets text None = Shows s span octets text
ComesTo s span octets text (Some shown) = ShowsOf shown span octets text × (shown ≢ Fewer)

-- some text was put out
abbrev pub GoesOn : Showing → Span → List ℕ → List ℕ → Option (List ℕ) → Option (List ℕ) → Option Shown → Type 0
GoesOn s span octets text old new shown = (more : List ℕ) × Appends old new more × ComesTo s span octets (text ++ more) shown

-- what was shown, where the records have come so far that no more are to
abbrev pub stopped_by : ShowingStage → Option Shown
stopped_by stage.More = None
stopped_by stage.Last = Some All
stopped_by (stage.Broken position f) = Some (Broken position f)
