-- What is shown of a history.
use Rattle.std.specs.Prelude.{◌≡◌, ◌&&◌, ◌++◌, ℕ, Bool, true, false, List, [], ◌∷◌, nat_le}
use Rattle.hc_transcript.specs.Items.{Item}
use Rattle.hc_transcript.specs.History.{next_position}
use Rattle.hc_shown.specs.declared.span.Span.{Span}
use Rattle.hc_shown.specs.Texts.{IsRecordText}

-- whether a position is one of the span
abbrev pub is_within : Span → ℕ → Bool
is_within span position = nat_le span.first position && nat_le position span.last

-- of a record that is to be shown its text, of another one nothing
abbrev pub IsShownIf : Bool → ℕ → Item → List ℕ → Type 0
IsShownIf true position item text = IsRecordText position item text
IsShownIf false position item text = text ≡ []

-- and that was put behind what was there
abbrev pub AddsIf : Bool → ℕ → Item → List ℕ → List ℕ → Type 0
AddsIf shown position item old new = (text : List ℕ) × IsShownIf shown position item text × (new ≡ old ++ text)

-- the text is that of the records of a history at those positions, the oldest first
abbrev pub AreShown : Span → List Item → List ℕ → Type 0
AreShown span [] text = text ≡ []
AreShown span (item ∷ h) text =
    (before own : List ℕ) × AreShown span h before × IsShownIf (is_within span (next_position h)) (next_position h) item own × (text ≡ before ++ own)
