-- What the second reading has heard, and what it tells.
use Rattle.std.specs.Prelude.{◌≡◌, ◌++◌, ◌∷◌, ℕ, false, nat_le, List, IfSome, length, string_bytes}
use Rattle.hc_transcript.specs.Items.{Item}
use Rattle.hc_transcript.specs.History.{next_position}
use Rattle.hc_history.specs.declared.verdicts.Finding.{Finding}
use Rattle.hc_head.specs.declared.head.Target.{Target}
use Rattle.hc_past.specs.declared.past.Past.{Past}
use Rattle.hc_past.specs.Remembered.{HasAsked, IsKnownOf, IsPastOf}
use Rattle.hc_why.specs.declared.explaining.Explanation.{Explanation}
use Rattle.hc_why.specs.Explaining.{Explains, Judged, TellsValidator, TellsWindow, item_of_judged}
use Rattle.hc_explain.specs.declared.explaining.Explaining.{Explaining}
use Rattle.hc_explain.specs.declared.explaining.Form.{Form}
use Rattle.hc_explain.specs.Facts.{IsFormOf}

-- ---- what is remembered

-- all that these items have for the path of that target: how each forward ended, with its record and both heads, and which requests wait
pub record RemembersAll (target : Target) (h : List Item) (past : Past) : Type 0 where
  pub ends : IsPastOf target h past
  pub known : IsKnownOf target h past
  pub asked : HasAsked target h past

-- ---- what is told of a reply

-- the text tells of an explanation of that reply behind these items, which says of the window, and of the 304 that validated the response, what they have, and rests on all that
-- they have for the path of its target
pub record IsExplained (form : Form) (judged : Judged) (before : List Item) (text : List ℕ) : Type 0 where
  pub explanation : Explanation
  pub explains : Explains judged before explanation
  pub window : TellsWindow before explanation
  pub validator : TellsValidator explanation
  pub target : Target
  pub path : explanation.claim.target.path ≡ target.path
  pub remembers : RemembersAll target before explanation.past.now
  pub is : IsFormOf form explanation text

-- the text tells of the reply at that position among these items, of which that is found
pub record IsToldAmong (form : Form) (h : List Item) (position : ℕ) (finding : Finding) (text : List ℕ) : Type 0 where
  pub judged : Judged
  pub before : List Item
  pub later : List Item
  pub among : h ≡ later ++ item_of_judged judged ∷ before
  pub next : position ≡ next_position before
  pub of_position : judged.position ≡ position
  pub of_finding : judged.finding ≡ finding
  pub told : IsExplained form judged before text

-- ---- what it has heard

-- it looks for the reply at that position, of which that is found, and tells of it in that form
pub record IsOf (explaining : Explaining) (place : ℕ) (what : Finding) (told_as : Form) : Type 0 where
  pub position : explaining.found.position ≡ place
  pub finding : explaining.found.finding ≡ what
  pub form : explaining.form ≡ told_as

-- what it has told is of the reply that it looks for, among these items
abbrev pub HasTold : Explaining → List Item → Type 0
HasTold explaining h =
    IfSome explaining.told (λ text. IsToldAmong explaining.form h explaining.found.position explaining.found.finding (string_bytes text))

-- it has heard of these items: it doesn't say that it is past the reply while they are fewer than its position, until it says so all is remembered that they have for the reply's path, and
-- what it has told is so
pub record HasHeard (explaining : Explaining) (h : List Item) : Type 0 where
  pub before : nat_le explaining.found.position (length h) ≡ false → explaining.is_after ≡ false
  pub past : explaining.is_after ≡ false → RemembersAll explaining.found.target h explaining.past
  pub told : HasTold explaining h

-- it looks for the same reply still, and says the same of it
pub record Keeps (old new : Explaining) : Type 0 where
  pub found : new.found ≡ old.found
  pub form : new.form ≡ old.form
  pub past : new.past ≡ old.past
  pub is_after : new.is_after ≡ old.is_after
