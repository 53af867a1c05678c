-- What breaks a script: an opening that is none, a line that is none, and the end inside either of them or inside an event.
use Rattle.std.specs.Prelude.{◌≡◌, ◌≢◌, ℕ, ◌<◌, ◌≤◌, ◌⊎◌, true, false, List, [], ◌∷◌, ◌++◌, length, slice_index}
use Rattle.std.specs.List.{list_any}
use Rattle.hc_service.specs.declared.event.Event.{Event}
use Rattle.hc_transcript.specs.Limits.{longest_line}
use Rattle.hc_transcript.specs.Lines.{is_feed, HasLongLine}
use Rattle.hc_scripts.specs.declared.event_line.EventLine.{EventLine}
use Rattle.hc_scripts.specs.declared.fault.ScriptFault.{ScriptFault}
use Rattle.hc_scripts.specs.declared.fault.ScriptFault.TheVariants as fault
use Rattle.hc_scripts.specs.Scripts.{has_octets, line_text, LineFits, IsEventLine, IsSettingsLine, opening, Splits, IsScript}

-- ---- the opening

-- the octets, with whatever follows, don't begin with the opening
abbrev pub HasNoOpening : List ℕ → Type 0
HasNoOpening octets = (more rest : List ℕ) → octets ++ more ≢ opening ++ rest

-- the octets may go on to the opening
abbrev pub IsUnfinishedOpening : List ℕ → Type 0
IsUnfinishedOpening octets = (more : List ℕ) × (opening ≡ octets ++ more) × (more ≢ [])

-- the opening breaks the octets by that fault
abbrev pub OpeningBreaks : ScriptFault → List ℕ → Type 0
OpeningBreaks fault.Opening octets = HasNoOpening octets
OpeningBreaks fault.Torn octets = IsUnfinishedOpening octets
OpeningBreaks other octets = ⊥

-- ---- lines

-- the octets begin with that text and a line feed, within the octets that a line may have
pub record BeginsLine (octets text behind : List ℕ) : Type 0 where
  pub octets_are : octets ≡ text ++ 10 ∷ behind
  pub no_feed : list_any is_feed text ≡ false
  pub short : length text < longest_line

-- there is no line feed yet, and room for one
pub record IsUnfinishedLine (octets : List ℕ) : Type 0 where
  pub short : length octets < longest_line
  pub no_feed : list_any is_feed octets ≡ false

module _ (IsLine : List ℕ → Type 0) where
  -- the text that begins the octets as a line is no such line
  pub record HasOtherLine (octets : List ℕ) : Type 0 where
    pub text : List ℕ
    pub behind : List ℕ
    pub begins : BeginsLine octets text behind
    pub none : ¬ (IsLine text)

  -- the octets are to begin with such a line, and break by that fault
  abbrev pub LineBreaks : ScriptFault → List ℕ → Type 0
  LineBreaks fault.Line octets = HasLongLine octets ⊎ HasOtherLine octets
  LineBreaks fault.Torn octets = IsUnfinishedLine octets
  LineBreaks other octets = ⊥

-- the text is the line of some event, or of some settings
abbrev pub IsLineOfEvent : List ℕ → Type 0
IsLineOfEvent text = (l : EventLine) × IsEventLine text l

abbrev pub IsLineOfSettings : List ℕ → Type 0
IsLineOfSettings text = (keys : ℕ) × (bytes : ℕ) × IsSettingsLine text keys bytes

-- ---- the octets of an event

-- the octets begin with the line of an event whose octets stand behind it
pub record HasLine (octets : List ℕ) (l : EventLine) (behind : List ℕ) : Type 0 where
  pub octets_are : octets ≡ line_text l ++ 10 ∷ behind
  pub fits : LineFits l

-- what is to be so many octets and a line feed breaks by that fault: it ends before, or has another octet in the line feed's place
abbrev pub OctetsBreak : ScriptFault → ℕ → List ℕ → Type 0
OctetsBreak fault.Line size octets = (size < length octets) × (slice_index octets size ≢ 10)
OctetsBreak fault.Torn size octets = length octets ≤ size
OctetsBreak other size octets = ⊥

-- behind the line of an event its octets break by that fault
pub record BringsBroken (f : ScriptFault) (octets : List ℕ) : Type 0 where
  pub line : EventLine
  pub behind : List ℕ
  pub has : HasLine octets line behind
  pub brings : has_octets line.kind ≡ true
  pub breaks : OctetsBreak f line.size behind

-- an event breaks the octets by that fault
abbrev pub EventBreaks : ScriptFault → List ℕ → Type 0
EventBreaks f octets = LineBreaks IsLineOfEvent f octets ⊎ BringsBroken f octets

-- ---- the script

-- behind the opening the line of the settings breaks the octets by that fault
pub record BreaksInSettings (octets : List ℕ) (f : ScriptFault) : Type 0 where
  pub rest : List ℕ
  pub octets_are : octets ≡ opening ++ rest
  pub breaks : LineBreaks IsLineOfSettings f rest

-- behind events octets are left, which the next one breaks by that fault
pub record BreaksInEvents (octets : List ℕ) (f : ScriptFault) : Type 0 where
  pub keys : ℕ
  pub bytes : ℕ
  pub events : List Event
  pub rest : List ℕ
  pub splits : Splits octets keys bytes events rest
  pub some : rest ≢ []
  pub breaks : EventBreaks f rest

-- the fault breaks the octets
abbrev pub ScriptBreaks : List ℕ → ScriptFault → Type 0
ScriptBreaks octets f = OpeningBreaks f octets ⊎ (BreaksInSettings octets f ⊎ BreaksInEvents octets f)

-- the octets are a script of those settings and of the first of the events
pub record IsScriptOfFirst (octets : List ℕ) (keys bytes : ℕ) (events : List Event) : Type 0 where
  pub first : List Event
  pub others : List Event
  pub events_are : events ≡ first ++ others
  pub is : IsScript octets keys bytes first
