-- Plumbing: what the functions that read a script answer.
use Rattle.std.specs.Prelude.{◌≡◌, ◌≢◌, ℕ, ◌≤◌, ◌==◌, false, List, [], ◌∷◌, ◌++◌, length}
use Rattle.std.specs.Fmt.{decimal}
use Rattle.std.specs.List.{list_any, AllByRecursion}
use Rattle.hc_service.specs.declared.event.Event.{Event}
use Rattle.hc_scripts.specs.declared.event_line.EventLine.{EventLine}
use Rattle.hc_scripts.specs.declared.fault.ScriptFault.{ScriptFault}
use Rattle.hc_scripts.specs.declared.fault.ScriptFault.TheVariants as fault
use Rattle.hc_scripts.specs.declared.kind.EventKind.{EventKind}
use Rattle.hc_scripts.specs.declared.kind.EventKind.TheVariants as kind
use Rattle.hc_service.specs.declared.event.Happening.{Happening}
use Rattle.hc_service.specs.declared.event.Happening.TheVariants.{ClientOpened, ClientBytes, ClientEnd, OriginBytes, OriginEnd, OriginFailed}
use Rattle.hc_scripts.specs.ScriptLimits.{greatest_count, greatest_keys}
use Rattle.hc_scripts.specs.Scripts.{settings_text, tail_text, most_octets, event_text, events_text, EventFits}
use Rattle.hc_transcript.specs.Lines.{HasLongLine}
use Rattle.hc_scripts.specs.ScriptFaults.{IsUnfinishedLine, EventBreaks}

-- what stands before the first octet that is the mark, and what stands behind that
pub record SplitsAt (mark : ℕ) (octets front behind : List ℕ) : Type 0 where
  pub octets_are : octets ≡ front ++ mark ∷ behind
  pub none_before : list_any (λ c. c == mark) front ≡ false

-- the text is the decimal of the number, which is at most the greatest
pub record IsNumeral (text : List ℕ) (greatest n : ℕ) : Type 0 where
  pub text_is : text ≡ decimal n
  pub fits : n ≤ greatest

-- the text is such a decimal, a space, and the rest
pub record IsNumeralThen (text : List ℕ) (greatest n : ℕ) (rest : List ℕ) : Type 0 where
  pub text_is : text ≡ decimal n ++ 32 ∷ rest
  pub fits : n ≤ greatest

-- the text is what stands behind the number in the line of an event of that kind
pub record IsTail (kind : EventKind) (text : List ℕ) (moment size : ℕ) : Type 0 where
  pub text_is : text ≡ tail_text kind moment size
  pub moment_fits : moment ≤ greatest_count
  pub size_fits : size ≤ most_octets kind

-- no line begins the octets: they have as many as a line without a line feed, or may go on to one
abbrev pub LacksLine : ScriptFault → List ℕ → Type 0
LacksLine fault.Line octets = HasLongLine octets
LacksLine fault.Torn octets = IsUnfinishedLine octets
LacksLine other octets = ⊥

-- the octets begin with the line of those settings, and the rest stands behind its line feed
pub record BeginsSettings (octets : List ℕ) (keys bytes : ℕ) (rest : List ℕ) : Type 0 where
  pub octets_are : octets ≡ settings_text keys bytes ++ 10 ∷ rest
  pub keys_fit : keys ≤ greatest_keys
  pub bytes_fit : bytes ≤ greatest_count

-- the text begins with so many octets and a line feed, and the rest stands behind that
pub record HasOctets (size : ℕ) (text octets rest : List ℕ) : Type 0 where
  pub text_is : text ≡ octets ++ 10 ∷ rest
  pub size_is : length octets ≡ size

-- what happens by a line's kind and number, and the octets behind it
abbrev pub happening_with : EventKind → ℕ → List ℕ → Happening
happening_with kind.ClientOpened number octets = ClientOpened number
happening_with kind.ClientBytes number octets = ClientBytes number octets
happening_with kind.ClientEnd number octets = ClientEnd number
happening_with kind.OriginBytes number octets = OriginBytes number octets
happening_with kind.OriginEnd number octets = OriginEnd number
happening_with kind.OriginFailed number octets = OriginFailed number

-- the event of a line, and the octets behind it
abbrev pub event_with : EventLine → List ℕ → Event
event_with l octets = record { moment = l.moment; of = happening_with l.kind l.number octets }

-- the text begins with octets that the event of the line brings, and the rest stands behind their line feed
pub record BringsOctets (line : EventLine) (text : List ℕ) (e : Event) (rest : List ℕ) : Type 0 where
  pub octets : List ℕ
  pub has : HasOctets line.size text octets rest
  pub event_is : e ≡ event_with line octets

-- the text begins with the event, and the rest stands behind it
pub record BeginsEvent (text : List ℕ) (e : Event) (rest : List ℕ) : Type 0 where
  pub text_is : text ≡ event_text e ++ rest
  pub fits : EventFits e

-- the text is the events, all of it
pub record AreEvents (text : List ℕ) (events : List Event) : Type 0 where
  pub text_is : text ≡ events_text events
  pub fit : AllByRecursion EventFits events

-- behind events octets are left, which the next one breaks by that fault
pub record EventsBreak (f : ScriptFault) (text : List ℕ) : Type 0 where
  pub events : List Event
  pub rest : List ℕ
  pub text_is : text ≡ events_text events ++ rest
  pub fit : AllByRecursion EventFits events
  pub some : rest ≢ []
  pub breaks : EventBreaks f rest
