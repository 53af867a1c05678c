-- Scripts: the settings of a cache and the events that it meets, and how they are spelled.
use Rattle.std.specs.Prelude.{◌≡◌, ℕ, ◌≤◌, Bool, true, false, List, [], ◌∷◌, ◌++◌, length, codes, if◌then◌else◌}
use Rattle.std.specs.Fmt.{decimal}
use Rattle.std.specs.List.{AllByRecursion}
use Rattle.hc_service.specs.declared.event.Event.{Event}
use Rattle.hc_service.specs.declared.event.Happening.{Happening}
use Rattle.hc_service.specs.declared.event.Happening.TheVariants.{ClientOpened, ClientBytes, ClientEnd, OriginBytes, OriginEnd, OriginFailed, Stopping}
use Rattle.hc_transcript.specs.Limits.{longest_message}
use Rattle.hc_scripts.specs.declared.event_line.EventLine.{EventLine}
use Rattle.hc_scripts.specs.declared.kind.EventKind.{EventKind}
use Rattle.hc_scripts.specs.declared.kind.EventKind.TheVariants as kind
use Rattle.hc_scripts.specs.ScriptLimits.{greatest_count, greatest_keys}

-- ---- events

-- what tells the kind of an event
abbrev pub word : EventKind → List ℕ
word kind.ClientOpened = codes "open"
word kind.ClientBytes = codes "client"
word kind.ClientEnd = codes "end"
word kind.OriginBytes = codes "origin"
word kind.OriginEnd = codes "originend"
word kind.OriginFailed = codes "fail"

-- whether octets follow the line of such an event
abbrev pub has_octets : EventKind → Bool
has_octets kind.ClientBytes = true
has_octets kind.OriginBytes = true
has_octets other = false

-- the moment, and where octets follow a space and how many
abbrev pub tail_text : EventKind → ℕ → ℕ → List ℕ
tail_text kind moment size = if has_octets kind then decimal moment ++ 32 ∷ decimal size else decimal moment

-- the line of an event: word, number, moment, and where octets follow how many, with a space between each two
abbrev pub line_text : EventLine → List ℕ
line_text l = word l.kind ++ 32 ∷ (decimal l.number ++ 32 ∷ tail_text l.kind l.moment l.size)

-- a line of a script tells what happens: of a stop none does
abbrev pub IsTold : Happening → Type 0
IsTold Stopping = ⊥
IsTold other = Unit {0}

-- what the event tells, the number of its connection or forward, and the octets that it brings; of a stop they mean nothing
abbrev pub kind_of : Happening → EventKind
kind_of (ClientOpened c) = kind.ClientOpened
kind_of (ClientBytes c octets) = kind.ClientBytes
kind_of (ClientEnd c) = kind.ClientEnd
kind_of (OriginBytes f octets) = kind.OriginBytes
kind_of (OriginEnd f) = kind.OriginEnd
kind_of (OriginFailed f) = kind.OriginFailed
kind_of Stopping = kind.OriginFailed

abbrev pub number_of : Happening → ℕ
number_of (ClientOpened c) = c
number_of (ClientBytes c octets) = c
number_of (ClientEnd c) = c
number_of (OriginBytes f octets) = f
number_of (OriginEnd f) = f
number_of (OriginFailed f) = f
number_of Stopping = 0

abbrev pub octets_of : Happening → List ℕ
octets_of (ClientBytes c octets) = octets
octets_of (OriginBytes f octets) = octets
octets_of other = []

-- the line of an event
abbrev pub line_of : Event → EventLine
line_of e = record { kind = kind_of e.of; number = number_of e.of; moment = e.moment; size = length (octets_of e.of) }

-- what stands behind an event's line: where its kind brings octets those and a line feed
abbrev pub octets_text : EventKind → List ℕ → List ℕ
octets_text kind octets = if has_octets kind then octets ++ 10 ∷ [] else []

-- an event: its line and a line feed, and its octets
abbrev pub event_text : Event → List ℕ
event_text e = line_text (line_of e) ++ 10 ∷ octets_text (kind_of e.of) (octets_of e.of)

-- events, one behind the other
abbrev pub events_text : List Event → List ℕ
events_text [] = []
events_text (e ∷ events) = event_text e ++ events_text events

-- ---- scripts

-- what stands at the front of a script
abbrev pub opening : List ℕ
opening = codes "HCS1" ++ 10 ∷ []

-- the line of the settings: how many keys the store of the cache may have, and how many octets
abbrev pub settings_text : ℕ → ℕ → List ℕ
settings_text keys bytes = codes "settings" ++ 32 ∷ (decimal keys ++ 32 ∷ decimal bytes)

-- a script: the opening, the line of the settings and a line feed, and the events
abbrev pub script_text : ℕ → ℕ → List Event → List ℕ
script_text keys bytes events = opening ++ (settings_text keys bytes ++ 10 ∷ events_text events)

-- ---- numbers in their ranges

-- the most octets that an event of the kind brings: a head and a body, each as long as a recorded one may be
abbrev pub most_octets : EventKind → ℕ
most_octets kind = if has_octets kind then longest_message else 0

pub record LineFits (l : EventLine) : Type 0 where
  pub number : l.number ≤ greatest_count
  pub moment : l.moment ≤ greatest_count
  pub size : l.size ≤ most_octets l.kind

-- a line tells of the event, with numbers in their ranges
pub record EventFits (e : Event) : Type 0 where
  pub told : IsTold e.of
  pub line : LineFits (line_of e)

-- the text is the line of such an event, without its line feed
pub record IsEventLine (text : List ℕ) (l : EventLine) : Type 0 where
  pub text_is : text ≡ line_text l
  pub fits : LineFits l

-- the text is the line of such settings, without its line feed
pub record IsSettingsLine (text : List ℕ) (keys bytes : ℕ) : Type 0 where
  pub text_is : text ≡ settings_text keys bytes
  pub keys_fit : keys ≤ greatest_keys
  pub bytes_fit : bytes ≤ greatest_count

-- the octets are a script's opening, its settings, these events, and a rest
pub record Splits (octets : List ℕ) (keys bytes : ℕ) (events : List Event) (rest : List ℕ) : Type 0 where
  pub octets_are : octets ≡ opening ++ (settings_text keys bytes ++ 10 ∷ (events_text events ++ rest))
  pub keys_fit : keys ≤ greatest_keys
  pub bytes_fit : bytes ≤ greatest_count
  pub events_fit : AllByRecursion EventFits events

-- the octets are that script
pub record IsScript (octets : List ℕ) (keys bytes : ℕ) (events : List Event) : Type 0 where
  pub octets_are : octets ≡ script_text keys bytes events
  pub keys_fit : keys ≤ greatest_keys
  pub bytes_fit : bytes ≤ greatest_count
  pub events_fit : AllByRecursion EventFits events
