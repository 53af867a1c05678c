-- What is to be done with links, and what each call changes of it.
use Rattle.std.specs.Prelude.{◌≡◌, ◌⊎◌, ℕ, Bool, true, false, List, [], ◌∷◌, ◌++◌, Option, Some, None}
use Rattle.hc_order.specs.declared.receiver.Receiver.{Receiver}
use Rattle.hc_agenda.specs.declared.agenda.Agenda.{Agenda}
use Rattle.hc_agenda.specs.declared.deadline.Timeout.{Timeout}
use Rattle.hc_agenda.specs.Deadlines.{Forgets, IsDue, KeepsDeadlines, NoneIsDue, SetsDeadline}
use Rattle.hc_agenda.specs.Turns.{Waiting}

-- the links to which something may have to be written, the first one first
abbrev pub owed_in : Agenda → List Receiver
owed_in agenda = agenda.owed.items

-- nothing is to be done, and no memory was refused
pub record IsFree (agenda : Agenda) : Type 0 where
  pub turns : agenda.turns ≡ record { batch = []; behind = [] }
  pub owed : owed_in agenda ≡ []
  pub deadlines : NoneIsDue agenda.deadlines
  pub sweep : agenda.sweep ≡ None
  pub refused : agenda.refused ≡ false

-- it is kept that memory was refused for a note
abbrev pub refused_in : Agenda → Agenda
refused_in agenda = record agenda { refused = true }

-- the turns of links are those; or memory was refused for that, and nothing else has changed
abbrev pub NotesTurns : Waiting → Agenda → Agenda → Type 0
NotesTurns turns before after = (after ≡ record before { turns = turns }) ⊎ (after ≡ refused_in before)

-- at most to which links something may have to be written has changed
abbrev pub ChangesOwed : Agenda → Agenda → Type 0
ChangesOwed before after = after ≡ record before { owed = after.owed }

-- something may have to be written to a link, behind all others; or memory was refused for that, and nothing else has changed
abbrev pub NotesOwed : Receiver → Agenda → Agenda → Type 0
NotesOwed link before after =
    (ChangesOwed before after × (owed_in after ≡ owed_in before ++ link ∷ []))
    ⊎ (ChangesOwed (refused_in before) after × (owed_in after ≡ owed_in before))

-- it is the first of some links, if there is one
abbrev pub IsFirstOwed : Option Receiver → List Receiver → Type 0
IsFirstOwed None links = links ≡ []
IsFirstOwed (Some link) links = (rest : List Receiver) × (links ≡ link ∷ rest)

-- the first of some links is taken out, if there is one
abbrev pub TakesFirst : Option Receiver → List Receiver → List Receiver → Type 0
TakesFirst None before after = (before ≡ []) × (after ≡ [])
TakesFirst (Some link) before after = before ≡ link ∷ after

-- at most who is due, and when, has changed
abbrev pub ChangesDeadlines : Agenda → Agenda → Type 0
ChangesDeadlines before after = after ≡ record before { deadlines = after.deadlines }

-- a number is due by a time-out at that tick; or memory was refused for that, and nothing else has changed
abbrev pub NotesDeadline : Timeout → (tick number : ℕ) → Agenda → Agenda → Type 0
NotesDeadline timeout tick number before after =
    (ChangesDeadlines before after × SetsDeadline timeout number (Some tick) before.deadlines after.deadlines)
    ⊎ (ChangesDeadlines (refused_in before) after × KeepsDeadlines before.deadlines after.deadlines)

-- a number isn't due any more by some time-outs, and nothing else has changed
abbrev pub ForgetsDeadlines : (Timeout → Bool) → ℕ → Agenda → Agenda → Type 0
ForgetsDeadlines is_forgotten number before after = ChangesDeadlines before after × Forgets is_forgotten number before.deadlines after.deadlines

-- somebody is due then, or forwards are to be looked at
abbrev pub IsToBeDone : Agenda → (tick : ℕ) → Type 0
IsToBeDone agenda tick = IsDue agenda.deadlines tick ⊎ (agenda.sweep ≡ Some tick)
