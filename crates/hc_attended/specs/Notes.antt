-- What is noted of links, and what is left of that.
use Rattle.std.specs.Prelude.{◌≡◌, ℕ, ◌||◌, ◌&&◌, ◌==◌, Bool, true, false}
use Rattle.std.specs.List.{list_any}
use Rattle.hc_order.specs.declared.receiver.Receiver.{Receiver}
use Rattle.hc_order.specs.Passages.{is_at}
use Rattle.hc_agenda.specs.declared.agenda.Agenda.{Agenda}
use Rattle.hc_agenda.specs.declared.deadline.Timeout.{Timeout}
use Rattle.hc_agenda.specs.Agendas.{owed_in}
use Rattle.hc_agenda.specs.Deadlines.{deadline_at, has_come, is_of_forward}
use Rattle.hc_agenda.specs.Turns.{all_of}
use Rattle.hc_agenda.specs.Due.{same_timeout}
use Rattle.hc_agenda.specs.declared.deadline.Timeout.TheVariants.{OriginLingering}

-- whether a link stands among the turns
abbrev pub stands_in_turn : Receiver → Agenda → Bool
stands_in_turn link agenda = list_any (is_at link) (all_of agenda.turns)

-- whether it is noted that something may have to be written to a link
abbrev pub is_noted_owed : Receiver → Agenda → Bool
is_noted_owed link agenda = list_any (is_at link) (owed_in agenda)

-- whether a link is heard or written to next
abbrev pub is_seen_to : Receiver → Agenda → Bool
is_seen_to link agenda = stands_in_turn link agenda || is_noted_owed link agenda

-- whether a number is due by a time-out at that tick, or before
abbrev pub is_due_up_to : Timeout → ℕ → (latest : ℕ) → Agenda → Bool
is_due_up_to timeout number latest agenda = has_come (deadline_at timeout number agenda.deadlines) latest

-- ---- what is kept

-- all that is noted is kept, but at most the turns of some links, that others are owed something, and deadlines of some numbers
pub record KeepsNotes (loses_turn loses_owed : Receiver → Bool) (is_moved : Timeout → ℕ → Bool) (before after : Agenda) : Type 0 where
  -- that memory was refused is kept
  pub refused : after.refused ≡ false → before.refused ≡ false
  pub turns : (link : Receiver) → loses_turn link ≡ false → stands_in_turn link before ≡ true → stands_in_turn link after ≡ true
  pub owed : (link : Receiver) → loses_owed link ≡ false → is_noted_owed link before ≡ true → is_noted_owed link after ≡ true
  pub due : (timeout : Timeout) (n : ℕ) → is_moved timeout n ≡ false → deadline_at timeout n after.deadlines ≡ deadline_at timeout n before.deadlines

-- no link
abbrev pub no_link : Receiver → Bool
no_link link = false

-- no deadline
abbrev pub no_deadline : Timeout → ℕ → Bool
no_deadline timeout n = false

-- deadlines of that number, by some time-outs
abbrev pub due_of : (Timeout → Bool) → ℕ → Timeout → ℕ → Bool
due_of is_of number timeout n = is_of timeout && number == n

-- whether a time-out is of a forward, or of its link that lingers
abbrev pub is_of_link : Timeout → Bool
is_of_link timeout = is_of_forward timeout || same_timeout OriginLingering timeout
