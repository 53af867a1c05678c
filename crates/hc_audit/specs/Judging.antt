-- What a judge of records says of the octets that its reader was given.
use Rattle.std.specs.Prelude.{◌≡◌, ◌<◌, ◌≤◌, ℕ, ◌+◌, List, ◌∷◌, Option, Some, None, Result, Ok, Err}
use Rattle.std.specs.Allocator.{alloc_error}
use Rattle.std.specs.declared.alloc.AllocError.{AllocError}
use Rattle.hc_status.specs.declared.marks.Mark.{Mark}
use Rattle.hc_transcript.specs.declared.fault.RecordFault.{RecordFault}
use Rattle.hc_transcript.specs.declared.fault.RecordFault.TheVariants as fault
use Rattle.hc_transcript.specs.declared.format.Format.{Format}
use Rattle.hc_transcript.specs.declared.record.Record.{Record}
use Rattle.hc_transcript.specs.Items.{Item}
use Rattle.hc_transcript.specs.Limits.{longest_unfinished}
use Rattle.hc_transcript.specs.Reader.{Agrees, HasItem, Lends, MeetsFault, Waits, format_read, octets_held, reader_position, records_read, unread}
use Rattle.hc_history.specs.declared.settings.Settings.{Settings}
use Rattle.hc_history.specs.declared.verdicts.Finding.{Finding}
use Rattle.hc_history.specs.declared.verdicts.Finding.TheVariants as finding
use Rattle.hc_history.specs.declared.verdicts.Verdict.{Verdict}
use Rattle.hc_history.specs.Counting.{AreAtMost, counts_of}
use Rattle.hc_history.specs.Right.{AllRight}
use Rattle.hc_history.specs.Seen.{Seen, IsSeenAs}
use Rattle.hc_audit.specs.declared.judge.Judge.{Judge}
use Rattle.hc_audit.specs.declared.judge.Step.{Step}
use Rattle.hc_audit.specs.declared.judge.Step.TheVariants.{Right, Settled}
use Rattle.hc_audit.specs.declared.judge.Step.TheVariants as step
use Rattle.hc_audit.specs.declared.next.Next.{Next}
use Rattle.hc_audit.specs.declared.next.Next.TheVariants.{Waiting, Record as One, Broken}
use Rattle.hc_audit.specs.declared.witness.JudgedReply.{JudgedReply}
use Rattle.hc_audit.specs.Standing.{Stands}

-- ---- what is read next

-- what a fault of the transcript at a position is to whoever reads on
abbrev pub next_behind : RecordFault → ℕ → Result Next AllocError
next_behind fault.Memory position = Err alloc_error
next_behind broken position = Ok (Broken position broken)

-- the reader lends a record, which isn't counted yet
pub record LendsNext {I : Type 0} (j : Judge I) : Type 0 where
  pub lends : HasItem j.reader
  pub counted : ℕ
  pub one_more : records_read j.reader ≡ counted + 1
  pub few : AreAtMost counted j.counts

-- where a record was read, the reader lends it, and less is unread; where none is whole, it holds less than a record
abbrev pub MovesOn : {I : Type 0} → Result Next AllocError → Judge I → Judge I → Type 0
MovesOn (Ok Waiting) old new = octets_held new.reader ≤ longest_unfinished
MovesOn (Ok (One format)) old new = LendsNext new × (unread new.reader < unread old.reader)
MovesOn (Ok (Broken position broken)) old new = Unit {0}
MovesOn (Err e) old new = Unit {0}

-- whether the octets may be of a format, as far as their opening was read
abbrev pub MayBeOf : Option Format → Format → Type 0
MayBeOf None format = Unit {0}
MayBeOf (Some read) format = read ≡ format

module _ {I : Type 0} (seen : I → Seen) where
  -- the judge has these settings, has read of the octets these items, and its index and its counts are those of them
  pub record HasRead (j : Judge I) (settings : Settings) (octets : List ℕ) (h : List Item) : Type 0 where
    pub records : List Record
    pub reads : Agrees j.reader octets records h
    pub index : (format : Format) → MayBeOf (format_read j.reader) format → IsSeenAs format (seen j.index) h
    pub counts : (format : Format) → MayBeOf (format_read j.reader) format → j.counts ≡ counts_of format settings h
    pub settings_are : j.settings ≡ settings

  -- its reader has read one item more, of which the index and the counts don't know yet, in a transcript of that format
  pub record IsAhead (j : Judge I) (settings : Settings) (octets : List ℕ) (h : List Item) (format : Format) : Type 0 where
    pub one : Record
    pub records : List Record
    pub item : Item
    pub reads : Agrees j.reader octets (one ∷ records) (item ∷ h)
    pub lends : Lends j.reader item
    pub format_is : format_read j.reader ≡ Some format
    pub index : IsSeenAs format (seen j.index) h
    pub counts : j.counts ≡ counts_of format settings h
    pub settings_are : j.settings ≡ settings

  -- what the reading of the next record says
  abbrev pub GivesNext : Result Next AllocError → Judge I → Settings → List ℕ → List Item → Type 0
  GivesNext (Ok Waiting) j settings octets h = HasRead j settings octets h × Waits j.reader h
  GivesNext (Ok (One format)) j settings octets h = IsAhead j settings octets h format
  GivesNext (Ok (Broken position broken)) j settings octets h = MeetsFault j.reader octets h broken × (position ≡ reader_position j.reader)
  GivesNext (Err e) j settings octets h = Unit {0}

-- ---- what is found of it

-- of a record that is no reply it is found that it is right, and it has no mark
abbrev pub finding_told : {I : Type 0} → Option (JudgedReply I) → Finding
finding_told None = finding.Right
finding_told (Some reply) = reply.finding

abbrev pub mark_told : {I : Type 0} → Option (JudgedReply I) → Option Mark
mark_told None = None
mark_told (Some reply) = Some reply.mark

-- ---- as long as every reply is right

-- every reply of the history is right, in each format that the octets may be of
abbrev pub AreRight : Option Format → Settings → List Item → Type 0
AreRight read settings h = (format : Format) → MayBeOf read format → AllRight format settings h

module _ {I : Type 0} (seen : I → Seen) where
  -- by these settings every reply among the records that the judge has read of the octets is right
  pub record IsJudging (j : Judge I) (settings : Settings) (octets : List ℕ) : Type 0 where
    pub history : List Item
    pub read : HasRead seen j settings octets history
    pub right : AreRight (format_read j.reader) settings history

  -- and no whole record is left
  pub record IsWaiting (j : Judge I) (settings : Settings) (octets : List ℕ) : Type 0 where
    pub judging : IsJudging j settings octets
    pub waits : Waits j.reader judging.history

  -- what one step of the judge says
  abbrev pub GivesStep : Result Step AllocError → Judge I → Settings → List ℕ → Type 0
  GivesStep (Ok step.Waiting) j settings octets = IsWaiting j settings octets
  GivesStep (Ok Right) j settings octets = IsJudging j settings octets
  GivesStep (Ok (Settled verdict)) j settings octets = Stands verdict settings octets
  GivesStep (Err e) j settings octets = Unit {0}

  -- what the judging of a piece says
  abbrev pub GivesJudged : Result (Option Verdict) AllocError → Judge I → Settings → List ℕ → Type 0
  GivesJudged (Ok None) j settings octets = IsWaiting j settings octets
  GivesJudged (Ok (Some verdict)) j settings octets = Stands verdict settings octets
  GivesJudged (Err e) j settings octets = Unit {0}
