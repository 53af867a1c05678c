-- Connections of clients, one after another.
use Rattle.std.specs.Prelude.{◌≡◌, ◌⊎◌, ℕ, zero, suc, ◌+◌, ◌<◌, ◌≤◌, true, nat_lt, List, [], ◌∷◌, ◌++◌, length, Option, Some, None, Result, Ok, Err}
use Rattle.hc_transcript.specs.declared.record.Record.{Record}
use Rattle.hc_transcript.specs.Limits.{greatest_moment, greatest_number}
use Rattle.hc_service.specs.declared.event.Happening.TheVariants.{ClientOpened}
use Rattle.hc_service.specs.declared.fault.StepFault.TheVariants.{Memory, MomentTooLarge, UnknownNumber, TooManyConnections, Failed}
use Rattle.hc_service.specs.declared.settings.CoreSettings.{CoreSettings}
use Rattle.hc_service.specs.Agreement.{Agrees, History}
use Rattle.hc_service.specs.Runs.{IsJudgedRight, StepResult, records_given, transcript_of}
use Rattle.hc_service.specs.Settings.{AreGood}
use Rattle.hc_service.specs.State.{State, new_state}
use Rattle.hc_core.specs.Steps.{Cache, StandsFor}
use Rattle.hc_order.specs.declared.occurrence.Occurrence.{Occurrence}
use Rattle.hc_order.specs.Mirrors.{Mirrors}
use Rattle.hc_drive.specs.Rounds.{Break, stage}
use Rattle.hc_drive.specs.Rounds.Break.{AtAnswer}
use Rattle.hc_links.specs.Clients.{ServedLink}
use Rattle.hc_links.specs.Links.{CountsFailure, IsBeginning}
use Rattle.hc_connection.specs.Moves.{AreMoments, AreOf, HaveReasons, first_in, given_in, sent_in}
use Rattle.hc_order.specs.Log.{Beginning, Move}
use Rattle.hc_order.specs.Log.Move.{Before}
use Rattle.hc_drive.specs.declared.fault.DriveFault.{DriveFault}
use Rattle.hc_drive.specs.declared.fault.DriveFault.TheVariants as drive
use Rattle.hc_drive.specs.declared.fault.ServingFault.{ServingFault}
use Rattle.hc_drive.specs.declared.fault.ServingFault.TheVariants as fault
use Rattle.hc_order.specs.Passed.{AreServed, events_of, passed}
use Rattle.hc_drive.specs.Drives.{BreakOff, BreaksAsUsual, GivesUpLate, IsLeftIdle, Leads, LedToMirror, answers_by, most_rounds, texts_given}

-- ---- one connection

-- the number of the connection before that one, if there was one
abbrev pub number_before : ℕ → Option ℕ
number_before zero = None
number_before (suc zero) = None
number_before (suc (suc n)) = Some (suc n)

-- the connection of that number, on a fresh link, before anything has passed
abbrev pub beginning_of : ℕ → Beginning
beginning_of n = record { last = number_before n; number = n; given = []; got = []; reads = 0; failures = 0 }

abbrev pub unserved : ℕ → List Move
unserved n = Before (beginning_of n) ∷ []

-- what passed at it, where the cache was handed what happened and answered so
abbrev pub log_of : ℕ → List Occurrence → List StepResult → List Move
log_of n occurrences results = passed occurrences results (unserved n)

-- what happened and the answers are those of the connection of that number, at whose client's link that has passed: what happened first is that the client opened it,
-- and nothing happened to other clients; what was read there was handed to the cache, and what was written there is a beginning of what the cache sent, and all of it
-- unless the link has failed; each moment is one that the clock may tell, and each event is told for its reason
pub record IsConnection (may_tell : ℕ → Type 0) (n : ℕ) (occurrences : List Occurrence) (results : List StepResult) (link : ServedLink) : Type 0 where
  pub opened : first_in (log_of n occurrences results) ≡ Some (ClientOpened n)
  pub own : AreOf n (log_of n occurrences results)
  pub given : link.given ≡ given_in (log_of n occurrences results)
  pub got : IsBeginning link.got (sent_in n (log_of n occurrences results))
  pub moments : AreMoments may_tell (log_of n occurrences results)
  pub reasons : HaveReasons n (log_of n occurrences results)
  pub whole : link.failures ≡ 0 → link.got ≡ sent_in n (log_of n occurrences results)

-- what passed is of the connection of that number, at moments that the clock may tell, and told for its reasons: its opening happened first, if anything did
abbrev pub IsOwn : (ℕ → Type 0) → ℕ → List Move → Type 0
IsOwn may_tell n log = AreOf n log × AreMoments may_tell log × HaveReasons n log × ((first_in log ≡ None) ⊎ (first_in log ≡ Some (ClientOpened n)))

-- ---- what is open between connections

-- from whatever state of the cache mirrors the log before the connection of that number, it was led to one that mirrors the log before the next, as far as records can be numbered
abbrev pub LeadsToNext : ℕ → ℕ → Cache → Cache → List StepResult → Type 0
LeadsToNext n next old new results = (room : ℕ) (settings : CoreSettings) (s : State) (h : History) → AreGood settings → StandsFor settings old s → Agrees s h
    → s.numbers.records + length (records_given results) ≤ greatest_number → Mirrors room s (unserved n)
    → LedToMirror room settings s new (length (records_given results)) (unserved next)

-- ---- connections, one after another

-- behind earlier ones the connection of that number; its client's link is the newest
pub record GoesBehind (may_tell : ℕ → Type 0) (AreEarlier : List Occurrence → List StepResult → List ServedLink → Type 0) (n : ℕ) (occurrences : List Occurrence) (results : List StepResult) (links : List ServedLink) : Type 0 where
  pub before : List Occurrence
  pub answered : List StepResult
  pub others : List ServedLink
  pub own : List Occurrence
  pub answers : List StepResult
  pub link : ServedLink
  pub occurrences_are : occurrences ≡ before ++ own
  pub results_are : results ≡ answered ++ answers
  pub links_are : links ≡ link ∷ others
  pub are_earlier : AreEarlier before answered others
  pub is_connection : IsConnection may_tell n own answers link

-- what happened, the answers and the links are those of the connections 1, 2, .., n, in order
abbrev pub AreConnections : (ℕ → Type 0) → ℕ → List Occurrence → List StepResult → List ServedLink → Type 0
AreConnections may_tell zero occurrences results links = (occurrences ≡ []) × (results ≡ []) × (links ≡ [])
AreConnections may_tell (suc n) occurrences results links = GoesBehind may_tell (AreConnections may_tell n) (suc n) occurrences results links

-- the connections 1, 2, .., n: each event was served, and they lead from whatever the cache stood for to what it stands for
pub record Connections (may_tell : ℕ → Type 0) (n : ℕ) (old new : Cache) : Type 0 where
  pub occurrences : List Occurrence
  pub results : List StepResult
  pub links : List ServedLink
  pub numbered : AreConnections may_tell n occurrences results links
  pub served : AreServed results
  pub leads : Leads old new (events_of occurrences) results
  pub mirrors : LeadsToNext 1 (suc n) old new results

-- ---- what clients tell

-- so many more have come, and so often more none did
abbrev pub ComeSince : (ℕ → ℕ → Type 0) → (ℕ → ℕ → Type 0) → ℕ → ℕ → Type 0
ComeSince before after n misses = (earlier missed : ℕ) → before earlier missed → after (n + earlier) (misses + missed)

-- these links more were handed back
abbrev pub LeftSince : (List ServedLink → Type 0) → (List ServedLink → Type 0) → List ServedLink → Type 0
LeftSince before after links = (earlier : List ServedLink) → before earlier → after (links ++ earlier)

-- ---- the next connection

module _ (may_tell : ℕ → Type 0) (come : ℕ → ℕ → Type 0) (left : List ServedLink → Type 0) (holds : List ℕ → Type 0) where
  -- it was served: a client came, its link was handed back, and the texts of its records stand behind the text
  pub record ServesNext (n : ℕ) (old new : Cache) (text : List ℕ) : Type 0 where
    pub occurrences : List Occurrence
    pub results : List StepResult
    pub link : ServedLink
    pub is_connection : IsConnection may_tell n occurrences results link
    pub served : AreServed results
    pub leads : Leads old new (events_of occurrences) results
    pub mirrors : 0 < n → LeadsToNext n (suc n) old new results
    pub come_one : come 1 0
    pub left_one : left (link ∷ [])
    pub held : holds (text ++ texts_given results)

  -- a client came, and its connection broke off; its link wasn't handed back
  pub record BreaksNext (why : DriveFault) (n : ℕ) (old new : Cache) (text : List ℕ) : Type 0 where
    pub come_one : come 1 0
    pub left_none : left []
    pub broken : BreakOff 1 why (IsOwn may_tell n) holds (Unit {0}) (stage old (unserved n) text) new

  -- it was served, none came, or it broke off
  abbrev pub GivesNext : {T : Type 0} → Result T ServingFault → ℕ → Cache → Cache → List ℕ → Type 0
  GivesNext (Ok done) n old new text = ServesNext n old new text
  GivesNext (Err fault.Clients) n old new text = (new ≡ old) × come 0 1 × left [] × holds text
  GivesNext (Err fault.Recorder) n old new text = BreaksNext drive.Recorder n old new text
  GivesNext (Err (fault.Core step)) n old new text = BreaksNext (drive.Core step) n old new text

-- ---- how a break is

-- a break is as usual whatever the cache stood for before all, where that mirrored the log before the first connection and has room for one, as far as records can be numbered
abbrev pub IsUsualBehind : Cache → List StepResult → Break → Type 0
IsUsualBehind old results break = (room : ℕ) (settings : CoreSettings) (s : State) (h : History) → AreGood settings → StandsFor settings old s → Agrees s h
    → s.numbers.records + length (records_given results) ≤ greatest_number → 1 ≤ room → Mirrors room s (unserved 1) → BreaksAsUsual break

-- where the driver gave up, it had made as many rounds as it makes, whatever the cache stood for before all, where that mirrored the log before the first connection, as far as records can be numbered
abbrev pub GivesUpLateBehind : Cache → List StepResult → Break → DriveFault → ℕ → Type 0
GivesUpLateBehind old results break why rounds = (room : ℕ) (settings : CoreSettings) (s : State) (h : History) → AreGood settings → StandsFor settings old s → Agrees s h
    → s.numbers.records + length (records_given results) ≤ greatest_number → Mirrors room s (unserved 1) → GivesUpLate break why rounds

-- the recorder failed, memory was refused, an event's moment was too large to be told, or as many rounds were made as a driver makes
abbrev pub IsExpected : DriveFault → Break → ℕ → Type 0
IsExpected drive.Client break rounds = ⊥
IsExpected drive.Recorder break rounds = Unit {0}
IsExpected (drive.Core Memory) break rounds = Unit {0}
IsExpected (drive.Core MomentTooLarge) break rounds =
    (occurrence : Occurrence) × (break ≡ AtAnswer occurrence MomentTooLarge) × (nat_lt greatest_moment occurrence.event.moment ≡ true)
IsExpected (drive.Core UnknownNumber) break rounds = ⊥
IsExpected (drive.Core TooManyConnections) break rounds = ⊥
IsExpected (drive.Core Failed) break rounds = rounds ≡ most_rounds

-- so it is where the cache was a new one before all, as far as records can be numbered
abbrev pub IsExpectedOfNew : Cache → List StepResult → Break → DriveFault → ℕ → Type 0
IsExpectedOfNew old results break why rounds = (settings : CoreSettings) → AreGood settings → StandsFor settings old (new_state settings)
    → length (records_given results) ≤ greatest_number → IsExpected why break rounds

-- ---- all that were served

module _ (may_tell : ℕ → Type 0) (come : ℕ → ℕ → Type 0) (left : List ServedLink → Type 0) (holds : List ℕ → Type 0) where
  -- the connections 1, 2, .., n were: so many clients came, and so often none did; their links were handed back, and the texts of the records stand behind the text
  pub record Serving (n misses : ℕ) (old new : Cache) (text : List ℕ) : Type 0 where
    pub all : Connections may_tell n old new
    pub come_all : come n misses
    pub left_all : left all.links
    pub held : holds (text ++ texts_given all.results)

  -- fewer were, and no further client came
  pub record EndsBefore (count : ℕ) (old new : Cache) (text : List ℕ) : Type 0 where
    pub n : ℕ
    pub fewer : n < count
    pub serving : Serving n 1 old new text

  -- fewer were served, and behind them the next one broke off
  pub record BreaksBefore (why : DriveFault) (count : ℕ) (old new : Cache) (text : List ℕ) : Type 0 where
    pub n : ℕ
    pub fewer : n < count
    pub between : Cache
    pub all : Connections may_tell n old between
    pub come_all : come (1 + n) 0
    pub left_all : left all.links
    pub broken : BreakOff 1 why (IsOwn may_tell (1 + n)) holds (Unit {0}) (stage between (unserved (1 + n)) (text ++ texts_given all.results)) new
    pub usual : IsUsualBehind old (all.results ++ (broken.results ++ answers_by broken.break)) broken.break
    pub late : GivesUpLateBehind old (all.results ++ (broken.results ++ answers_by broken.break)) broken.break why (length broken.occurrences)
    pub expected : IsExpectedOfNew old (all.results ++ (broken.results ++ answers_by broken.break)) broken.break why (length broken.occurrences)

  -- so many connections were served, no further client came, or one broke off
  abbrev pub GivesServing : {T : Type 0} → Result T ServingFault → ℕ → Cache → Cache → List ℕ → Type 0
  GivesServing (Ok done) count old new text = Serving count 0 old new text
  GivesServing (Err fault.Clients) count old new text = EndsBefore count old new text
  GivesServing (Err fault.Recorder) count old new text = BreaksBefore drive.Recorder count old new text
  GivesServing (Err (fault.Core step)) count old new text = BreaksBefore (drive.Core step) count old new text

-- ---- the recording

-- all of a transcript, to which the audit that lets nothing pass says yes, as far as records can be numbered
pub record HoldsTranscript (holds : List ℕ → Type 0) : Type 0 where
  pub records : List Record
  pub held : holds (transcript_of records)
  pub right : length records ≤ greatest_number → IsJudgedRight records

-- a beginning of one
pub record HoldsBeginning (holds : List ℕ → Type 0) : Type 0 where
  pub records : List Record
  pub front : List ℕ
  pub begins : IsBeginning front (transcript_of records)
  pub held : holds front
  pub right : length records ≤ greatest_number → IsJudgedRight records

-- it is all of one where no connection broke off
abbrev pub GivesTranscript : {T : Type 0} → (List ℕ → Type 0) → Result T ServingFault → Type 0
GivesTranscript holds (Ok done) = HoldsTranscript holds
GivesTranscript holds (Err fault.Clients) = HoldsTranscript holds
GivesTranscript holds (Err fault.Recorder) = HoldsBeginning holds
GivesTranscript holds (Err (fault.Core step)) = HoldsBeginning holds

-- ---- what stays

-- the count of the recorder's failures
abbrev pub CountsServing : {T : Type 0} → Result T ServingFault → ℕ → ℕ → Type 0
CountsServing (Ok done) before after = after ≡ before
CountsServing (Err fault.Clients) before after = after ≡ before
CountsServing (Err fault.Recorder) before after = CountsFailure before after
CountsServing (Err (fault.Core step)) before after = after ≡ before

-- a cache that was idle is idle again where no connection broke off
abbrev pub KeepsIdle : {T : Type 0} → Result T ServingFault → Cache → Cache → Type 0
KeepsIdle (Ok done) old new = IsLeftIdle old → IsLeftIdle new
KeepsIdle (Err fault.Clients) old new = IsLeftIdle old → IsLeftIdle new
KeepsIdle (Err fault.Recorder) old new = Unit {0}
KeepsIdle (Err (fault.Core step)) old new = Unit {0}
