-- What is heard at a link, and when.
use Rattle.std.specs.Prelude.{◌≡◌, ◌||◌, ◌⊎◌, ℕ, Bool, true, false, List, ◌++◌, Result, Ok, Err}
use Rattle.std.specs.declared.alloc.AllocError.{AllocError}
use Rattle.hc_flow.specs.Flows.{is_owed}
use Rattle.hc_flow.specs.declared.flow.Flow.{Flow}
use Rattle.hc_flow.specs.declared.readiness.Readiness.{Readiness}
use Rattle.hc_order.specs.declared.occurrence.Reason.TheVariants.{Peer, Stop, Reset, Displaced}
use Rattle.hc_order.specs.Passages.{Passage, ending, hearing, sending}
use Rattle.hc_flow.specs.declared.heard.Heard.{Heard}
use Rattle.hc_flow.specs.declared.heard.Heard.TheVariants.{Octets, End, Lost, Nothing}

abbrev pub has_octets : Heard → Bool
has_octets (Octets octets) = true
has_octets (End reason) = false
has_octets (Lost reason) = false
has_octets Nothing = false

abbrev pub is_end : Heard → Bool
is_end (Octets octets) = false
is_end (End reason) = true
is_end (Lost reason) = false
is_end Nothing = false

abbrev pub is_lost : Heard → Bool
is_lost (Octets octets) = false
is_lost (End reason) = false
is_lost (Lost reason) = true
is_lost Nothing = false

-- whether what the system tells of a link asks for a turn of it
abbrev pub wants_turn : Readiness → Bool
wants_turn readiness = readiness.readable || (readiness.ended || readiness.failed)

-- ---- what it makes of what passed

-- octets come behind those that were heard before
abbrev pub GivesHeard : (List ℕ → Type 0) → Result Heard AllocError → List ℕ → Type 0
GivesHeard gives (Ok (Octets octets)) before = gives (before ++ octets)
GivesHeard gives (Ok (End reason)) before = gives before
GivesHeard gives (Ok (Lost reason)) before = gives before
GivesHeard gives (Ok Nothing) before = gives before
GivesHeard gives (Err refused) before = gives before

-- octets come behind, and an end ends the other side; else what is kept of the passage is kept still
abbrev pub KeepsHeard : (Passage → Type 0) → Result Heard AllocError → Passage → Type 0
KeepsHeard keeps (Ok (Octets octets)) passage = keeps (hearing octets passage)
KeepsHeard keeps (Ok (End reason)) passage = keeps (ending passage)
KeepsHeard keeps (Ok (Lost reason)) passage = keeps passage
KeepsHeard keeps (Ok Nothing) passage = keeps passage
KeepsHeard keeps (Err refused) passage = keeps passage

-- these octets more were sent; where memory was refused, none were
abbrev pub KeepsSent : {T : Type 0} → (Passage → Type 0) → Result T AllocError → List ℕ → Passage → Type 0
KeepsSent keeps (Ok done) octets passage = keeps (sending octets passage)
KeepsSent keeps (Err refused) octets passage = keeps passage

-- ---- when it may be heard

-- something is heard of a link that is open and whose other side hasn't ended
abbrev pub IsHeardOpen : (is_open is_ended : Bool) → Result Heard AllocError → Type 0
IsHeardOpen is_open is_ended (Ok (Octets octets)) = (is_open ≡ true) × (is_ended ≡ false)
IsHeardOpen is_open is_ended (Ok (End reason)) = (is_open ≡ true) × (is_ended ≡ false)
IsHeardOpen is_open is_ended (Ok (Lost reason)) = (is_open ≡ true) × (is_ended ≡ false)
IsHeardOpen is_open is_ended (Ok Nothing) = Unit {0}
IsHeardOpen is_open is_ended (Err refused) = Unit {0}

-- octets, and an end by which the other side leaves, for a stop or for another's sake, are heard only where nothing holds them back; that a link has failed is heard at once
abbrev pub IsHeardInTurn : Bool → Result Heard AllocError → Type 0
IsHeardInTurn held_back (Ok (Octets octets)) = held_back ≡ false
IsHeardInTurn held_back (Ok (End Peer)) = held_back ≡ false
IsHeardInTurn held_back (Ok (End Stop)) = held_back ≡ false
IsHeardInTurn held_back (Ok (End Displaced)) = held_back ≡ false
IsHeardInTurn held_back other = Unit {0}

-- whether the other side has ended, by whether it had before
abbrev pub ends_by : Result Heard AllocError → Bool → Bool
ends_by (Ok (End reason)) before = true
ends_by other before = before

-- ---- why it is heard

-- it was known before that the link had failed, or its stream has failed by now
abbrev pub HasFailed : {S : Type 0} → (S → Type 0) → Flow S → Flow S → Type 0
HasFailed has_failed before after = (before.failed ≡ true) ⊎ has_failed after.stream

-- a read is lost because the link has failed
abbrev pub IsRead : (has_failed : Type 0) → Result Heard AllocError → Type 0
IsRead has_failed (Ok (Lost reason)) = (reason ≡ Reset) × has_failed
IsRead has_failed other = Unit {0}

-- an end is heard because the other side has ended what it sends, and for no other reason
abbrev pub IsEndOf : (has_ended : Type 0) → Result Heard AllocError → Type 0
IsEndOf has_ended (Ok (End reason)) = (reason ≡ Peer) × has_ended
IsEndOf has_ended other = Unit {0}

-- where an end is told as the other side's, that has ended what it sends
abbrev pub IsRealEnd : (has_ended : Type 0) → Result Heard AllocError → Type 0
IsRealEnd has_ended (Ok (End Peer)) = has_ended
IsRealEnd has_ended other = Unit {0}

-- a link has failed only where that was known before, where its stream has failed by now, or on that ground
abbrev pub FailsOnly : {S : Type 0} → (S → Type 0) → (ground : Type 0) → Flow S → Flow S → Type 0
FailsOnly has_failed ground before after = after.failed ≡ true → HasFailed has_failed before after ⊎ ground

-- ---- what it leaves

-- whether a link has failed behind what was heard there
abbrev pub fails_by : Result Heard AllocError → Bool
fails_by (Ok (Octets octets)) = false
fails_by (Ok (End reason)) = false
fails_by (Ok (Lost reason)) = true
fails_by (Ok Nothing) = false
fails_by (Err refused) = true

-- what a read leaves: where nothing was heard, nothing more may be read now; nothing more waits to be written than before
pub record FlowIsHeard {S : Type 0} (result : Result Heard AllocError) (before after : Flow S) : Type 0 where
  pub failed : after.failed ≡ fails_by result
  pub quiet : result ≡ Ok Nothing → after.readable ≡ false
  pub owed : is_owed after ≡ true → is_owed before ≡ true
  pub writable : after.writable ≡ before.writable

-- whether a link is to be heard again behind what was heard, by whether a read may bring more: where memory was refused for what came, it has failed, which is to be heard
abbrev pub goes_on : Result Heard AllocError → (readable : Bool) → Bool
goes_on (Ok (Octets octets)) readable = readable
goes_on (Ok (End reason)) readable = readable
goes_on (Ok (Lost reason)) readable = readable
goes_on (Ok Nothing) readable = false
goes_on (Err refused) readable = true
