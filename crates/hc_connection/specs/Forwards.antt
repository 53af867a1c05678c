-- The forwards of a connection, and in which order links are read. The newest move comes first.
use Rattle.std.specs.Prelude.{◌≡◌, ℕ, ◌≤◌, ◌==◌, Bool, true, false, List, [], ◌∷◌, ◌++◌, length, Option, Some, None, Result, Ok, Err, if◌then◌else◌}
use Rattle.std.specs.declared.alloc.AllocError.{AllocError}
use Rattle.std.specs.BTreeMap.{BTreeMap, get}
use Rattle.std.specs.Ordering.{nat_cmp}
use Rattle.hc_service.specs.declared.event.Happening.{Happening}
use Rattle.hc_service.specs.declared.event.Happening.TheVariants.{ClientOpened, ClientBytes, ClientEnd, OriginBytes, OriginEnd, OriginFailed, Stopping}
use Rattle.hc_links.specs.declared.reading.Came.{Came}
use Rattle.hc_links.specs.declared.reading.Came.TheVariants.{Octets, End, Failure}
use Rattle.hc_links.specs.declared.happened.Happened.{Happened}
use Rattle.hc_connection.specs.Moves.{first_in}
use Rattle.hc_links.specs.Links.{most_octets}
use Rattle.hc_links.specs.Telling.{occurs}
use Rattle.hc_order.specs.declared.occurrence.Reason.TheVariants.{Peer}
use Rattle.hc_order.specs.Log.{Move}
use Rattle.hc_order.specs.Mirrors.{is_on}
use Rattle.hc_order.specs.Log.Move.{Before, Closed, Heard, Sent}

-- ---- what is open

abbrev pub ends : ℕ → Happening → Bool
ends f (OriginEnd g) = g == f
ends f (OriginFailed g) = g == f
ends f other = false

-- octets were sent on it, and since then neither its end nor its failure was heard, nor was it closed
abbrev pub is_open_in : ℕ → List Move → Bool
is_open_in f [] = false
is_open_in f (Before beginning ∷ log) = false
is_open_in f (Heard occurrence ∷ log) = if ends f occurrence.event.of then false else is_open_in f log
is_open_in f (Sent to octets ∷ log) = if is_on f to then true else is_open_in f log
is_open_in f (Closed link ∷ log) = if is_on f link then false else is_open_in f log

-- none is
abbrev pub NoneOpen : List Move → Type 0
NoneOpen log = (f : ℕ) → is_open_in f log ≡ false

-- it is the open one of the least number
abbrev pub IsLeastOpen : ℕ → List Move → Type 0
IsLeastOpen f log = (is_open_in f log ≡ true) × ((g : ℕ) → is_open_in g log ≡ true → f ≤ g)

-- ---- what passed there

abbrev pub read_behind : ℕ → Happening → List ℕ → List ℕ
read_behind f (OriginBytes g octets) before = if g == f then before ++ octets else before
read_behind f other before = before

-- the octets that were read there since it was opened
abbrev pub read_on : ℕ → List Move → List ℕ
read_on f [] = []
read_on f (Before beginning ∷ log) = []
read_on f (Heard occurrence ∷ log) = read_behind f occurrence.event.of (read_on f log)
read_on f (Sent to octets ∷ log) = if is_on f to then [] else read_on f log
read_on f (Closed link ∷ log) = read_on f log

-- the octets that were sent there as it was opened
abbrev pub sent_on : ℕ → List Move → List ℕ
sent_on f [] = []
sent_on f (Before beginning ∷ log) = []
sent_on f (Heard occurrence ∷ log) = sent_on f log
sent_on f (Sent to octets ∷ log) = if is_on f to then octets else sent_on f log
sent_on f (Closed link ∷ log) = sent_on f log

-- what is kept of a forward: nothing where it isn't open; else its link, which gave what was read there, and got what was sent there; or no link, and then nothing was read there
abbrev pub IsKept : {L : Type 0} → (L → List ℕ → Type 0) → (L → List ℕ → Type 0) → Bool → List ℕ → List ℕ → Option (Option L) → Type 0
IsKept has_given has_got is_open read sent None = is_open ≡ false
IsKept has_given has_got is_open read sent (Some None) = (is_open ≡ true) × (read ≡ [])
IsKept has_given has_got is_open read sent (Some (Some link)) = (is_open ≡ true) × has_given link read × has_got link sent

-- what is kept of each
abbrev pub AreKept : {L : Type 0} → (L → List ℕ → Type 0) → (L → List ℕ → Type 0) → BTreeMap ℕ (Option L) → List Move → Type 0
AreKept has_given has_got links log =
    (f : ℕ) → IsKept has_given has_got (is_open_in f log) (read_on f log) (sent_on f log) (get nat_cmp links f)

-- ---- in which order links are read

-- octets, or an end, come of the open forward of the least number, a failure of one that is open; the client's octets where none is; and the client opens its connection where nothing has happened; a stop never comes
abbrev pub IsNext : Happening → List Move → Type 0
IsNext (ClientOpened c) log = first_in log ≡ None
IsNext (ClientBytes c octets) log = NoneOpen log
IsNext (OriginBytes f octets) log = IsLeastOpen f log
IsNext (OriginEnd f) log = IsLeastOpen f log
IsNext (OriginFailed f) log = is_open_in f log ≡ true
IsNext Stopping log = ⊥
IsNext other log = Unit {0}

abbrev pub AreInOrder : List Move → Type 0
AreInOrder [] = Unit {0}
AreInOrder (Before beginning ∷ log) = AreInOrder log
AreInOrder (Heard occurrence ∷ log) = IsNext occurrence.event.of log × AreInOrder log
AreInOrder (Sent to octets ∷ log) = AreInOrder log
AreInOrder (Closed link ∷ log) = AreInOrder log

-- it happens, whatever the moment, behind the log, and in order
abbrev pub KeepsHappening : (List Move → Type 0) → Happened → List Move → Type 0
KeepsHappening keeps happened log = IsNext happened.of log × ((moment : ℕ) → keeps (Heard (occurs moment happened.of happened.reason) ∷ log))

abbrev pub KeepsPerhaps : (List Move → Type 0) → Option Happened → List Move → Type 0
KeepsPerhaps keeps (Some happened) log = KeepsHappening keeps happened log
KeepsPerhaps keeps None log = keeps log

abbrev pub KeepsIfOk : (List Move → Type 0) → Result (Option Happened) AllocError → List Move → Type 0
KeepsIfOk keeps (Ok perhaps) log = KeepsPerhaps keeps perhaps log
KeepsIfOk keeps (Err refused) log = keeps log

-- the number is that of the least, or none is open
abbrev pub TellsLeast : Option ℕ → List Move → Type 0
TellsLeast (Some f) log = IsLeastOpen f log
TellsLeast None log = NoneOpen log

-- ---- what comes of a forward

abbrev pub HasFew : Result Came AllocError → Type 0
HasFew (Ok (Octets octets)) = length octets ≤ most_octets
HasFew other = Unit {0}

-- octets that came were read there
abbrev pub KeepsCame : (List Move → Type 0) → ℕ → Result Came AllocError → List Move → Type 0
KeepsCame keeps f (Ok (Octets octets)) log = (moment : ℕ) → keeps (Heard (occurs moment (OriginBytes f octets) Peer) ∷ log)
KeepsCame keeps f (Ok End) log = keeps log
KeepsCame keeps f (Ok Failure) log = keeps log
KeepsCame keeps f (Err refused) log = keeps log

-- the same of one link; without one there is no end
abbrev pub KeepsSlot : {L : Type 0} → (L → List ℕ → Type 0) → (L → List ℕ → Type 0) → Bool → List ℕ → List ℕ → Result Came AllocError → Option L → Type 0
KeepsSlot has_given has_got is_open read sent (Ok (Octets octets)) slot = IsKept has_given has_got is_open (read ++ octets) sent (Some slot)
KeepsSlot has_given has_got is_open read sent (Ok End) None = ⊥
KeepsSlot has_given has_got is_open read sent (Ok End) (Some link) = IsKept has_given has_got is_open read sent (Some (Some link))
KeepsSlot has_given has_got is_open read sent (Ok Failure) slot = IsKept has_given has_got is_open read sent (Some slot)
KeepsSlot has_given has_got is_open read sent (Err refused) slot = IsKept has_given has_got is_open read sent (Some slot)

-- what happens is of the client
abbrev pub IsOfClient : Happening → Type 0
IsOfClient (ClientBytes c octets) = Unit {0}
IsOfClient (ClientEnd c) = Unit {0}
IsOfClient other = ⊥
