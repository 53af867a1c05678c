-- What passes at the links of a connection. The newest move comes first.
use Rattle.std.specs.Prelude.{◌≡◌, ℕ, ◌+◌, ◌<◌, ◌≤◌, ◌==◌, ◌||◌, Bool, true, false, List, [], ◌∷◌, ◌++◌, length, Option, Some, None, if◌then◌else◌}
use Rattle.hc_service.specs.declared.event.Happening.{Happening}
use Rattle.hc_service.specs.declared.event.Happening.TheVariants.{ClientOpened, ClientBytes, ClientEnd, OriginBytes, OriginEnd, OriginFailed, Stopping}
use Rattle.hc_order.specs.declared.occurrence.Reason.{Reason}
use Rattle.hc_order.specs.declared.occurrence.Reason.TheVariants.{Peer, Replies, Reads, Stop, Late, Reset, Held, Displaced, Abandoned}
use Rattle.hc_order.specs.declared.receiver.Receiver.{Receiver}
use Rattle.hc_order.specs.declared.receiver.Receiver.TheVariants.{Client, Origin}
use Rattle.hc_order.specs.Log.{Move}
use Rattle.hc_order.specs.Log.Move.{Before, Closed, Heard, Sent}
use Rattle.hc_order.specs.Mirrors.{is_its}
use Rattle.hc_links.specs.Links.{most_octets}

-- ---- the client of a connection

-- what happens to clients happens to that one, and no stop is told
abbrev pub IsOf : ℕ → Happening → Type 0
IsOf c (ClientOpened d) = d ≡ c
IsOf c (ClientBytes d octets) = d ≡ c
IsOf c (ClientEnd d) = d ≡ c
IsOf c (OriginBytes f octets) = Unit {0}
IsOf c (OriginEnd f) = Unit {0}
IsOf c (OriginFailed f) = Unit {0}
IsOf c Stopping = ⊥

abbrev pub AreOf : ℕ → List Move → Type 0
AreOf c [] = Unit {0}
AreOf c (Before beginning ∷ log) = beginning.number ≡ c
AreOf c (Heard occurrence ∷ log) = IsOf c occurrence.event.of × AreOf c log
AreOf c (Sent to octets ∷ log) = AreOf c log
AreOf c (Closed link ∷ log) = AreOf c log

abbrev pub given_by : Happening → List ℕ
given_by (ClientBytes c octets) = octets
given_by other = []

-- the octets that were read from its link
abbrev pub given_in : List Move → List ℕ
given_in [] = []
given_in (Before beginning ∷ log) = beginning.given
given_in (Heard occurrence ∷ log) = given_in log ++ given_by occurrence.event.of
given_in (Sent to octets ∷ log) = given_in log
given_in (Closed link ∷ log) = given_in log

abbrev pub sent_by : ℕ → Receiver → List ℕ → List ℕ
sent_by c (Client d) octets = if d == c then octets else []
sent_by c (Origin f) octets = []

-- the octets that were to be written to it
abbrev pub sent_in : ℕ → List Move → List ℕ
sent_in c [] = []
sent_in c (Before beginning ∷ log) = beginning.got
sent_in c (Heard occurrence ∷ log) = sent_in c log
sent_in c (Sent to octets ∷ log) = sent_in c log ++ sent_by c to octets
sent_in c (Closed link ∷ log) = sent_in c log

-- how often it had failed before
abbrev pub failures_before : List Move → ℕ
failures_before [] = 0
failures_before (Before beginning ∷ log) = beginning.failures
failures_before (Heard occurrence ∷ log) = failures_before log
failures_before (Sent to octets ∷ log) = failures_before log
failures_before (Closed link ∷ log) = failures_before log

-- how often it had been read before
abbrev pub reads_before : List Move → ℕ
reads_before [] = 0
reads_before (Before beginning ∷ log) = beginning.reads
reads_before (Heard occurrence ∷ log) = reads_before log
reads_before (Sent to octets ∷ log) = reads_before log
reads_before (Closed link ∷ log) = reads_before log

-- ---- what happened first

abbrev pub earlier_or : Option Happening → Happening → Option Happening
earlier_or (Some first) of = Some first
earlier_or None of = Some of

abbrev pub first_in : List Move → Option Happening
first_in [] = None
first_in (Before beginning ∷ log) = None
first_in (Heard occurrence ∷ log) = earlier_or (first_in log) occurrence.event.of
first_in (Sent to octets ∷ log) = first_in log
first_in (Closed link ∷ log) = first_in log

-- ---- bounds

abbrev pub one_for : ℕ → Receiver → ℕ
one_for c (Client d) = if d == c then 1 else 0
one_for c (Origin f) = 0

-- how many replies were sent to it
abbrev pub replies_in : ℕ → List Move → ℕ
replies_in c [] = 0
replies_in c (Before beginning ∷ log) = 0
replies_in c (Heard occurrence ∷ log) = replies_in c log
replies_in c (Sent to octets ∷ log) = one_for c to + replies_in c log
replies_in c (Closed link ∷ log) = replies_in c log

abbrev pub one_of_client : Happening → ℕ
one_of_client (ClientBytes c octets) = 1
one_of_client other = 0

-- how often octets of the client came
abbrev pub client_reads_in : List Move → ℕ
client_reads_in [] = 0
client_reads_in (Before beginning ∷ log) = 0
client_reads_in (Heard occurrence ∷ log) = one_of_client occurrence.event.of + client_reads_in log
client_reads_in (Sent to octets ∷ log) = client_reads_in log
client_reads_in (Closed link ∷ log) = client_reads_in log

abbrev pub one_of_origin : Happening → ℕ
one_of_origin (OriginBytes f octets) = 1
one_of_origin (OriginEnd f) = 1
one_of_origin other = 0

-- how often octets of an origin came, or its end
abbrev pub origin_reads_in : List Move → ℕ
origin_reads_in [] = 0
origin_reads_in (Before beginning ∷ log) = 0
origin_reads_in (Heard occurrence ∷ log) = one_of_origin occurrence.event.of + origin_reads_in log
origin_reads_in (Sent to octets ∷ log) = origin_reads_in log
origin_reads_in (Closed link ∷ log) = origin_reads_in log

abbrev pub is_of_client : Happening → Bool
is_of_client (ClientBytes c octets) = true
is_of_client other = false

-- the most replies behind which a client is read still
abbrev pub most_replies : ℕ
most_replies = 100

-- the most reads for a connection
abbrev pub most_reads : ℕ
most_reads = 1000000

-- whether its connection was closed
abbrev pub is_closed_in : ℕ → List Move → Bool
is_closed_in c [] = false
is_closed_in c (Before beginning ∷ log) = false
is_closed_in c (Heard occurrence ∷ log) = is_closed_in c log
is_closed_in c (Sent to octets ∷ log) = is_closed_in c log
is_closed_in c (Closed link ∷ log) = is_its c link || is_closed_in c log

abbrev pub is_end_of : ℕ → Happening → Bool
is_end_of c (ClientEnd d) = d == c
is_end_of c other = false

-- whether it was told that the client sends no more
abbrev pub is_ended_in : ℕ → List Move → Bool
is_ended_in c [] = false
is_ended_in c (Before beginning ∷ log) = false
is_ended_in c (Heard occurrence ∷ log) = if is_end_of c occurrence.event.of then true else is_ended_in c log
is_ended_in c (Sent to octets ∷ log) = is_ended_in c log
is_ended_in c (Closed link ∷ log) = is_ended_in c log

-- nothing is heard of the client behind its end, nor once its connection was closed
abbrev pub IsHeard : ℕ → List Move → Type 0
IsHeard c log = (is_ended_in c log ≡ false) × (is_closed_in c log ≡ false)

-- no octets of it are read there, nor behind so many replies, and its end comes once at the most
abbrev pub ReadsInTime : ℕ → List Move → Type 0
ReadsInTime c [] = Unit {0}
ReadsInTime c (Before beginning ∷ log) = Unit {0}
ReadsInTime c (Heard occurrence ∷ log) =
    (is_of_client occurrence.event.of ≡ true → (replies_in c log < most_replies) × IsHeard c log) × (is_end_of c occurrence.event.of ≡ true → IsHeard c log) × ReadsInTime c log
ReadsInTime c (Sent to octets ∷ log) = ReadsInTime c log
ReadsInTime c (Closed link ∷ log) = ReadsInTime c log

-- ---- reasons

-- it is told because no link is read any more
abbrev pub is_of_reads : Reason → Bool
is_of_reads Peer = false
is_of_reads Replies = false
is_of_reads Reads = true
is_of_reads Stop = false
is_of_reads Late = false
is_of_reads Reset = false
is_of_reads Held = false
is_of_reads Displaced = false
is_of_reads Abandoned = false

-- something was told for that
abbrev pub is_spent_in : List Move → Bool
is_spent_in [] = false
is_spent_in (Before beginning ∷ log) = false
is_spent_in (Heard occurrence ∷ log) = if is_of_reads occurrence.reason then true else is_spent_in log
is_spent_in (Sent to octets ∷ log) = is_spent_in log
is_spent_in (Closed link ∷ log) = is_spent_in log

-- links are read still: nothing was told for that, and fewer reads brought something than there may be
abbrev pub AreRead : List Move → Type 0
AreRead log = (is_spent_in log ≡ false) × (client_reads_in log + origin_reads_in log < most_reads)

-- the client's end is told for the replies where so many were sent to it; else for the reads, or because the client sends no more, while links are read still; nothing else ends a connection that is served alone
abbrev pub EndsFor : ℕ → Reason → List Move → Type 0
EndsFor c Peer log = (replies_in c log < most_replies) × AreRead log
EndsFor c Replies log = most_replies ≤ replies_in c log
EndsFor c Reads log = replies_in c log < most_replies
EndsFor c Stop log = ⊥
EndsFor c Late log = ⊥
EndsFor c Reset log = ⊥
EndsFor c Held log = ⊥
EndsFor c Displaced log = ⊥
EndsFor c Abandoned log = ⊥

-- a forward's failure is told for the reads, or because it failed, while links are read still
abbrev pub FailsFor : Reason → List Move → Type 0
FailsFor Peer log = AreRead log
FailsFor Replies log = ⊥
FailsFor Reads log = Unit {0}
FailsFor Stop log = ⊥
FailsFor Late log = ⊥
FailsFor Reset log = ⊥
FailsFor Held log = ⊥
FailsFor Displaced log = ⊥
FailsFor Abandoned log = ⊥

-- no stop is told; all else is told because the other side did it: it opens a connection, or is read
abbrev pub HappensFor : ℕ → Happening → Reason → List Move → Type 0
HappensFor c (ClientEnd d) reason log = EndsFor c reason log
HappensFor c (OriginFailed f) reason log = FailsFor reason log
HappensFor c (ClientOpened d) reason log = reason ≡ Peer
HappensFor c Stopping reason log = ⊥
HappensFor c other reason log = (reason ≡ Peer) × AreRead log

-- each is told for its reason
abbrev pub HaveReasons : ℕ → List Move → Type 0
HaveReasons c [] = Unit {0}
HaveReasons c (Before beginning ∷ log) = Unit {0}
HaveReasons c (Heard occurrence ∷ log) = HappensFor c occurrence.event.of occurrence.reason log × HaveReasons c log
HaveReasons c (Sent to octets ∷ log) = HaveReasons c log
HaveReasons c (Closed link ∷ log) = HaveReasons c log

-- ---- moments

-- each moment is one that the clock may tell
abbrev pub AreMoments : (ℕ → Type 0) → List Move → Type 0
AreMoments may_tell [] = Unit {0}
AreMoments may_tell (Before beginning ∷ log) = AreMoments may_tell log
AreMoments may_tell (Heard occurrence ∷ log) = may_tell occurrence.event.moment × AreMoments may_tell log
AreMoments may_tell (Sent to octets ∷ log) = AreMoments may_tell log
AreMoments may_tell (Closed link ∷ log) = AreMoments may_tell log

-- ---- bounds on octets

abbrev pub octets_of : Happening → List ℕ
octets_of (ClientBytes c octets) = octets
octets_of (OriginBytes f octets) = octets
octets_of other = []

-- each read brought at most so many octets
abbrev pub ReadsFew : List Move → Type 0
ReadsFew [] = Unit {0}
ReadsFew (Before beginning ∷ log) = Unit {0}
ReadsFew (Heard occurrence ∷ log) = (length (octets_of occurrence.event.of) ≤ most_octets) × ReadsFew log
ReadsFew (Sent to octets ∷ log) = ReadsFew log
ReadsFew (Closed link ∷ log) = ReadsFew log
