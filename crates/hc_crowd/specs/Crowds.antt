-- What a crowd tells. The newest move comes first.
use Rattle.std.specs.Prelude.{ℕ, ◌≤◌, List, [], ◌∷◌}
use Rattle.hc_transcript.specs.Limits.{greatest_moment}
use Rattle.hc_order.specs.Log.{Move}
use Rattle.hc_order.specs.Log.Move.{Before, Closed, Heard, Sent}
use Rattle.hc_agenda.specs.declared.moments.Moments.{Moments}
use Rattle.hc_peers.specs.declared.peers.Peers.{Peers}
use Rattle.hc_agenda.specs.MomentsKept.{told_by}
use Rattle.hc_peers.specs.Peers.{ArePeers, Bounds}
use Rattle.hc_peers.specs.Peers.Bounds.{AtMost}
use Rattle.hc_attended.specs.declared.times.Times.{Times}
use Rattle.hc_crowd.specs.declared.limits.Limits.{Limits}

-- each moment is at most that of what was heard next, and the last is at most this one
abbrev pub AreUpTo : ℕ → List Move → Type 0
AreUpTo latest [] = Unit {0}
AreUpTo latest (Before beginning ∷ log) = AreUpTo latest log
AreUpTo latest (Heard occurrence ∷ log) = (occurrence.event.moment ≤ latest) × AreUpTo occurrence.event.moment log
AreUpTo latest (Sent to octets ∷ log) = AreUpTo latest log
AreUpTo latest (Closed link ∷ log) = AreUpTo latest log

-- how many links a crowd's limits allow
abbrev pub bounds_of : Limits → Bounds
bounds_of limits = AtMost limits.connections limits.origin_connections

-- how long links may take, by a crowd's limits
abbrev pub times_of : Limits → Times
times_of limits = record { patience = limits.patience; queue_timeout = limits.queue_timeout; connect_timeout = limits.connect_timeout }

-- what passed at the links is what the log says, links are few, and moments follow one another up to the clock's
abbrev pub CrowdTells : {S : Type 0} → (S → List ℕ → Type 0) → (S → List ℕ → Type 0) → Limits → Peers S → Moments → List Move → Type 0
CrowdTells has_given has_got limits peers clock log = ArePeers has_given has_got (bounds_of limits) peers log × AreUpTo (told_by clock) log

-- a moment from the clock's on
abbrev pub MayTell : Moments → ℕ → Type 0
MayTell clock moment = (told_by clock ≤ moment) × (moment ≤ greatest_moment)
