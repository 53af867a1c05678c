-- What each call leaves of the one link that it names.
use Rattle.std.specs.Prelude.{◌≡◌, ◌&&◌, ◌||◌, ◌⊎◌, ◌++◌, ◌∷◌, [], not, ℕ, Bool, true, false, Option, Some, None, is_some, if◌then◌else◌, length, unwrap_or, IsErr, Result, Ok, Err}
use Rattle.std.specs.BTreeMap.{get}
use Rattle.std.specs.Option.{IsSomeAnd}
use Rattle.std.specs.Ordering.{nat_cmp}
use Rattle.std.specs.declared.alloc.AllocError.{AllocError}
use Rattle.hc_flow.specs.Emptyings.{is_failed_emptying}
use Rattle.hc_flow.specs.Flows.{FlowLearns, LeavesFlow, is_owed, may_be_written}
use Rattle.hc_flow.specs.Hearings.{ends_by, goes_on, wants_turn}
use Rattle.hc_flow.specs.Paces.{owing, progress_written, written}
use Rattle.hc_flow.specs.declared.heard.Heard.{Heard}
use Rattle.hc_flow.specs.declared.heard.Heard.TheVariants as heard
use Rattle.hc_flow.specs.declared.outbox.Emptying.{Emptying}
use Rattle.hc_flow.specs.declared.pace.Pace.TheVariants.{Idle}
use Rattle.hc_flow.specs.declared.readiness.Readiness.{Readiness}
use Rattle.hc_agenda.specs.Places.{ChangesOpened, opened_in}
use Rattle.hc_order.specs.declared.occurrence.Reason.{Reason}
use Rattle.hc_order.specs.declared.receiver.Receiver.{Receiver}
use Rattle.hc_order.specs.declared.receiver.Receiver.TheVariants.{Client as to_client, Origin as to_origin}
use Rattle.hc_peers.specs.Forwards.{is_linked_and, is_waiting, spare_behind}
use Rattle.hc_peers.specs.Leaving.{left_behind}
use Rattle.hc_peers.specs.Tables.{is_there_and}
use Rattle.hc_peers.specs.Times.{pace_behind, progress_behind}
use Rattle.hc_peers.specs.declared.client.Client.{Client}
use Rattle.hc_peers.specs.declared.client.Hearing.{Hearing}
use Rattle.hc_peers.specs.declared.forward.Forward.{Forward}
use Rattle.hc_peers.specs.declared.forward.Reaching.{Reaching}
use Rattle.hc_peers.specs.declared.forward.Reaching.TheVariants.{Waiting, Linked, Lost}
use Rattle.hc_peers.specs.declared.lingerer.Lingerer.{Lingerer}
use Rattle.hc_peers.specs.declared.origin_link.OriginLink.{OriginLink}
use Rattle.hc_peers.specs.declared.peers.Peers.{Peers}

-- both are there, and the one is what a call leaves of the other; or neither is there
abbrev pub Behind : {V : Type 0} → (V → V → Type 0) → Option V → Option V → Type 0
Behind Leaves None None = Unit {0}
Behind Leaves (Some before) (Some after) = Leaves before after
Behind Leaves before after = ⊥

-- ---- clients

-- whether a client may be read: a read may bring something, nothing is owed to it, and its connection is closed, so that what comes is dropped, or it hasn't ended and none of its requests awaits its reply
abbrev pub may_be_read : {S : Type 0} → Client S → Bool
may_be_read client = client.flow.readable && (not (is_owed client.flow) && (client.closed || (not client.ended && not client.waits)))

-- whether its link has failed, which is to be told, or lets it go
abbrev pub is_broken : {S : Type 0} → Client S → Bool
is_broken client = client.flow.failed && (client.closed || not client.ended)

-- whether something is to be heard of it
abbrev pub is_client_heard : {S : Type 0} → Client S → Bool
is_client_heard client = may_be_read client || is_broken client

-- one who has just connected has a turn
pub record IsFreshClient {S : Type 0} (stream : S) (tick : ℕ) (client : Client S) : Type 0 where
  pub link : client.flow.stream ≡ stream
  pub works : client.flow.failed ≡ false
  pub free : is_owed client.flow ≡ false
  pub state : (client.ended ≡ false) × (client.closed ≡ false) × (client.cut ≡ false) × (client.waits ≡ false)
  pub queued : client.queued ≡ true
  pub pace : client.pace ≡ Idle tick

-- something is heard of it: whether a request of it awaited its reply is kept; where it isn't heard again, nothing is to be heard
pub record ClientIsHeard {S : Type 0} (hearing : Hearing) (result : Result Heard AllocError) (before after : Client S) : Type 0 where
  pub rest : after ≡ record before { flow = after.flow; ended = ends_by result before.ended; waits = hearing.awaited; pace = pace_behind result hearing.tick before.pace }
  pub quiet : before.closed ≡ false → goes_on result after.flow.readable ≡ false → is_client_heard after ≡ false
  pub written : may_be_written after.flow ≡ true → may_be_written before.flow ≡ true

-- octets are owed to it: it waits for a reply no more
pub record ClientIsSent {S : Type 0} (tick : ℕ) (before after : Client S) : Type 0 where
  pub rest : after ≡ record before { flow = after.flow; waits = false; pace = owing (is_owed after.flow) tick before.pace }
  pub link : (after.flow.failed ≡ before.flow.failed) × (after.flow.readable ≡ before.flow.readable) × (after.flow.writable ≡ before.flow.writable)

-- what was owed is written, as far as it is taken
pub record ClientIsWritten {S : Type 0} (emptying : Emptying) (tick : ℕ) (before after : Client S) : Type 0 where
  pub rest : after ≡ record before { flow = after.flow; pace = written emptying (length before.flow.outbox) (length after.flow.outbox) tick before.pace }
  pub leaves : LeavesFlow emptying after.flow
  pub readable : after.flow.readable ≡ before.flow.readable

-- something is told of its link
pub record ClientLearns {S : Type 0} (readiness : Readiness) (tick : ℕ) (before after : Client S) : Type 0 where
  pub rest : after ≡ record before { flow = after.flow; queued = wants_turn readiness || before.queued; left = left_behind readiness tick before.left }
  pub flow : FlowLearns readiness before.flow after.flow

-- its connection is closed
pub record ClientIsClosed {S : Type 0} (before after : Client S) : Type 0 where
  pub rest : after ≡ record before { flow = after.flow; closed = true }
  pub link : (after.flow.failed ≡ before.flow.failed) × (after.flow.outbox ≡ before.flow.outbox) × (after.flow.readable ≡ before.flow.readable) × (after.flow.writable ≡ before.flow.writable)

-- what comes of one whose connection is closed is dropped: as long as more may come, its link works
pub record ClientIsDropped {S : Type 0} (over : Bool) (before after : Client S) : Type 0 where
  pub rest : after ≡ record before { flow = after.flow }
  pub works : before.closed ≡ true → over ≡ false → after.flow.failed ≡ false
  pub owed : is_owed after.flow ≡ true → is_owed before.flow ≡ true
  -- what is owed is lost only where its link fails
  pub waits : after.flow.failed ≡ false → after.flow.outbox ≡ before.flow.outbox
  pub writable : after.flow.writable ≡ before.flow.writable

-- its link is lost: nothing is owed to it any more
pub record ClientIsLost {S : Type 0} (cut : Bool) (before after : Client S) : Type 0 where
  pub rest : after ≡ record before { flow = after.flow; cut = before.cut || cut }
  pub failed : after.flow.failed ≡ true
  pub free : is_owed after.flow ≡ false

-- ---- forwards

-- whether something is to be heard where the origin was reached so far: there is no link any more, or it has failed, or it works and a read may bring something
abbrev pub brings_news : {S : Type 0} → Reaching S → Bool
brings_news (Waiting request) = false
brings_news (Linked link) = link.flow.failed || (not (is_some link.spare) && link.flow.readable)
brings_news (Lost reason) = true

-- whether something is to be heard of a forward
abbrev pub is_forward_heard : {S : Type 0} → Forward S → Bool
is_forward_heard forward = not forward.ended && brings_news forward.reaching

-- whether octets wait to be written on a link that works, and may be taken now
abbrev pub may_be_written_on : {S : Type 0} → Reaching S → Bool
may_be_written_on reaching = is_linked_and reaching (λ link. not (is_some link.spare) && may_be_written link.flow)

-- one that was opened waits for a link
pub record IsFreshForward {S : Type 0} (forward : Forward S) : Type 0 where
  pub waits : is_waiting forward.reaching ≡ true
  pub queued : forward.queued ≡ false
  pub ended : forward.ended ≡ false

-- it is there, or, where memory was refused, all is as before
abbrev pub IsOpened : {S : Type 0} → Result Unit AllocError → Option (Forward S) → Option (Forward S) → Type 0
IsOpened (Ok done) before after = IsSomeAnd after IsFreshForward
IsOpened (Err refused) before after = after ≡ before

-- what is told of a link to the origin: of one that works a failure is left to be read, like an end
abbrev pub left_to_read : Readiness → Readiness
left_to_read readiness = record { readable = readiness.readable || readiness.failed; writable = readiness.writable; ended = readiness.ended || readiness.failed; failed = false }

-- something is told of a link to the origin
pub record LinkLearns {S : Type 0} (readiness : Readiness) (before after : OriginLink S) : Type 0 where
  pub rest : after ≡ record before { flow = after.flow; spare = spare_behind readiness before.spare }
  pub flow : FlowLearns (if is_some before.spare then readiness else left_to_read readiness) before.flow after.flow

-- as far as there is a link, it is left so; else all is as before
abbrev pub LeavesReaching : {S : Type 0} → (OriginLink S → OriginLink S → Type 0) → Reaching S → Reaching S → Type 0
LeavesReaching Leaves (Waiting before) (Waiting after) = after ≡ before
LeavesReaching Leaves (Linked before) (Linked after) = Leaves before after
LeavesReaching Leaves (Lost before) (Lost after) = after ≡ before
LeavesReaching Leaves before after = ⊥

-- something is told of a forward's link
pub record ForwardLearns {S : Type 0} (readiness : Readiness) (before after : Forward S) : Type 0 where
  pub rest : after ≡ record before { reaching = after.reaching; queued = wants_turn readiness || before.queued }
  pub reaching : LeavesReaching (LinkLearns readiness) before.reaching after.reaching

-- what was owed is written on a link that works, as far as it is taken; on another nothing is tried
pub record LinkIsWritten {S : Type 0} (emptying : Emptying) (tick : ℕ) (before after : OriginLink S) : Type 0 where
  pub rest : after ≡ record before { flow = after.flow; progress = progress_written emptying (length before.flow.outbox) (length after.flow.outbox) tick before.progress }
  pub leaves : is_some before.spare ≡ false → LeavesFlow emptying after.flow
  pub opening : is_some before.spare ≡ true → after.flow ≡ before.flow
  pub failed : after.flow.failed ≡ is_failed_emptying emptying
  pub readable : after.flow.readable ≡ before.flow.readable

-- the same of a forward: without a link nothing is returned
abbrev pub ReachingIsWritten : {S : Type 0} → Option Emptying → (tick : ℕ) → Reaching S → Reaching S → Type 0
ReachingIsWritten None tick (Waiting before) (Waiting after) = after ≡ before
ReachingIsWritten (Some emptying) tick (Linked before) (Linked after) = LinkIsWritten emptying tick before after
ReachingIsWritten None tick (Lost before) (Lost after) = after ≡ before
ReachingIsWritten emptying tick before after = ⊥

-- what was owed by a forward is written, as far as it is taken
pub record ForwardIsWritten {S : Type 0} (emptying : Option Emptying) (tick : ℕ) (before after : Forward S) : Type 0 where
  pub rest : after ≡ record before { reaching = after.reaching }
  pub reaching : ReachingIsWritten emptying tick before.reaching after.reaching

-- something is heard at a link to the origin
pub record LinkIsHeard {S : Type 0} (result : Result Heard AllocError) (tick : ℕ) (before after : OriginLink S) : Type 0 where
  pub rest : after ≡ record before { flow = after.flow; progress = progress_behind result tick before.progress }
  pub owed : is_owed after.flow ≡ true → is_owed before.flow ≡ true
  pub writable : after.flow.writable ≡ before.flow.writable

-- where it isn't heard again, and hasn't ended nor failed, nothing is to be heard at it
abbrev pub QuietLink : {S : Type 0} → Result Heard AllocError → OriginLink S → Type 0
QuietLink (Ok (heard.Octets octets)) link = link.flow.failed ≡ false
QuietLink (Ok heard.Nothing) link = brings_news (Linked link) ≡ false
QuietLink result link = Unit {0}

-- something is heard of a forward that doesn't go by it: where it isn't heard again, nothing is to be heard
pub record ForwardIsHeard {S : Type 0} (result : Result Heard AllocError) (tick : ℕ) (before after : Forward S) : Type 0 where
  pub rest : after ≡ record before { reaching = after.reaching; ended = ends_by result before.ended }
  pub quiet : goes_on result (is_linked_and after.reaching (λ link. link.flow.readable)) ≡ false → is_forward_heard after ≡ false
  pub reaching : LeavesReaching (LinkIsHeard result tick) before.reaching after.reaching

-- the same, but of one that has failed, which goes by that
abbrev pub ForwardHears : {S : Type 0} → Result Heard AllocError → (tick : ℕ) → Forward S → Forward S → Type 0
ForwardHears (Ok (heard.Lost reason)) tick before after = Unit {0}
ForwardHears result tick before after = ForwardIsHeard result tick before after

-- one that has failed is there no more
abbrev pub ForwardGoesBy : {S : Type 0} → Result Heard AllocError → (tick : ℕ) → Option (Forward S) → Option (Forward S) → Type 0
ForwardGoesBy (Ok (heard.Lost reason)) tick before after = after ≡ None
ForwardGoesBy result tick before after = Behind (ForwardIsHeard result tick) before after

-- a link begins to be made, which owes the request
pub record IsOpeningLink {S : Type 0} (begun tick : ℕ) (link : OriginLink S) : Type 0 where
  pub opening : is_some link.spare ≡ true
  pub flow : (link.flow.failed ≡ false) × (link.flow.readable ≡ false) × (link.flow.writable ≡ false)
  pub progress : link.progress ≡ record { begun = begun; last = tick }

-- it does where the request waited for one, and there is memory for it
abbrev pub ReachingIsLinked : {S : Type 0} → (linked : Bool) → (begun tick : ℕ) → Reaching S → Reaching S → Type 0
ReachingIsLinked true begun tick (Waiting request) (Linked link) = IsOpeningLink begun tick link
ReachingIsLinked true begun tick (Waiting request) after = ⊥
ReachingIsLinked linked begun tick before after = after ≡ before

-- a stream was given for a link of a forward
pub record ForwardIsLinked {S : Type 0} (linked : Bool) (tick : ℕ) (before after : Forward S) : Type 0 where
  pub queued : after.queued ≡ before.queued
  pub ended : after.ended ≡ before.ended
  pub reaching : ReachingIsLinked linked (unwrap_or before.begun tick) tick before.reaching after.reaching

-- whether a request may wait for another link: there is one that has failed before it was known to work
abbrev pub may_retry : {S : Type 0} → Reaching S → Bool
may_retry reaching = is_linked_and reaching (λ link. link.flow.failed && is_some link.spare)

-- its request waits for another link, or all is as before
pub record ForwardRetries {S : Type 0} (retries : Bool) (before after : Forward S) : Type 0 where
  pub rest : after ≡ record before { reaching = after.reaching }
  pub waits : retries ≡ true → is_waiting after.reaching ≡ true
  pub same : retries ≡ false → after ≡ before

-- it has no link any more
pub record ForwardIsLost {S : Type 0} (reason : Reason) (before after : Forward S) : Type 0 where
  pub rest : after ≡ record before { reaching = Lost reason }

-- ---- links that linger

-- a link lingers that doesn't stand among the turns, or all is as before
abbrev pub LingersBy : {S : Type 0} → Bool → Option (Lingerer S) → Option (Lingerer S) → Type 0
LingersBy true before after = IsSomeAnd after (λ lingerer. lingerer.queued ≡ false)
LingersBy false before after = after ≡ before

-- the link where it stands among the turns
abbrev pub in_turn : {S : Type 0} → Lingerer S → Lingerer S
in_turn lingerer = record lingerer { queued = true }

-- it stands among the turns no more
abbrev pub StandsNoMore : {S : Type 0} → Lingerer S → Lingerer S → Type 0
StandsNoMore before after = after.queued ≡ false

-- ---- the link that is named

-- octets are owed to a client, or a forward is opened that waits for a link
abbrev pub IsSentTo : {S : Type 0} → Receiver → Result Unit AllocError → (tick : ℕ) → Peers S → Peers S → Type 0
IsSentTo (to_client n) result tick before after = Behind (ClientIsSent tick) (get nat_cmp before.clients.links n) (get nat_cmp after.clients.links n)
IsSentTo (to_origin f) result tick before after = IsOpened result (get nat_cmp before.forwards.links f) (get nat_cmp after.forwards.links f)

-- what is owed to a client is written where it is there; else nothing is returned
abbrev pub ClientWrites : {S : Type 0} → Option Emptying → (tick : ℕ) → Option (Client S) → Option (Client S) → Type 0
ClientWrites (Some emptying) tick (Some before) (Some after) = ClientIsWritten emptying tick before after
ClientWrites None tick None None = Unit {0}
ClientWrites result tick before after = ⊥

-- what is owed at a link is written, as far as it is taken
abbrev pub WritesTo : {S : Type 0} → Receiver → Option Emptying → (tick : ℕ) → Peers S → Peers S → Type 0
WritesTo (to_client n) result tick before after = ClientWrites result tick (get nat_cmp before.clients.links n) (get nat_cmp after.clients.links n)
WritesTo (to_origin f) result tick before after = Behind (ForwardIsWritten result tick) (get nat_cmp before.forwards.links f) (get nat_cmp after.forwards.links f)

-- something is told of a link
abbrev pub LearnsAt : {S : Type 0} → Receiver → Readiness → (tick : ℕ) → Peers S → Peers S → Type 0
LearnsAt (to_client n) readiness tick before after = Behind (ClientLearns readiness tick) (get nat_cmp before.clients.links n) (get nat_cmp after.clients.links n)
LearnsAt (to_origin f) readiness tick before after = Behind (ForwardLearns readiness) (get nat_cmp before.forwards.links f) (get nat_cmp after.forwards.links f)

-- whether octets wait to be written to that link, and may be taken now
abbrev pub may_be_written_to : {S : Type 0} → Receiver → Peers S → Bool
may_be_written_to (to_client n) peers = is_there_and (get nat_cmp peers.clients.links n) (λ client. may_be_written client.flow)
may_be_written_to (to_origin f) peers = is_there_and (get nat_cmp peers.forwards.links f) (λ forward. may_be_written_on forward.reaching)

-- whether the request of that forward may wait for another link
abbrev pub can_retry : {S : Type 0} → ℕ → Peers S → Bool
can_retry f peers = is_there_and (get nat_cmp peers.forwards.links f) (λ forward. may_retry forward.reaching)

-- whether something is to be heard at that link
abbrev pub is_heard_at : {S : Type 0} → Receiver → Peers S → Bool
is_heard_at (to_client n) peers = is_there_and (get nat_cmp peers.clients.links n) is_client_heard
is_heard_at (to_origin f) peers = is_there_and (get nat_cmp peers.forwards.links f) is_forward_heard

-- whether a client's connection is closed, its link works, and all that was owed to it was written
abbrev pub is_closing : {S : Type 0} → Client S → Bool
is_closing client = client.closed && (not client.flow.failed && not (is_owed client.flow))

-- the same of the client of that number
abbrev pub is_closing_at : {S : Type 0} → ℕ → Peers S → Bool
is_closing_at n peers = is_there_and (get nat_cmp peers.clients.links n) is_closing

-- a forward comes behind all others that were opened, and nothing else of the places has changed; where memory is refused, it isn't opened, though it may stand there
pub record OpensForward {S : Type 0} (f : ℕ) (result : Result Unit AllocError) (before after : Peers S) : Type 0 where
  pub places : ChangesOpened before.places after.places
  pub opened : (opened_in after.places ≡ opened_in before.places ++ f ∷ []) ⊎ (IsErr result × (opened_in after.places ≡ opened_in before.places))

-- the same where octets are sent to a receiver
abbrev pub OpensAt : {S : Type 0} → Receiver → Result Unit AllocError → Peers S → Peers S → Type 0
OpensAt (to_client n) result before after = Unit {0}
OpensAt (to_origin f) result before after = OpensForward f result before after
