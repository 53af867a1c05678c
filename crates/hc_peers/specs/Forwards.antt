-- What is kept of forwards, and what the log says passed at their links.
use Rattle.std.specs.Prelude.{◌≡◌, ℕ, ◌&&◌, ◌||◌, if◌then◌else◌, Bool, true, false, List, [], Option, Some, None, is_some, not, option_and_then}
use Rattle.std.specs.BTreeMap.{BTreeMap, get}
use Rattle.std.specs.Option.{ForSome}
use Rattle.std.specs.Ordering.{nat_cmp}
use Rattle.hc_flow.specs.Flows.{FlowGave, FlowOwes}
use Rattle.hc_flow.specs.declared.readiness.Readiness.{Readiness}
use Rattle.hc_peers.specs.Tables.{is_there_and}
use Rattle.hc_flow.specs.Hearings.{FailsOnly}
use Rattle.hc_peers.specs.Tables.{AreAt}
use Rattle.hc_order.specs.declared.occurrence.Reason.{Reason}
use Rattle.hc_order.specs.declared.receiver.Receiver.TheVariants as to
use Rattle.hc_order.specs.Log.{Move}
use Rattle.hc_order.specs.Passages.{Passage}
use Rattle.hc_flow.specs.declared.progress.ForwardProgress.{ForwardProgress}
use Rattle.hc_peers.specs.Times.{IsTimed}
use Rattle.hc_peers.specs.declared.forward.Forward.{Forward}
use Rattle.hc_peers.specs.declared.forward.Reaching.{Reaching}
use Rattle.hc_peers.specs.declared.forward.Reaching.TheVariants.{Waiting, Linked, Lost}
use Rattle.hc_peers.specs.declared.table.Table.{Table}
use Rattle.hc_peers.specs.declared.origin_link.OriginLink.{OriginLink}

-- nothing was read there, nor written
abbrev pub IsUnused : {S : Type 0} → (S → List ℕ → Type 0) → (S → List ℕ → Type 0) → OriginLink S → Type 0
IsUnused has_given has_got link = has_given link.flow.stream [] × has_got link.flow.stream []

-- what was heard of the origin is what its link gave, and what was sent was written, or waits, unless the link has failed; as long as the request is kept, the link is unused, and the request is all that was sent
pub record IsLinked {S : Type 0} (has_given has_got : S → List ℕ → Type 0) (link : OriginLink S) (sent heard : List ℕ) : Type 0 where
  pub gave : FlowGave has_given link.flow heard
  pub owes : FlowOwes has_got link.flow sent
  pub unused : ForSome link.spare (λ request. IsUnused has_given has_got link × (heard ≡ []) × (sent ≡ request))

-- the request is kept until something is told of the link without a failure
abbrev pub spare_behind : Readiness → Option (List ℕ) → Option (List ℕ)
spare_behind readiness spare = if not readiness.failed && (readiness.writable || (readiness.readable || readiness.ended)) then None else spare

-- how far the origin was reached: the request waits for a link, and nothing was heard; or there is one, or none any more
abbrev pub IsReached : {S : Type 0} → (S → List ℕ → Type 0) → (S → List ℕ → Type 0) → Reaching S → (sent heard : List ℕ) → Type 0
IsReached has_given has_got (Waiting request) sent heard = (heard ≡ []) × (sent ≡ request)
IsReached has_given has_got (Linked link) sent heard = IsLinked has_given has_got link sent heard
IsReached has_given has_got (Lost reason) sent heard = Unit {0}

-- whether there is a link, and it is so
abbrev pub is_linked_and : {S : Type 0} → Reaching S → (OriginLink S → Bool) → Bool
is_linked_and (Waiting request) test = false
is_linked_and (Linked link) test = test link
is_linked_and (Lost reason) test = false

-- the link, if there is one, or one begins to be made
abbrev pub link_of : {S : Type 0} → Reaching S → Option (OriginLink S)
link_of (Waiting request) = None
link_of (Linked link) = Some link
link_of (Lost reason) = None

-- whether there is a link, or one begins to be made
abbrev pub has_link : {S : Type 0} → Reaching S → Bool
has_link reaching = is_linked_and reaching (λ link. true)

-- whether there is a link that isn't known to work yet
abbrev pub is_opening : {S : Type 0} → Reaching S → Bool
is_opening reaching = is_linked_and reaching (λ link. is_some link.spare)

-- whether the request waits for a link
abbrev pub is_waiting : {S : Type 0} → Reaching S → Bool
is_waiting (Waiting request) = true
is_waiting (Linked link) = false
is_waiting (Lost reason) = false

-- how the forward is getting on at its link, if there is one
abbrev pub progress_at : {S : Type 0} → Reaching S → Option ForwardProgress
progress_at (Waiting request) = None
progress_at (Linked link) = Some link.progress
progress_at (Lost reason) = None

-- it is reached as far as before: a link has failed only where it or its stream had, or on that ground
abbrev pub StaysReached : {S : Type 0} → (S → Type 0) → (ground : Type 0) → Reaching S → Reaching S → Type 0
StaysReached has_failed ground (Waiting before) (Waiting after) = after ≡ before
StaysReached has_failed ground (Linked before) (Linked after) = FailsOnly has_failed ground before.flow after.flow
StaysReached has_failed ground (Lost before) (Lost after) = after ≡ before
StaysReached has_failed ground before after = ⊥

-- the same of a forward, if it is there
abbrev pub ForwardFailsOnly : {S : Type 0} → (S → Type 0) → (ground : Type 0) → Option (Forward S) → Option (Forward S) → Type 0
ForwardFailsOnly has_failed ground None None = Unit {0}
ForwardFailsOnly has_failed ground (Some before) (Some after) = StaysReached has_failed ground before.reaching after.reaching
ForwardFailsOnly has_failed ground before after = ⊥

-- there is a link, of which nothing was read, and to which nothing was written
abbrev pub HasUnusedLink : {S : Type 0} → (S → List ℕ → Type 0) → (S → List ℕ → Type 0) → Reaching S → Type 0
HasUnusedLink has_given has_got (Waiting request) = ⊥
HasUnusedLink has_given has_got (Linked link) = IsUnused has_given has_got link
HasUnusedLink has_given has_got (Lost reason) = ⊥

-- whether the link works, and the origin hasn't ended it
abbrev pub lingers : {S : Type 0} → Forward S → Bool
lingers forward = not forward.ended && is_linked_and forward.reaching (λ link. not (is_some link.spare) && not link.flow.failed)

-- what is told of a forward is what its link brought, and it is timed from when the first link was begun for it
pub record IsForward {S : Type 0} (has_given has_got : S → List ℕ → Type 0) (forward : Forward S) (passage : Passage) : Type 0 where
  pub opened : passage.is_open ≡ true
  pub ended : passage.is_ended ≡ forward.ended
  pub reached : IsReached has_given has_got forward.reaching passage.sent passage.heard
  pub timed : IsTimed forward.begun (progress_at forward.reaching)

-- one of which nothing is kept isn't open
abbrev pub IsForwardAt : {S : Type 0} → (S → List ℕ → Type 0) → (S → List ℕ → Type 0) → Option (Forward S) → Passage → Type 0
IsForwardAt has_given has_got None passage = passage.is_open ≡ false
IsForwardAt has_given has_got (Some forward) passage = IsForward has_given has_got forward passage

abbrev pub AreForwards : {S : Type 0} → (S → List ℕ → Type 0) → (S → List ℕ → Type 0) → BTreeMap ℕ (Forward S) → List Move → Type 0
AreForwards has_given has_got table log = AreAt (IsForwardAt has_given has_got) to.Origin table log

-- whether a forward is there that has a link
abbrev pub is_linked_at : {S : Type 0} → Option (Forward S) → Bool
is_linked_at kept = is_there_and kept (λ forward. has_link forward.reaching)

-- whether that forward has a link
abbrev pub is_linked : {S : Type 0} → ℕ → Table (Forward S) → Bool
is_linked f forwards = is_linked_at (get nat_cmp forwards.links f)

-- the forward where it stands among the turns, or doesn't
abbrev pub turned : {S : Type 0} → (queued : Bool) → Forward S → Forward S
turned queued forward = record forward { queued = queued }

-- whether that forward is there, and its request waits for a link
abbrev pub is_waiting_at : {S : Type 0} → ℕ → BTreeMap ℕ (Forward S) → Bool
is_waiting_at f table = is_there_and (get nat_cmp table f) (λ forward. is_waiting forward.reaching)

-- whether it has a link that isn't known to work yet
abbrev pub is_opening_at : {S : Type 0} → ℕ → BTreeMap ℕ (Forward S) → Bool
is_opening_at f table = is_there_and (get nat_cmp table f) (λ forward. is_opening forward.reaching)

-- when the first link was begun for that forward, if one was
abbrev pub begun_at : {S : Type 0} → ℕ → BTreeMap ℕ (Forward S) → Option ℕ
begun_at f table = option_and_then (λ forward. forward.begun) (get nat_cmp table f)

-- for which reason there is no link any more
abbrev pub reason_of : {S : Type 0} → Reaching S → Option Reason
reason_of (Waiting request) = None
reason_of (Linked link) = None
reason_of (Lost reason) = Some reason

-- the same of that forward
abbrev pub lost_at : {S : Type 0} → ℕ → BTreeMap ℕ (Forward S) → Option Reason
lost_at f table = option_and_then (λ forward. reason_of forward.reaching) (get nat_cmp table f)

-- no forward has a link that had none before
abbrev pub GainsNoLink : {S : Type 0} → Table (Forward S) → Table (Forward S) → Type 0
GainsNoLink before after = (f : ℕ) → is_linked f after ≡ true → is_linked f before ≡ true
