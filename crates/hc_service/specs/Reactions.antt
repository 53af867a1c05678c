-- What a whole request gets at once: a reply, a forward, or a forward of another request to wait for.
use Rattle.std.specs.Prelude.{◌≡◌, ℕ, Bool, true, false, ◌&&◌, not, nat_lt, List, [], Option, Some, None, codes, if◌then◌else◌}
use Rattle.std.specs.FinMap.{values}
use Rattle.std.specs.List.{list_any, count_by}
use Rattle.hc_head.specs.declared.head.RequestHead.{RequestHead}
use Rattle.hc_head.specs.declared.head.ResponseHead.{ResponseHead}
use Rattle.hc_head.specs.declared.head.Target.{Target}
use Rattle.hc_head.specs.Methods.{is_get}
use Rattle.hc_head.specs.Targets.{same_target}
use Rattle.hc_framing.specs.declared.message.Message.{Message}
use Rattle.hc_fresh.specs.Lifetimes.{says}
use Rattle.hc_rules.specs.Validators.{has_validator}
use Rattle.hc_rules.specs.Forwards.{plain_request, unconditional_request, conditional_request}
use Rattle.hc_update.specs.declared.stored.Stored.{Stored}
use Rattle.hc_store.specs.Entries.{Holdings, knows}
use Rattle.hc_service.specs.declared.cases.Cause.{Cause}
use Rattle.hc_service.specs.declared.cases.Cause.TheVariants as cause
use Rattle.hc_service.specs.declared.open.ForwardKind.{ForwardKind}
use Rattle.hc_service.specs.declared.open.ForwardKind.TheVariants.{Conditional, Plain}
use Rattle.hc_service.specs.declared.open.Purpose.{Purpose}
use Rattle.hc_service.specs.declared.open.Purpose.TheVariants as purpose
use Rattle.hc_service.specs.Cases.{Case, case_before_store, case_by_store, may_wait}
use Rattle.hc_service.specs.Cases.Case.{Hit, Forward}
use Rattle.hc_service.specs.Serving.{is_fresh, while_revalidating}
use Rattle.hc_service.specs.Replying.{Wanted, gateway_timeout, made_reply, hit_reply}
use Rattle.hc_service.specs.Choices.{Finds}
use Rattle.hc_service.specs.State.{Table, Awaited, OpenNow}
use Rattle.hc_service.specs.Joining.{plain_kind, IsLeast}

-- what a whole request gets at once
pub data Reaction : Type 0 where
  -- a reply, and behind it perhaps a request to the origin for the store alone
  Replies : (reply : Message ResponseHead) (behind : Option (Message RequestHead)) → Reaction
  -- a request to the origin, why it goes there, and how
  Sends : (request : Message RequestHead) (why : Cause) (kind : ForwardKind) → Reaction
  -- nothing of its own: it waits for the forward of that number, which is another request's
  Waits : (forward : ℕ) → Reaction

-- a request of that head without a body
abbrev pub bare : RequestHead → Message RequestHead
bare head = record { head = head; body = [] }

-- ---- case 6: a hit, and behind a stale one perhaps a validation

-- the most forwards for the store alone that are open
abbrev pub most_background : ℕ
most_background = 1024

abbrev pub is_for_store : Purpose → Bool
is_for_store purpose.Background = true
is_for_store (purpose.Reply e why kind) = false

abbrev pub is_background : Awaited → Bool
is_background awaited = is_for_store awaited.forward.purpose

-- whether one for the target may be opened: none for it is open, and there are fewer than the most
abbrev pub has_place_behind : Target → List Awaited → Bool
has_place_behind target open_now =
    nat_lt (count_by is_background open_now) most_background
    && not (list_any (λ awaited. is_background awaited && same_target awaited.forward.target target) open_now)

-- whether a stored response that is served is validated behind the reply: it is stale, within stale-while-revalidate (RFC 5861 section 3)
abbrev pub is_validated_behind : Stored → ℕ → Target → Table Awaited → Bool
is_validated_behind stored moment target forwards =
    not (is_fresh stored moment) && while_revalidating stored moment && has_place_behind target (values forwards)

-- the request that validates it: a GET without the client's own conditions
abbrev pub validation_behind : Wanted → Target → Stored → Option (Message RequestHead)
validation_behind wanted target stored = Some (bare (conditional_request wanted.name target wanted.asked stored.fields))

abbrev pub hit_reaction : Wanted → Target → Table Awaited → Stored → Reaction
hit_reaction wanted target forwards stored =
    Replies (hit_reply wanted stored)
    (if is_validated_behind stored wanted.moment target forwards then validation_behind wanted target stored else None)

-- ---- the other cases: a forward

-- the client wants no forward; it has no say where the store isn't asked for the method's sake (RFC 9111 section 5.2.1.7)
abbrev pub wants_no_forward : Cause → RequestHead → Bool
wants_no_forward cause.Method asked = false
wants_no_forward why asked = says (codes "only-if-cached") asked.fields

-- the request as it came, but for what is for its connection
abbrev pub plain_forward : Wanted → Target → Message RequestHead → Message RequestHead
plain_forward wanted target request = record { head = plain_request wanted.name target request.head; body = request.body }

-- whether the stored response that was chosen is asked after: for GET, where it has a validator
abbrev pub is_asked_after : RequestHead → Option Stored → Bool
is_asked_after asked None = false
is_asked_after asked (Some stored) = is_get asked.method && has_validator stored.fields

-- a forward that asks after it, or a plain one
abbrev pub stored_forward : Wanted → Target → Message RequestHead → Cause → Option Stored → Reaction
stored_forward wanted target request why None = Sends (plain_forward wanted target request) why (plain_kind why request.head)
stored_forward wanted target request why (Some stored) =
    if is_asked_after request.head (Some stored)
    then Sends (bare (conditional_request wanted.name target request.head stored.fields)) why Conditional
    else Sends (plain_forward wanted target request) why Plain

-- that no forward is wanted, or a forward
abbrev pub forward_reaction : Wanted → Target → Message RequestHead → Option Stored → Cause → Reaction
forward_reaction wanted target request chosen why =
    if wants_no_forward why request.head then Replies (made_reply wanted gateway_timeout) None
    else stored_forward wanted target request why chosen

-- a forward anew, for a request that was answered by a 304 which validated nothing: without the client's own conditions
abbrev pub forward_anew : List ℕ → Target → RequestHead → Message RequestHead
forward_anew name target asked = bare (unconditional_request name target asked)

-- a forward of its own, for a request that has waited for another one's: as it came, but for what is for its connection
abbrev pub forward_alone : List ℕ → Target → RequestHead → Message RequestHead
forward_alone name target asked = bare (plain_request name target asked)

-- ---- the first case that holds

-- by the case, and what the store chose
abbrev pub chosen_reaction : Wanted → Target → Message RequestHead → Table Awaited → Option Stored → Case → Reaction
chosen_reaction wanted target request forwards chosen (Hit stored) = hit_reaction wanted target forwards stored
chosen_reaction wanted target request forwards chosen (Forward why) = forward_reaction wanted target request chosen why

-- a whole request with its target, and the reply that it wants
pub record WholeRequest : Type 0 where
  pub request : Message RequestHead
  pub target : Target
  pub wanted : Wanted

-- the store is asked, and what it chooses decides the case
pub record ReactsByStore (whole : WholeRequest) (forwards : Table Awaited) (old : Holdings) (reaction : Reaction) (new : Holdings) : Type 0 where
  pub chosen : Option Stored
  pub finds : Finds whole.target whole.request.head.fields old chosen new
  pub reaction_is : reaction
      ≡ chosen_reaction whole.wanted whole.target whole.request forwards chosen
      (case_by_store whole.request.head.fields (knows whole.target old.entries) chosen whole.wanted.moment)

-- it waits for the forward of another request, if there is one for it to wait for; else the store is asked
abbrev pub ReactsJoined : Option ℕ → WholeRequest → Table Awaited → Holdings → Reaction → Holdings → Type 0
ReactsJoined (Some f) whole forwards old reaction new = (reaction ≡ Waits f) × (new ≡ old)
ReactsJoined None whole forwards old reaction new = ReactsByStore whole forwards old reaction new

-- whether it waits where it can
abbrev pub would_wait : WholeRequest → Holdings → Bool
would_wait whole old = may_wait whole.request.head (knows whole.target old.entries)

pub record ReactsUnlessJoined (whole : WholeRequest) (underway : OpenNow) (old : Holdings) (reaction : Reaction) (new : Holdings) : Type 0 where
  pub least : Option ℕ
  pub is_least : IsLeast whole.target underway least
  pub reacts : ReactsJoined (if would_wait whole old then least else None) whole underway.forwards old reaction new

-- the store is asked where no earlier case holds
abbrev pub ReactsBy : Option Cause → WholeRequest → OpenNow → Holdings → Reaction → Holdings → Type 0
ReactsBy (Some why) whole underway old reaction new =
    (reaction ≡ forward_reaction whole.wanted whole.target whole.request None why) × (new ≡ old)
ReactsBy None whole underway old reaction new = ReactsUnlessJoined whole underway old reaction new

abbrev pub Reacts : WholeRequest → OpenNow → Holdings → Reaction → Holdings → Type 0
Reacts whole underway old reaction new = ReactsBy (case_before_store whole.request) whole underway old reaction new
