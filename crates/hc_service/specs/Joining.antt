-- Requests that wait for the forward of another one, in place of forwards of their own (RFC 9111 section 4, RFC 9211 section 2.6).
use Rattle.std.specs.Prelude.{◌≡◌, ℕ, ◌<◌, ◌≤◌, ◌==◌, Bool, true, false, ◌&&◌, not, List, [], ◌∷◌, length, map, filter, Option, Some, None, codes, if◌then◌else◌}
use Rattle.std.specs.FinMap.{get, entries}
use Rattle.std.specs.List.{list_any}
use Rattle.std.specs.Option.{IsSome}
use Rattle.hc_fields.specs.Values.{has_name}
use Rattle.hc_fresh.specs.Lifetimes.{says}
use Rattle.hc_head.specs.declared.head.RequestHead.{RequestHead}
use Rattle.hc_head.specs.declared.head.Target.{Target}
use Rattle.hc_head.specs.Methods.{is_get}
use Rattle.hc_head.specs.Targets.{same_target}
use Rattle.hc_update.specs.declared.stored.Stored.{Stored}
use Rattle.hc_service.specs.declared.cases.Cause.{Cause}
use Rattle.hc_service.specs.declared.cases.Cause.TheVariants as cause
use Rattle.hc_service.specs.declared.open.ForwardKind.{ForwardKind}
use Rattle.hc_service.specs.declared.open.ForwardKind.TheVariants.{Joinable, Plain}
use Rattle.hc_service.specs.declared.open.OpenExchange.{OpenExchange}
use Rattle.hc_service.specs.declared.open.Purpose.{Purpose}
use Rattle.hc_service.specs.declared.open.Purpose.TheVariants as purpose
use Rattle.hc_service.specs.Serving.{is_fresh}
use Rattle.hc_service.specs.State.{State, Table, Awaited, OpenNow, exchange_for}

-- ---- who may wait, and for what

-- the fields by which a request says more than what it asks for: who asks, what a cache may do, and what the client has already
abbrev pub own_names : List (List ℕ)
own_names = codes "authorization" ∷ codes "cache-control" ∷ codes "if-none-match" ∷ codes "if-modified-since" ∷ []

-- a GET that has none of them: what answers one such request may answer another
abbrev pub is_joinable : RequestHead → Bool
is_joinable asked = is_get asked.method && not (list_any (λ name. has_name name asked.fields) own_names)

-- nothing was stored of the target when the request came
abbrev pub is_of_miss : Cause → Bool
is_of_miss cause.UriMiss = true
is_of_miss why = false

-- how a request goes to the origin as it came: others may wait for what comes of it where nothing was stored of its target, and what answers it may answer them
abbrev pub plain_kind : Cause → RequestHead → ForwardKind
plain_kind why asked = if is_of_miss why && is_joinable asked then Joinable else Plain

-- whether others may wait for a forward that went so
abbrev pub is_joinable_kind : ForwardKind → Bool
is_joinable_kind Joinable = true
is_joinable_kind kind = false

-- whether they may wait for a forward of that purpose
abbrev pub may_be_joined : Purpose → Bool
may_be_joined purpose.Background = false
may_be_joined (purpose.Reply e why kind) = is_joinable_kind kind

-- ---- who waits

abbrev pub waits_for : ℕ → Option ℕ → Bool
waits_for f None = false
waits_for f (Some g) = g == f

-- the exchanges that wait for a forward, by rising number
abbrev pub waiting_for : ℕ → Table OpenExchange → List ℕ
waiting_for f exchanges = map (λ e. e.0) (filter (λ e. waits_for f e.1.waits_for) (entries exchanges))

-- the most that wait for one
abbrev pub most_waiting : ℕ
most_waiting = 64

-- each that waits, waits for a forward that is open
abbrev pub WaitForOpen : State → Type 0
WaitForOpen s = (e f : ℕ) (x : OpenExchange) → get s.exchanges e ≡ Some x → x.waits_for ≡ Some f → IsSome (get s.forwards f)

-- a forward is open for the exchange of that number
pub record HasOwnForward (forwards : Table Awaited) (e : ℕ) : Type 0 where
  pub number : ℕ
  pub awaited : Awaited
  pub is_open : get forwards number ≡ Some awaited
  pub is_for : exchange_for awaited.forward.purpose ≡ Some e

-- the forward at whose end the exchange is answered or goes on is open: the one that it waits for, or else its own
abbrev pub HasForward : Table Awaited → ℕ → Option ℕ → Type 0
HasForward forwards e (Some f) = IsSome (get forwards f)
HasForward forwards e None = HasOwnForward forwards e

-- each open exchange has one: none is left that nothing could answer
abbrev pub AllHaveForwards : State → Type 0
AllHaveForwards s = (e : ℕ) (x : OpenExchange) → get s.exchanges e ≡ Some x → HasForward s.forwards e x.waits_for

-- the request waits no more: it is answered, or has a forward of its own
abbrev pub WaitsNoMore : ℕ → State → Type 0
WaitsNoMore e s = (x : OpenExchange) → get s.exchanges e ≡ Some x → (x.waits_for ≡ None) × HasOwnForward s.forwards e

-- while the forward that it waited for is open it waits on, as it was; behind its end it waits no more
abbrev pub WaitsUntilEnd : Option Awaited → ℕ → OpenExchange → State → Type 0
WaitsUntilEnd (Some awaited) e x s = get s.exchanges e ≡ Some x
WaitsUntilEnd None e x s = WaitsNoMore e s

-- each that waited in the one state has done so in a later one
abbrev pub AllWaitUntilEnd : State → State → Type 0
AllWaitUntilEnd s other =
    (e f : ℕ) (x : OpenExchange) → get s.exchanges e ≡ Some x → x.waits_for ≡ Some f → WaitsUntilEnd (get other.forwards f) e x other

-- nobody is left waiting from the one state to a later one
pub record LeavesNobody (s other : State) : Type 0 where
  -- each exchange that is open then can be answered
  pub have_forwards : AllHaveForwards other
  -- each request that waited for a forward waits on or, behind that one's end, waits no more
  pub wait_until_end : AllWaitUntilEnd s other

-- for no forward more wait than may
abbrev pub FewWait : State → Type 0
FewWait s = (f : ℕ) → length (waiting_for f s.exchanges) ≤ most_waiting

-- a request for the target may wait for the forward of that number
pub record MayJoin (target : Target) (underway : OpenNow) (f : ℕ) : Type 0 where
  pub awaited : Awaited
  pub is_open : get underway.forwards f ≡ Some awaited
  pub same : same_target awaited.forward.target target ≡ true
  pub may_be : may_be_joined awaited.forward.purpose ≡ true
  pub has_place : length (waiting_for f underway.exchanges) < most_waiting

-- the least of those forwards, if there is one
abbrev pub IsLeast : Target → OpenNow → Option ℕ → Type 0
IsLeast target underway None = (f : ℕ) → ¬ (MayJoin target underway f)
IsLeast target underway (Some f) = MayJoin target underway f × ((g : ℕ) → MayJoin target underway g → f ≤ g)

-- ---- what is served to those that waited

-- a stored response that is fresh, and that may be used without validation
abbrev pub may_be_shared : Stored → ℕ → Bool
may_be_shared stored moment = is_fresh stored moment && not (says (codes "no-cache") stored.fields)

-- the stored response that is chosen now, where that is such a one
abbrev pub shared : ℕ → Option Stored → Option Stored
shared moment None = None
shared moment (Some stored) = if may_be_shared stored moment then Some stored else None
