-- What the laws of a cache speak of.
use Rattle.std.specs.Prelude.{◌≡◌, ℕ, ◌+◌, ◌≤◌, ◌<◌, Bool, true, false, List, [], ◌∷◌, length, Option, Some, None}
use Rattle.std.specs.List.{IsDistinct}
use Rattle.std.specs.Map.{keys_of}
use Rattle.hc_head.specs.declared.head.RequestHead.{RequestHead}
use Rattle.hc_head.specs.declared.head.ResponseHead.{ResponseHead}
use Rattle.hc_head.specs.declared.head.Target.{Target}
use Rattle.hc_head.specs.declared.head.TheConstants.Room.{RECORDED}
use Rattle.hc_rules.specs.Passing.{AreKeptLines}
use Rattle.hc_head.specs.Plain.{IsPlainResponse}
use Rattle.hc_head.specs.Targets.{same_target}
use Rattle.hc_head.specs.Writable.{has_framing, longest_body}
use Rattle.hc_framing.specs.declared.message.Message.{Message}
use Rattle.hc_framing.specs.Framing.{ends_with_head}
use Rattle.hc_framing.specs.Written.{IsReadableRequest}
use Rattle.hc_rules.specs.Laws.{IsForwardable}
use Rattle.hc_transcript.specs.declared.record.Record.{Record}
use Rattle.hc_transcript.specs.Items.{Item, OriginResponse, Forward}
use Rattle.hc_transcript.specs.Limits.{greatest_number}
use Rattle.hc_store.specs.Entries.{AllHeld, Holdings, sets_cookie}
use Rattle.hc_service.specs.declared.open.OpenForward.{OpenForward}
use Rattle.hc_service.specs.declared.event.Happening.{Happening}
use Rattle.hc_service.specs.Agreement.{Agrees, HasSource, History, IsConsistent}
use Rattle.hc_service.specs.declared.action.Action.{Action}
use Rattle.hc_service.specs.declared.action.Action.TheVariants as action
use Rattle.hc_service.specs.Runs.{GoesOn, GoesOnBy, Records, client_octets_with, origin_octets_with}
use Rattle.hc_service.specs.Serves.{Turn}
use Rattle.hc_service.specs.State.{State}

-- whether an item is a response of the origin
abbrev pub is_response : Item → Bool
is_response (OriginResponse number moment response) = true
is_response item = false

-- a forward as the records have it
abbrev pub recorded_forward : OpenForward → Forward
recorded_forward forward = record { moment = forward.moment; request = forward.request; target = forward.target }

-- all that a store holds are responses of the records, each under one key and behind the position that is told of its target
pub record HasSources (since : Target → ℕ) (items : List Item) (store : Holdings) : Type 0 where
  pub keys : IsDistinct same_target (keys_of store.entries)
  pub sources : AllHeld (HasSource since items) store.entries

-- the store keeps no responses that set a cookie, and holds none
pub record HoldsNoCookie (store : Holdings) : Type 0 where
  pub keeps_none : store.keeps_cookies ≡ false
  pub holds_none : AllHeld (λ target stored. sets_cookie stored ≡ false) store.entries

-- an answer of the origin as it was received: its lines are few and plain and frame no body, its body is within the limit, and none where it ends with its head
pub record IsReceivedAnswer (to_head : Bool) (response : Message ResponseHead) : Type 0 where
  pub plain : IsPlainResponse response.head
  pub lines : AreKeptLines response.head.fields
  pub no_framing : has_framing response.head.fields ≡ false
  pub short : length response.body ≤ longest_body
  pub bare : ends_with_head to_head response.head.status ≡ true → response.body ≡ []
  pub is_final : 200 ≤ response.head.status

-- a status that a mark can tell, if it tells one
abbrev pub IsToldStatus : Option ℕ → Type 0
IsToldStatus None = Unit {0}
IsToldStatus (Some status) = status < 1000

-- a request as it was received, of that target: it can be recorded, and passed on
pub record IsReceivedAsk (request : Message RequestHead) (target : Target) : Type 0 where
  pub forwardable : IsForwardable request.head target
  pub readable : IsReadableRequest request RECORDED

-- a history with a record more, and what it means
abbrev pub with_record : Record → Item → History → History
with_record r item h = record { records = r ∷ h.records; items = item ∷ h.items; client_octets = h.client_octets; origin_octets = h.origin_octets }

-- what has happened goes on by a turn, and the cache is consistent with it then
pub record KeepsOn (turn : Turn) (actions : List Action) (h : History) (s : State) : Type 0 where
  pub later : History
  pub goes_on : GoesOnBy turn actions h later
  pub consistent : IsConsistent s later

-- what came with turns, one after another
abbrev pub client_octets_all : List Turn → (ℕ → List ℕ) → ℕ → List ℕ
client_octets_all [] before = before
client_octets_all (turn ∷ turns) before = client_octets_all turns (client_octets_with turn before)

abbrev pub origin_octets_all : List Turn → (ℕ → List ℕ) → ℕ → List ℕ
origin_octets_all [] before = before
origin_octets_all (turn ∷ turns) before = origin_octets_all turns (origin_octets_with turn before)

-- what turns, one after another, make of what has happened
pub record GoesOnByAll (turns : List Turn) (actions : List Action) (old new : History) : Type 0 where
  pub records : Records actions old new
  pub client_octets : new.client_octets ≡ client_octets_all turns old.client_octets
  pub origin_octets : new.origin_octets ≡ origin_octets_all turns old.origin_octets

pub record KeepsAll (turns : List Turn) (actions : List Action) (h : History) (s : State) : Type 0 where
  pub later : History
  pub goes_on : GoesOnByAll turns actions h later
  pub consistent : IsConsistent s later

-- what has happened goes on by a step, and the cache agrees with it then
pub record KeepsAgreement (happening : Happening) (actions : List Action) (h : History) (s : State) : Type 0 where
  pub later : History
  pub goes_on : GoesOn happening actions h later
  pub agrees : Agrees s later

-- the connection closes before all else is done
abbrev pub ClosesFirst : ℕ → List Action → Type 0
ClosesFirst c (action.CloseClient d ∷ actions) = d ≡ c
ClosesFirst c actions = ⊥

-- whatever goes to a client, its connection closes behind that
abbrev pub AllCloseBehind : List Action → Type 0
AllCloseBehind [] = Unit {0}
AllCloseBehind (action.ToClient c octets ∷ actions) = ClosesFirst c actions × AllCloseBehind actions
AllCloseBehind (other ∷ actions) = AllCloseBehind actions

-- what is done closes each connection behind its reply, and so it is from then on
pub record ClosesOn (actions : List Action) (s : State) : Type 0 where
  pub behind : AllCloseBehind actions
  pub closing : s.numbers.closing ≡ true

-- a count to which so many come: as many more, as far as records can be numbered, and never more
pub record IsCountedOn (before more after : ℕ) : Type 0 where
  pub most : after ≤ before + more
  pub exact : before + more ≤ greatest_number → after ≡ before + more
