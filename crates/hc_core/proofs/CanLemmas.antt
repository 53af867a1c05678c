-- What a cache that keeps what some state has can do.
use Rattle.std.proofs.Common.{◌≡◌, ◌<◌, ℕ, Bool, List, Option, Some, sym, subst, inl}
use Rattle.std.specs.BTreeMap.{get as kept_at}
use Rattle.std.specs.Ordering.{nat_cmp}
use Rattle.hc_fields.specs.Numbers.{end_of_moments}
use Rattle.hc_framing.specs.declared.kind.Kind.TheVariants.{Request, Response}
use Rattle.hc_head.specs.declared.head.TheConstants.Room.{RECEIVED}
use Rattle.hc_incoming.specs.declared.requests.RequestReader.{RequestReader}
use Rattle.hc_incoming.specs.declared.responses.ResponseReader.{ResponseReader}
use Rattle.hc_incoming.specs.RequestReading as requests
use Rattle.hc_incoming.specs.ResponseReading as responses
use Rattle.hc_service.specs.declared.action.Action.{Action}
use Rattle.hc_service.specs.declared.numbers.Numbers.{Numbers}
use Rattle.hc_service.specs.declared.settings.CoreSettings.{CoreSettings}
use Rattle.hc_service.specs.Serves.{Turn}
use Rattle.hc_service.specs.State.{State}
use Rattle.hc_core.specs.declared.desk.Desk.{Desk}
use Rattle.hc_core.specs.declared.receiving.ForwardStage.{ForwardStage}
use Rattle.hc_open.specs.declared.links.Client.{Client}
use Rattle.hc_open.specs.declared.links.Link.{Link}
use Rattle.hc_open.specs.Links.{IsClient, IsLink}
use Rattle.hc_core.specs.Standing.{CanServe, GivesEnding, GivesReading, GivesReceiving, GivesTurn, from_state, at_desk}
use Rattle.hc_open.proofs.TableLemmas.{found}

-- a reader that agrees with some octets can read on
pub request_can_read : (r : RequestReader) (octets : List ℕ) → requests.WasGiven r octets → requests.CanRead r
request_can_read r octets agrees = inl (record { kind = Request; room = RECEIVED; octets = agrees.read; agrees = agrees.reads })

pub response_can_read : (to_head : Bool) (r : ResponseReader) (octets : List ℕ) → responses.WasGiven to_head r octets → responses.CanRead r
response_can_read to_head r octets agrees = inl (record { kind = Response to_head; room = RECEIVED; octets = agrees.rest; agrees = agrees.reads })

module _ (S H : Type 0) (d : Desk S H) where
  -- its moment lies before the year 10000
  pub is_in_time : CanServe {S = S} {H = H} d → d.numbers.moment < end_of_moments
  is_in_time can = subst (λ (n : Numbers). n.moment < end_of_moments) (sym can.stands.numbers) can.stands.in_time

  -- it can read what comes
  pub can_read_client : (c : ℕ) (client : Client) → CanServe {S = S} {H = H} d → Some client ≡ kept_at nat_cmp d.clients c → requests.CanRead client.reader
  can_read_client c client can is =
      let k = found IsClient _ _ client (can.stands.clients.at c) (sym is) in request_can_read client.reader k.0.unread k.2.reads

  pub can_read_link : (f : ℕ) (link : Link) → CanServe {S = S} {H = H} d → Some link ≡ kept_at nat_cmp d.links.by_number f → responses.CanRead link.reader
  can_read_link f link can is =
      let a = found IsLink _ _ link (can.stands.links.by_number.at f) (sym is) in response_can_read _ link.reader a.0.received a.2.reads

  -- behind turns
  pub can_behind_turn : (settings : CoreSettings) (turn : Turn) (s : State) (a z : List Action) → GivesTurn {S = S} {H = H} (from_state settings s a) turn (at_desk z d) → CanServe {S = S} {H = H} d
  can_behind_turn settings turn s a z gives = record { settings = settings; state = gives.state; stands = gives.stands }

  pub can_behind_reading : (settings : CoreSettings) (c : ℕ) (more : Bool) (s : State) (a z : List Action) → GivesReading {S = S} {H = H} (from_state settings s a) c more (at_desk z d) → CanServe {S = S} {H = H} d
  can_behind_reading settings c more s a z gives = record { settings = settings; state = gives.state; stands = gives.stands }

  pub can_behind_ending : (settings : CoreSettings) (turn : Turn) (f : ℕ) (client : Option ℕ) (s : State) (a z : List Action) → GivesEnding {S = S} {H = H} (from_state settings s a) turn f client (at_desk z d)
      → CanServe {S = S} {H = H} d
  can_behind_ending settings turn f client s a z gives = record { settings = settings; state = gives.state; stands = gives.stands }

  pub can_behind_receiving : (settings : CoreSettings) (f : ℕ) (octets : List ℕ) (progress : ForwardStage) (s : State) (a z : List Action) → GivesReceiving {S = S} {H = H} (from_state settings s a) f octets progress (at_desk z d)
      → CanServe {S = S} {H = H} d
  can_behind_receiving settings f octets progress s a z gives = record { settings = settings; state = gives.state; stands = gives.stands }
