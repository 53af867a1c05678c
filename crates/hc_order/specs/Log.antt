-- What passes at the links of a cache. The newest move comes first.
use Rattle.std.specs.Prelude.{ℕ, List, [], ◌∷◌, Option}
use Rattle.hc_service.specs.declared.action.Action.{Action}
use Rattle.hc_service.specs.declared.action.Action.TheVariants.{ToClient, CloseClient, Forward, CloseForward, Record}
use Rattle.hc_order.specs.declared.occurrence.Occurrence.{Occurrence}
use Rattle.hc_order.specs.declared.receiver.Receiver.{Receiver}
use Rattle.hc_order.specs.declared.receiver.Receiver.TheVariants.{Client, Origin}

-- what was before all moves: which connection was opened last, if one was; none was open then, nor was a forward
pub record Beginning : Type 0 where
  pub last : Option ℕ
  -- the number of the client's connection
  pub number : ℕ
  -- the octets that were read from its link, and those that were written to it
  pub given : List ℕ
  pub got : List ℕ
  -- how often it had been read, and had failed
  pub reads : ℕ
  pub failures : ℕ

pub data Move : Type 0 where
  -- that was before all others
  Before : (beginning : Beginning) → Move
  -- this happened, and is told for its reason
  Heard : (occurrence : Occurrence) → Move
  -- these octets were sent to that link, which may have failed before, or at that
  Sent : (to : Receiver) (octets : List ℕ) → Move
  -- that link was closed
  Closed : (link : Receiver) → Move

-- what has passed once actions were carried out, in order
abbrev pub carried : List Action → List Move → List Move
carried [] log = log
carried (ToClient c octets ∷ actions) log = carried actions (Sent (Client c) octets ∷ log)
carried (Forward f octets ∷ actions) log = carried actions (Sent (Origin f) octets ∷ log)
carried (CloseClient c ∷ actions) log = carried actions (Closed (Client c) ∷ log)
carried (CloseForward f ∷ actions) log = carried actions (Closed (Origin f) ∷ log)
carried (Record given ∷ actions) log = carried actions log
