-- For the reader's own functions: what is asked of an arrival.
use Rattle.std.specs.Prelude.{Bool, true, false, Option, Some, None}
use Rattle.hc_incoming.specs.declared.troubles.Trouble.{Trouble}
use Rattle.hc_incoming.specs.declared.arrival.RequestArrival.{RequestArrival}
use Rattle.hc_incoming.specs.declared.arrival.RequestArrival.TheVariants.{Request, Refused, More}

-- nothing has come yet
abbrev pub is_more : RequestArrival → Bool
is_more (Request message target) = false
is_more (Refused trouble) = false
is_more More = true

-- why it is refused
abbrev pub refusal_of : RequestArrival → Option Trouble
refusal_of (Request message target) = None
refusal_of (Refused trouble) = Some trouble
refusal_of More = None
