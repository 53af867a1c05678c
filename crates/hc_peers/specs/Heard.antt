-- What is heard of a client or of a forward, as it is told.
use Rattle.std.specs.Prelude.{◌≡◌, ℕ, Bool, List, Option, Some, None, Result, Ok, Err}
use Rattle.std.specs.declared.alloc.AllocError.{AllocError}
use Rattle.hc_links.specs.declared.happened.Happened.{Happened}
use Rattle.hc_links.specs.Telling.{HasWaited}
use Rattle.hc_service.specs.declared.event.Happening.TheVariants.{ClientBytes, ClientEnd, OriginBytes, OriginEnd, OriginFailed}
use Rattle.hc_flow.specs.declared.heard.Heard.{Heard}
use Rattle.hc_flow.specs.declared.heard.Heard.TheVariants.{Octets, End, Lost, Nothing}
use Rattle.hc_order.specs.declared.occurrence.Reason.TheVariants.{Peer}
use Rattle.hc_order.specs.declared.receiver.Receiver.{Receiver}
use Rattle.hc_order.specs.declared.receiver.Receiver.TheVariants.{Client as to_client, Origin as to_origin}
use Rattle.hc_order.specs.Log.{Move}
use Rattle.hc_order.specs.Mirrors.{MayHappen}

-- what is heard of a client, as something that happens: its link is never lost, its end is told
abbrev pub told_of_client : ℕ → Heard → Option Happened
told_of_client n (Octets octets) = Some (record { of = ClientBytes n octets; reason = Peer })
told_of_client n (End why) = Some (record { of = ClientEnd n; reason = why })
told_of_client n (Lost why) = None
told_of_client n Nothing = None

-- the same of a forward
abbrev pub told_of_forward : ℕ → Heard → Option Happened
told_of_forward f (Octets octets) = Some (record { of = OriginBytes f octets; reason = Peer })
told_of_forward f (End why) = Some (record { of = OriginEnd f; reason = why })
told_of_forward f (Lost why) = Some (record { of = OriginFailed f; reason = why })
told_of_forward f Nothing = None

-- the same of the link that is named; where memory was refused, nothing is told
abbrev pub told : Receiver → Result Heard AllocError → Result (Option Happened) AllocError
told (to_client n) (Ok heard) = Ok (told_of_client n heard)
told (to_origin f) (Ok heard) = Ok (told_of_forward f heard)
told link (Err refused) = Err refused

-- what is heard may happen by the log, where so many connections are open at once at most
abbrev pub MayBeHeard : ℕ → Result (Option Happened) AllocError → List Move → Type 0
MayBeHeard most (Ok (Some happened)) log = MayHappen most happened.of log
MayBeHeard most (Ok None) log = Unit {0}
MayBeHeard most (Err refused) log = Unit {0}

-- what is heard has waited for its turn, where awaited has what may be answered of each connection
abbrev pub HeardInTurn : (ℕ → Bool → Type 0) → Result (Option Happened) AllocError → Type 0
HeardInTurn awaited (Ok (Some happened)) = HasWaited awaited happened.of happened.reason
HeardInTurn awaited (Ok None) = Unit {0}
HeardInTurn awaited (Err refused) = Unit {0}

-- the answer about one connection
abbrev pub IsAnswerOf : ℕ → Bool → ℕ → Bool → Type 0
IsAnswerOf c awaited d answer = (d ≡ c) × (answer ≡ awaited)

-- no answer at all: so it is with what never waits
abbrev pub NoAnswer : ℕ → Bool → Type 0
NoAnswer c answer = ⊥
