-- What the links of a driver tell.
use Rattle.std.specs.Prelude.{ℕ, Bool, false, List, ◌∷◌, Option, Some, None, Result, Ok, Err}
use Rattle.std.specs.declared.alloc.AllocError.{AllocError}
use Rattle.hc_service.specs.declared.event.Happening.{Happening}
use Rattle.hc_service.specs.declared.event.Happening.TheVariants.{ClientBytes, ClientEnd}
use Rattle.hc_order.specs.declared.occurrence.Occurrence.{Occurrence}
use Rattle.hc_order.specs.declared.occurrence.Reason.{Reason}
use Rattle.hc_order.specs.declared.occurrence.Reason.TheVariants.{Peer, Stop, Displaced}
use Rattle.hc_order.specs.Log.{Move}
use Rattle.hc_links.specs.declared.happened.Happened.{Happened}
use Rattle.hc_order.specs.Mirrors.{MayHappen}
use Rattle.hc_order.specs.declared.receiver.Receiver.{Receiver}
use Rattle.hc_order.specs.Log.Move.{Heard, Sent}

-- something happened next, or nothing did
abbrev pub TellsNext : (List Move → Type 0) → Result (Option Occurrence) AllocError → List Move → Type 0
TellsNext tells (Ok (Some occurrence)) log = tells (Heard occurrence ∷ log)
TellsNext tells (Ok None) log = tells log
TellsNext tells (Err refused) log = tells log

-- what happens next may happen by the log, where so many connections are open at once at most
abbrev pub MayBeNext : ℕ → Result (Option Occurrence) AllocError → List Move → Type 0
MayBeNext most (Ok (Some occurrence)) log = MayHappen most occurrence.event.of log
MayBeNext most (Ok None) log = Unit {0}
MayBeNext most (Err refused) log = Unit {0}

-- the octets were sent; where memory was refused nothing was
abbrev pub TellsSent : {T : Type 0} → (List Move → Type 0) → Result T AllocError → Receiver → List ℕ → List Move → Type 0
TellsSent tells (Ok done) to octets log = tells (Sent to octets ∷ log)
TellsSent tells (Err refused) to octets log = tells log

-- octets of a client are told, that it sends no more, and its end for a stop or for another client's sake, where none of its requests awaits its reply; all else is told at once, also that its link failed
abbrev pub HasWaited : (ℕ → Bool → Type 0) → Happening → Reason → Type 0
HasWaited awaited (ClientBytes c octets) reason = awaited c false
HasWaited awaited (ClientEnd c) Peer = awaited c false
HasWaited awaited (ClientEnd c) Stop = awaited c false
HasWaited awaited (ClientEnd c) Displaced = awaited c false
HasWaited awaited other reason = Unit {0}

-- so it is with what happens next, where awaited has what a cache may answer of each client
abbrev pub IsInTurn : (ℕ → Bool → Type 0) → Result (Option Occurrence) AllocError → Type 0
IsInTurn awaited (Ok (Some occurrence)) = HasWaited awaited occurrence.event.of occurrence.reason
IsInTurn awaited (Ok None) = Unit {0}
IsInTurn awaited (Err refused) = Unit {0}

-- ---- what happens, whatever the moment

-- what happens at that moment, and is told for that reason
abbrev pub occurs : ℕ → Happening → Reason → Occurrence
occurs moment of reason = record { event = record { moment = moment; of = of }; reason = reason }

-- it happens, whatever the moment, behind the log
abbrev pub TellsHappening : (List Move → Type 0) → Happened → List Move → Type 0
TellsHappening tells happened log = (moment : ℕ) → tells (Heard (occurs moment happened.of happened.reason) ∷ log)

-- something happens, or nothing does
abbrev pub TellsPerhaps : (List Move → Type 0) → Option Happened → List Move → Type 0
TellsPerhaps tells (Some happened) log = TellsHappening tells happened log
TellsPerhaps tells None log = tells log

abbrev pub TellsIfOk : (List Move → Type 0) → Result (Option Happened) AllocError → List Move → Type 0
TellsIfOk tells (Ok perhaps) log = TellsPerhaps tells perhaps log
TellsIfOk tells (Err refused) log = tells log
