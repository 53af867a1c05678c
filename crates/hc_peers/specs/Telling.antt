-- What is told of clients who connect. The newest move comes first.
use Rattle.std.specs.Prelude.{ℕ, List, ◌∷◌, Result, Ok, Err}
use Rattle.std.specs.declared.alloc.AllocError.{AllocError}
use Rattle.hc_links.specs.Telling.{occurs}
use Rattle.hc_service.specs.declared.event.Happening.TheVariants.{ClientOpened}
use Rattle.hc_order.specs.declared.occurrence.Reason.{Reason}
use Rattle.hc_order.specs.Log.{Move}
use Rattle.hc_order.specs.Log.Move.{Heard as Told}

-- a client opened a connection, at any moment and for any reason: who tells it chooses them; where memory was refused, nothing is told
abbrev pub KeepsOpened : {T : Type 0} → (List Move → Type 0) → ℕ → Result T AllocError → List Move → Type 0
KeepsOpened keeps c (Ok done) log = (moment : ℕ) (reason : Reason) → keeps (Told (occurs moment (ClientOpened c) reason) ∷ log)
KeepsOpened keeps c (Err refused) log = keeps log
