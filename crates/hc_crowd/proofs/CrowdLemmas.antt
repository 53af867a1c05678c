-- What a crowd tells goes on.
use Rattle.std.proofs.Common.{◌≡◌, ℕ, ◌≤◌, List, [], ◌∷◌, Result, Ok, Err, arith, subst, sym}
use Rattle.std.specs.declared.alloc.AllocError.{AllocError}
use Rattle.hc_service.specs.declared.event.Happening.{Happening}
use Rattle.hc_order.specs.declared.occurrence.Occurrence.{Occurrence}
use Rattle.hc_order.specs.declared.occurrence.Reason.{Reason}
use Rattle.hc_order.specs.Log.{Move}
use Rattle.hc_order.specs.Log.Move.{Before, Closed, Heard, Sent}
use Rattle.hc_order.specs.declared.receiver.Receiver.{Receiver}
use Rattle.hc_links.specs.Telling.{occurs}
use Rattle.hc_links.specs.Telling.{TellsSent}
use Rattle.hc_crowd.specs.Crowds.{AreUpTo}

-- moments up to one are up to a later one
pub up_to : (m n : ℕ) (log : List Move) → m ≤ n → AreUpTo m log → AreUpTo n log
up_to m n [] less all = tt
up_to m n (Before beginning ∷ log) less all = up_to m n log less all
up_to m n (Heard occurrence ∷ log) less all = (omega (arith, less, all.0), all.1)
up_to m n (Sent to octets ∷ log) less all = up_to m n log less all
up_to m n (Closed link ∷ log) less all = up_to m n log less all

-- what is heard now comes at the latest moment
pub told_now : (latest : ℕ) (occurrence : Occurrence) (log : List Move) → occurrence.event.moment ≡ latest → AreUpTo latest log → AreUpTo latest (Heard occurrence ∷ log)
told_now latest occurrence log is all = (omega (arith, is), subst (λ (n : ℕ). AreUpTo n log) (sym is) all)

-- what was sent was sent by the latest moment
pub sent_in_time : {T : Type 0} (P : List Move → Type 0) (latest : ℕ) (result : Result T AllocError) (to : Receiver) (octets : List ℕ) (log : List Move) → TellsSent P result to octets log → AreUpTo latest log
    → TellsSent (λ (l : List Move). P l × AreUpTo latest l) result to octets log
sent_in_time P latest (Ok done) to octets log told all = (told, all)
sent_in_time P latest (Err refused) to octets log told all = (told, all)

-- what holds of what happens, whatever the moment, holds of it now
pub heard_now : (P : List Move → Type 0) (occurrence : Occurrence) (of : Happening) (reason : Reason) (log : List Move) → occurrence.event.of ≡ of → occurrence.reason ≡ reason
    → ((moment : ℕ) → P (Heard (occurs moment of reason) ∷ log)) → P (Heard occurrence ∷ log)
heard_now P occurrence of reason log is why at_any =
    subst (λ (o : Happening). P (Heard (occurs occurrence.event.moment o occurrence.reason) ∷ log)) (sym is)
    (subst (λ (r : Reason). P (Heard (occurs occurrence.event.moment of r) ∷ log)) (sym why) (at_any occurrence.event.moment))
