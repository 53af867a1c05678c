-- What a connection tells, once octets were sent.
use Rattle.std.proofs.Common.{◌≡◌, ℕ, ◌∷◌, Bool, List, Result, Ok, Err, refl, subst, sym}
use Rattle.std.specs.declared.alloc.AllocError.{AllocError}
use Rattle.hc_service.specs.declared.event.Happening.{Happening}
use Rattle.hc_order.specs.declared.occurrence.Occurrence.{Occurrence}
use Rattle.hc_order.specs.declared.occurrence.Reason.{Reason}
use Rattle.hc_order.specs.declared.receiver.Receiver.{Receiver}
use Rattle.hc_connection.specs.Forwards.{AreInOrder, IsNext}
use Rattle.hc_connection.specs.Moves.{AreMoments}
use Rattle.hc_links.specs.Telling.{occurs}
use Rattle.hc_order.specs.Log.{Move}
use Rattle.hc_order.specs.Log.Move.{Heard, Sent}
use Rattle.hc_connection.specs.Sides.{Opens}
use Rattle.hc_links.specs.Telling.{TellsSent}
use Rattle.hc_connection.proofs.TellLemmas.{opens_by}

pub all_sent : (tells keeps : List Move → Type 0) (may_tell : ℕ → Type 0) (opened : Bool) (c d : ℕ) (result : Result Unit AllocError) (to : Receiver) (octets : List ℕ) (log : List Move)
    → d ≡ c → Opens opened c log → AreMoments may_tell log → AreInOrder log → TellsSent tells result to octets log → TellsSent keeps result to octets log
    → TellsSent (λ log. tells log × Opens opened d log × AreMoments may_tell log × keeps log × AreInOrder log) result to octets log
all_sent tells keeps may_tell opened c d (Ok done) to octets log is opens moments in_order told kept =
    (told, opens_by opened c d log (Sent to octets ∷ log) refl refl is opens, moments, kept, in_order)
all_sent tells keeps may_tell opened c d (Err refused) to octets log is opens moments in_order told kept =
    (told, opens_by opened c d log log refl refl is opens, moments, kept, in_order)

-- ---- what happens now

pub heard_now : (P : List Move → Type 0) (occurrence : Occurrence) (of : Happening) (reason : Reason) (log : List Move) → occurrence.event.of ≡ of → occurrence.reason ≡ reason
    → ((moment : ℕ) → P (Heard (occurs moment of reason) ∷ log)) → P (Heard occurrence ∷ log)
heard_now P occurrence of reason log is why at_any =
    subst (λ (o : Happening). P (Heard (occurs occurrence.event.moment o occurrence.reason) ∷ log)) (sym is)
    (subst (λ (r : Reason). P (Heard (occurs occurrence.event.moment of r) ∷ log)) (sym why) (at_any occurrence.event.moment))

pub next_now : (occurrence : Occurrence) (of : Happening) (log : List Move) → occurrence.event.of ≡ of → IsNext of log → IsNext occurrence.event.of log
next_now occurrence of log is next = subst (λ (o : Happening). IsNext o log) (sym is) next
