-- A crowd is settled where all that was owed was delivered.
use Rattle.std.proofs.Common.{◌≡◌, ℕ, false, [], None, Result, Ok, Err, IfOk, OnOk, sym, ap, subst, ◌∙◌}
use Rattle.std.specs.declared.alloc.AllocError.{AllocError}
use Rattle.hc_agenda.specs.declared.agenda.Agenda.{Agenda}
use Rattle.hc_agenda.specs.declared.places.Places.{Places}
use Rattle.hc_agenda.specs.Agendas.{owed_in}
use Rattle.hc_agenda.specs.Places.{IsNext, opened_in}
use Rattle.hc_peers.specs.declared.peers.Peers.{Peers}
use Rattle.hc_attended.specs.declared.times.Times.{Times}
use Rattle.hc_attended.specs.Attended.{IsAttended}
use Rattle.hc_attended.specs.Settled.{IsSettled}

pub settled_by : {S : Type 0} {T : Type 0} (result : Result T AllocError) (times : Times) (tick : ℕ) (before after : Peers S) (agenda : Agenda) → (agenda.refused ≡ false → IsAttended times tick after agenda)
    → IfOk result (λ _. agenda.refused ≡ false) → owed_in agenda ≡ [] → after.places ≡ before.places → opened_in before.places ≡ [] → IsNext before.places None → OnOk result (IsSettled times tick after agenda)
settled_by (Ok done) times tick before after agenda attended unrefused written same sorted placed = record {
  attended = attended unrefused;
  noted = unrefused;
  written = written;
  sorted = ap opened_in same ∙ sorted;
  placed = subst (λ (p : Places). IsNext p None) (sym same) placed;
}
settled_by (Err refused) times tick before after agenda attended unrefused written same sorted placed = tt
