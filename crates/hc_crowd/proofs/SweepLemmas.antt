-- When all forwards are looked at says nothing of what is noted.
use Rattle.std.proofs.Common.{◌≡◌, ℕ, Option, false, refl, sym, subst}
use Rattle.hc_agenda.specs.declared.agenda.Agenda.{Agenda}
use Rattle.hc_peers.specs.declared.peers.Peers.{Peers}
use Rattle.hc_attended.proofs.OwingLemmas.{owed_attended}
use Rattle.hc_attended.specs.declared.times.Times.{Times}
use Rattle.hc_attended.specs.Attended.{IsAttended}
use Rattle.hc_attended.specs.Notes.{KeepsNotes, no_deadline, no_link}

swept : (agenda : Agenda) (sweep : Option ℕ) → KeepsNotes no_link no_link no_deadline agenda (record agenda { sweep = sweep })
swept agenda sweep = record {
  refused = λ none. none;
  turns = λ link apart stood. stood;
  owed = λ link apart noted. noted;
  due = λ timeout n apart. refl;
}

pub sweep_attended : {S : Type 0} (times : Times) (tick : ℕ) (peers : Peers S) (agenda after : Agenda) (sweep : Option ℕ) → after ≡ record agenda { sweep = sweep }
    → (agenda.refused ≡ false → IsAttended times tick peers agenda) → after.refused ≡ false → IsAttended times tick peers after
sweep_attended times tick peers agenda after sweep same was =
    subst (λ (a : Agenda). a.refused ≡ false → IsAttended times tick peers a) (sym same)
    (owed_attended times tick peers agenda (record agenda { sweep = sweep }) 0 (swept agenda sweep) was)
