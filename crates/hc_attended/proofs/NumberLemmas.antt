-- The number that a guest is given says nothing of what is noted.
use Rattle.std.proofs.Common.{◌≡◌, ℕ, Some, sym, subst}
use Rattle.std.specs.BTreeMap.{get}
use Rattle.std.specs.Ordering.{nat_cmp}
use Rattle.hc_agenda.specs.declared.agenda.Agenda.{Agenda}
use Rattle.hc_peers.specs.declared.guests.Guest.{Guest}
use Rattle.hc_peers.specs.declared.guests.Guests.{Guests}
use Rattle.hc_peers.specs.declared.peers.Peers.{Peers}
use Rattle.hc_peers.specs.declared.table.Table.{Table}
use Rattle.hc_attended.specs.declared.times.Times.{Times}
use Rattle.hc_attended.specs.Attended.{IsAttended}

module _ {S : Type 0} where
  numbered : (times : Times) (tick : ℕ) (peers : Peers S) (agenda : Agenda) (guests : Guests S) → guests.table ≡ peers.guests.table
      → IsAttended times tick peers agenda → IsAttended times tick (record peers { guests = guests }) agenda
  numbered times tick peers agenda guests same all = record {
    clients = all.clients;
    forwards = all.forwards;
    lingering = all.lingering;
    apart = all.apart;
    guests = λ n guest there. all.guests n guest (subst (λ (t : Table (Guest S)). get nat_cmp t.links n ≡ Some guest) same there);
    turned_away = all.turned_away;
  }

  pub attends_numbered : (times : Times) (tick : ℕ) (peers after : Peers S) (agenda : Agenda) → after.guests.table ≡ peers.guests.table → after ≡ record peers { guests = after.guests }
      → IsAttended times tick peers agenda → IsAttended times tick after agenda
  attends_numbered times tick peers after agenda same only all =
      subst (λ (p : Peers S). IsAttended times tick p agenda) (sym only) (numbered times tick peers agenda after.guests same all)
