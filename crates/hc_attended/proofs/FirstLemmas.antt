-- Where no link is left, all are attended.
use Rattle.std.proofs.Common.{◌≡◌, ℕ, length, BTreeMap, Some, None, sym, ap, ◌∙◌, nat_cmp}
use Rattle.std.specs.BTreeMap.{get, is_at}
use Rattle.std.specs.Map.{lookup}
use Rattle.std.proofs.lemmas.List.{nil_from_length}
use Rattle.hc_agenda.specs.declared.agenda.Agenda.{Agenda}
use Rattle.hc_peers.specs.declared.peers.Peers.{Peers}
use Rattle.hc_peers.specs.Peers.{NoLinkIsLeft}
use Rattle.hc_attended.specs.declared.times.Times.{Times}
use Rattle.hc_attended.specs.Attended.{IsAttended}

no_value : {V : Type 0} (value : V) → None ≡ Some value → ⊥
no_value value e = cc

nobody : {V : Type 0} (table : BTreeMap ℕ V) (n : ℕ) (value : V) {P : Type 0} → length table.entries ≡ 0 → get nat_cmp table n ≡ Some value → P
nobody table n value none there = absurd (no_value value (sym (ap (lookup (is_at (nat_cmp n))) (nil_from_length table.entries none)) ∙ there))

pub none_attended : {S : Type 0} (times : Times) (tick : ℕ) (peers : Peers S) (agenda : Agenda) → NoLinkIsLeft peers → IsAttended times tick peers agenda
none_attended times tick peers agenda none = record {
  clients = λ n client there. nobody peers.clients.links n client none.clients there;
  forwards = λ f forward there. nobody peers.forwards.links f forward none.forwards there;
  lingering = λ f lingerer there. nobody peers.lingering.links f lingerer none.lingering there;
  apart = λ f lingerer there. nobody peers.lingering.links f lingerer none.lingering there;
  guests = λ n guest there. nobody peers.guests.table.links n guest none.guests there;
  turned_away = λ n stream there. nobody peers.turned_away.links n stream none.turned_away there;
}
