use Rattle.std.proofs.Common.{◌≡◌, ◌∙◌, None, subst, sym}
use Rattle.hc_agenda.specs.Places.{first_in, opened_in}
use Rattle.hc_crowd.proofs.PlacesLemmas.{none_left}
use Rattle.hc_peers.specs.declared.peers.Peers.{Peers}
use Rattle.hc_attended.proofs.KeepingLemmas.{keeps_then}
use Rattle.hc_crowd.proofs.traffic.Traffic.sort_opened.Goals as goal

pub opened-preserved : goal.opened-preserved
opened-preserved g c = keeps_then c.opened.invariant c.sort.ensures.kept

pub returns-clause-sorted : goal.returns-clause-sorted
returns-clause-sorted g c =
    none_left (opened_in c.opened.self.links.peers.places)
    (subst (λ (peers : Peers g.row.W-Stream.Denot). first_in (opened_in peers.places) ≡ None) c.peers.ensures (sym c.first_opened.ensures ∙ c.in_default.is))
