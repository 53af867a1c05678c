use Rattle.std.proofs.Common.{◌∙◌, sym, subst}
use Rattle.hc_peers.proofs.ShownLemmas.{peers_show}
use Rattle.hc_peers.specs.Peers.{ArePeers}
use Rattle.hc_peers.specs.declared.peers.Peers.{Peers}
use Rattle.hc_crowd.specs.Crowds.{bounds_of}
use Rattle.hc_crowd.proofs.DeliveringLemmas.{settled_by}
use Rattle.hc_crowd.proofs.crowd.CrowdBatches.deliver.Goals as goal

pub returns-clause-shown : goal.returns-clause-shown
returns-clause-shown g c = λ log t.
    peers_show g.W.Stream.Stream.has_given g.W.Stream.Stream.has_got _ c.write_owed.new.self.links.peers log
    (c.write_owed.ensures.tells _ log (c.give_places.ensures.kept.tells _ log (c.sort_opened.ensures.kept.tells _ log (subst (λ (p : Peers g.row.W-Stream.Denot). ArePeers g.W.Stream.Stream.has_given g.W.Stream.Stream.has_got (bounds_of c.args.self.now.limits) p log) (sym c.look_at_clock.ensures.peers) t.0))))

pub returns-clause-tells : goal.returns-clause-tells
returns-clause-tells g c = λ log t. (
  c.write_owed.ensures.tells _ log (c.give_places.ensures.kept.tells _ log (c.sort_opened.ensures.kept.tells _ log (subst (λ (p : Peers g.row.W-Stream.Denot). ArePeers g.W.Stream.Stream.has_given g.W.Stream.Stream.has_got (bounds_of c.args.self.now.limits) p log) (sym c.look_at_clock.ensures.peers) t.0))),
  t.1,
)

pub returns-clause-settled : goal.returns-clause-settled
returns-clause-settled g c =
    let links = c.write_owed.new.self.links in
    settled_by c.refusal.result links.times links.time.tick c.give_places.new.self.links.peers links.peers links.agenda links.noted c.refusal.ensures c.write_owed.ensures.written c.write_owed.ensures.places
    (c.give_places.ensures.opened ∙ c.sort_opened.ensures.sorted) c.give_places.ensures.placed
