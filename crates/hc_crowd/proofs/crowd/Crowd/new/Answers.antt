use Rattle.std.proofs.Common.{[]}
use Rattle.hc_peers.proofs.ShownLemmas.{peers_show}
use Rattle.hc_crowd.proofs.crowd.Crowd.new.Goals as goal

pub returns-clause-shows : goal.returns-clause-shows
returns-clause-shows g c = peers_show g.W.Stream.Stream.has_given g.W.Stream.Stream.has_got _ c.in_ok-traffic.traffic.links.peers [] (c.in_ok-traffic.ensures.none c.args.limits.connections)

pub returns-clause-tells : goal.returns-clause-tells
returns-clause-tells g c = (c.in_ok-traffic.ensures.none c.args.limits.connections, tt)
