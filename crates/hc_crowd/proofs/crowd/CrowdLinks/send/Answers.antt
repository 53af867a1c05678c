use Rattle.std.proofs.Common.{ap, subst}
use Rattle.hc_agenda.specs.MomentsKept.{told_by}
use Rattle.hc_agenda.specs.declared.moments.Moments.{Moments}
use Rattle.hc_crowd.specs.declared.limits.Limits.{Limits}
use Rattle.hc_peers.specs.Peers.{ArePeers}
use Rattle.hc_crowd.specs.Crowds.{MayTell, bounds_of}
use Rattle.hc_crowd.proofs.CrowdLemmas.{sent_in_time}
use Rattle.hc_crowd.proofs.crowd.CrowdLinks.send.Goals as goal

pub returns-clause-sent : goal.returns-clause-sent
returns-clause-sent g c = λ log t.
    rw c.owe.ensures.rest.0
    (rw c.owe.ensures.rest.1
    (sent_in_time (ArePeers g.W.Stream.Stream.has_given g.W.Stream.Stream.has_got (bounds_of c.args.self.now.limits) c.owe.new.self.traffic.links.peers) (told_by c.args.self.now.clock) c.owe.result c.args.to c.args.octets.now log
    (c.owe.ensures.tells _ log t.0) t.1))

pub returns-clause-links : goal.returns-clause-links
returns-clause-links g c = record {
  shown = c.owe.ensures.shown;
  limits = record {
    as_many = ap (λ (limits : Limits). limits.connections) c.owe.ensures.rest.0;
    bounds = c.owe.ensures.rest.0;
    moments = λ moment may. subst (λ (clock : Moments). MayTell clock moment) c.owe.ensures.rest.1 may;
  };
}
