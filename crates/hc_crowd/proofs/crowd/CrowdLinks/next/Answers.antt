use Rattle.std.proofs.Common.{◌∙◌, ap, subst, sym}
use Rattle.hc_agenda.specs.declared.moments.Moments.{Moments}
use Rattle.hc_agenda.specs.MomentsKept.{told_by}
use Rattle.hc_peers.specs.Peers.{ArePeers}
use Rattle.hc_crowd.specs.Crowds.{MayTell, bounds_of}
use Rattle.hc_crowd.proofs.CrowdLemmas.{heard_now, told_now}
use Rattle.hc_crowd.specs.declared.limits.Limits.{Limits}
use Rattle.hc_service.specs.declared.event.Happening.{Happening}
use Rattle.hc_order.specs.Mirrors.{MayHappen}
use Rattle.hc_crowd.proofs.crowd.CrowdLinks.next.Goals as goal

pub returns-in-Some-clause-tells : goal.returns-in-Some-clause-tells
returns-in-Some-clause-tells g c = λ log t.
    rw c.hear_next.ensures.rest.0
    (rw c.hear_next.ensures.rest.1 (
      heard_now (ArePeers g.W.Stream.Stream.has_given g.W.Stream.Stream.has_got (bounds_of c.args.self.now.limits) c.hear_next.new.self.traffic.links.peers) c.now.result c.in-Some.happened.of c.in-Some.happened.reason log
          c.now.ensures.of c.now.ensures.reason ((rw c.in-Some.is at c.in_ok-happened.ensures.heard).tells c.args.self.now.limits.origin_connections log t.0),
      told_now (told_by c.args.self.now.clock) c.now.result log (c.now.ensures.moment ∙ ap told_by c.hear_next.ensures.rest.1) t.1,
    ))

pub returns-in-Some-clause-orderly : goal.returns-in-Some-clause-orderly
returns-in-Some-clause-orderly g c = λ log t.
    subst (λ (o : Happening). MayHappen c.args.self.now.limits.connections o log) (sym c.now.ensures.of) ((rw c.in-Some.is at c.in_ok-happened.ensures.heard).may _ log t.0)

pub returns-in-None-clause-tells : goal.returns-in-None-clause-tells
returns-in-None-clause-tells g c = λ log t.
    rw c.hear_next.ensures.rest.0
    (rw c.hear_next.ensures.rest.1
    ((rw c.in-None.is at c.in_ok-happened.ensures.heard).tells _ log t.0, t.1))

pub returns-in_err-happened-clause-links : goal.returns-in_err-happened-clause-links
returns-in_err-happened-clause-links g c = record {
  shown = c.hear_next.ensures.heard.shown;
  limits = record {
    as_many = ap (λ (limits : Limits). limits.connections) c.hear_next.ensures.rest.0;
    bounds = c.hear_next.ensures.rest.0;
    moments = λ moment may. subst (λ (clock : Moments). MayTell clock moment) c.hear_next.ensures.rest.1 may;
  };
}

pub returns-in-Some-clause-links : goal.returns-in-Some-clause-links
returns-in-Some-clause-links g c = record {
  shown = c.hear_next.ensures.heard.shown;
  limits = record {
    as_many = ap (λ (limits : Limits). limits.connections) c.hear_next.ensures.rest.0;
    bounds = c.hear_next.ensures.rest.0;
    moments = λ moment may. subst (λ (clock : Moments). MayTell clock moment) c.hear_next.ensures.rest.1 may;
  };
}

pub returns-in-None-clause-links : goal.returns-in-None-clause-links
returns-in-None-clause-links g c = record {
  shown = c.hear_next.ensures.heard.shown;
  limits = record {
    as_many = ap (λ (limits : Limits). limits.connections) c.hear_next.ensures.rest.0;
    bounds = c.hear_next.ensures.rest.0;
    moments = λ moment may. subst (λ (clock : Moments). MayTell clock moment) c.hear_next.ensures.rest.1 may;
  };
}
