use Rattle.std.proofs.Common.{Ok, subst, sym}
use Rattle.hc_flow.specs.declared.heard.Heard.{Heard}
use Rattle.hc_flow.specs.Hearings.{KeepsHeard}
use Rattle.hc_peers.specs.Clients.{IsClient}
use Rattle.hc_peers.proofs.ReadLemmas.{still_client}
use Rattle.hc_peers.proofs.client.Client.read.Goals as goal

pub returns-in-End-clause-kept : goal.returns-in-End-clause-kept
returns-in-End-clause-kept g c = λ here passage is.
    subst (λ (heard : Heard). KeepsHeard (IsClient g.S.Stream.has_given g.S.Stream.has_got c.end.new.self) (Ok heard) passage) (sym c.end.ensures.heard)
    (c.end.ensures.kept passage
    (still_client g.S.Stream.has_given g.S.Stream.has_got c.args.self.now c.hear_flow.new.flow passage here is c.in_ok-octets.ensures.owes (rw c.in-End.is at c.in_ok-octets.ensures.gave)))

pub returns-in-Lost-clause-kept : goal.returns-in-Lost-clause-kept
returns-in-Lost-clause-kept g c = λ here passage is.
    subst (λ (heard : Heard). KeepsHeard (IsClient g.S.Stream.has_given g.S.Stream.has_got c.end-in-Lost.new.self) (Ok heard) passage) (sym c.end-in-Lost.ensures.heard)
    (c.end-in-Lost.ensures.kept passage
    (still_client g.S.Stream.has_given g.S.Stream.has_got c.args.self.now c.hear_flow.new.flow passage here is c.in_ok-octets.ensures.owes (rw c.in-Lost.is at c.in_ok-octets.ensures.gave)))
