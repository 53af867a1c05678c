use Rattle.hc_connection.proofs.peers.Peers.close.Goals as goal

pub returns-in-Origin-clause-kept : goal.returns-in-Origin-clause-kept
returns-in-Origin-clause-kept g c = rw c.in-Origin.is (λ log kept. c.forget.ensures.closed log kept)
