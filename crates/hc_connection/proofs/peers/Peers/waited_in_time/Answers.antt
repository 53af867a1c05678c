use Rattle.hc_connection.proofs.peers.Peers.waited_in_time.Goals as goal

pub returns-clause-tells : goal.returns-clause-tells
returns-clause-tells g c = λ log tells. c.waited.ensures.tells (c.is_spent.ensures.unspent c.if-is_spent.false) log tells
