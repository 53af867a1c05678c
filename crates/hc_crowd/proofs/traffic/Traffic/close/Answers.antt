use Rattle.hc_crowd.proofs.traffic.Traffic.close.Goals as goal

pub returns-in-Client-clause-tells : goal.returns-in-Client-clause-tells
returns-in-Client-clause-tells g c = rw c.in-Client.is c.close_client.ensures.tells

pub returns-in-Origin-clause-tells : goal.returns-in-Origin-clause-tells
returns-in-Origin-clause-tells g c = rw c.in-Origin.is c.close_origin.ensures.tells
