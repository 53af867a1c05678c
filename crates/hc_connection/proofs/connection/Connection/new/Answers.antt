use Rattle.hc_connection.proofs.connection.Connection.new.Goals as goal

pub returns-clause-tells : goal.returns-clause-tells
returns-clause-tells g c = λ last given got reads gives gets reads_it. rw c.new-2.ensures.client (c.new.ensures.tells last given got reads gives gets reads_it)
