use Rattle.hc_connection.proofs.RestingLemmas.{links_rest}
use Rattle.hc_connection.proofs.resting.a_connection_at_rest_leaves_a_cache_at_rest.Goals as goal

pub returns : goal.returns
returns g c = λ clock. links_rest g.C.Link.has_given g.C.Link.has_got g.C.Link.was_read g.C.Link.count g.O.Link.Link.has_given g.O.Link.Link.has_got (g.K.Clock.may_tell clock)
