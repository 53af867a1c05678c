use Rattle.std.proofs.Common.{◌∷◌, refl}
use Rattle.hc_order.specs.Log.Move.{Closed}
use Rattle.hc_connection.proofs.TellLemmas.{opens_by}
use Rattle.hc_connection.proofs.connection.ConnectionLinks.close.Goals as goal

pub returns-clause-closed : goal.returns-clause-closed
returns-clause-closed g c = λ log t. (
  c.close.ensures.tells log t.0,
  opens_by c.args.self.now.opened _ _ log (Closed c.args.link ∷ log) refl refl c.close.ensures.number t.1,
  t.2,
  c.close.ensures.kept log t.3,
  t.4,
)
