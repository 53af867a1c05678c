use Rattle.std.proofs.Common.{◌≡◌, ◌<◌, List, length}
use Rattle.hc_connection.specs.Forwards.{AreKept}
use Rattle.hc_connection.specs.Moves.{most_reads}
use Rattle.hc_order.specs.Log.{Move}
use Rattle.hc_connection.specs.Sides.{Tells}
use Rattle.hc_connection.proofs.peers.Peers.waited.Given as goal

-- what waited so far wasn't to be told
abbrev pub invariant-waiting : goal.invariant-waiting
invariant-waiting g l = record {
  tells : l.initial.self.client.reads < most_reads → (log : List Move) → Tells g.C.Link.has_given g.C.Link.has_got g.C.Link.was_read g.C.Link.count l.initial.self.client log
      → Tells g.C.Link.has_given g.C.Link.has_got g.C.Link.was_read g.C.Link.count l.self.client log;
  kept : (log : List Move) → AreKept g.O.Link.Link.has_given g.O.Link.Link.has_got l.initial.self.forwards.links log
      → AreKept g.O.Link.Link.has_given g.O.Link.Link.has_got l.self.forwards.links log;
  reads : l.self.client.reads ≡ l.initial.self.client.reads;
  number : l.self.client.number ≡ l.initial.self.client.number;
}

abbrev pub decreases-waiting : goal.decreases-waiting
decreases-waiting g l = length l.self.waiting.items
