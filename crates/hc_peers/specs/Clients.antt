-- What is kept of clients, and what the log says passed at their links.
use Rattle.std.specs.Prelude.{◌≡◌, ℕ, ◌==◌, ◌≤◌, ◌||◌, ◌&&◌, Bool, false, List, length, Option, Some, None, not}
use Rattle.std.specs.BTreeMap.{BTreeMap}
use Rattle.hc_flow.specs.Flows.{FlowOwes}
use Rattle.hc_flow.specs.Passing.{Gave}
use Rattle.hc_peers.specs.Tables.{AreAt}
use Rattle.hc_order.specs.declared.receiver.Receiver.TheVariants as to
use Rattle.hc_order.specs.Log.{Move}
use Rattle.hc_order.specs.Passages.{Passage}
use Rattle.hc_peers.specs.declared.client.Client.{Client}
use Rattle.hc_peers.specs.declared.table.Table.{Table}

-- a client's link is open until the cache closes it; what was heard is a beginning of what it gave, and all of that unless it was closed or has failed; and what was sent was written, or waits, unless it has failed
pub record IsClient {S : Type 0} (has_given has_got : S → List ℕ → Type 0) (client : Client S) (passage : Passage) : Type 0 where
  pub opened : passage.is_open ≡ not client.closed
  pub ended : passage.is_ended ≡ client.ended
  pub gave : Gave has_given client.flow.stream (client.closed || client.flow.failed) passage.heard
  pub owes : FlowOwes has_got client.flow passage.sent

-- one of which nothing is kept isn't open
abbrev pub IsClientAt : {S : Type 0} → (S → List ℕ → Type 0) → (S → List ℕ → Type 0) → Option (Client S) → Passage → Type 0
IsClientAt has_given has_got None passage = passage.is_open ≡ false
IsClientAt has_given has_got (Some client) passage = IsClient has_given has_got client passage

abbrev pub AreClients : {S : Type 0} → (S → List ℕ → Type 0) → (S → List ℕ → Type 0) → BTreeMap ℕ (Client S) → List Move → Type 0
AreClients has_given has_got table log = AreAt (IsClientAt has_given has_got) to.Client table log

-- whether the cache has closed the connection, and all that was owed was written, or is lost
abbrev pub may_go : {S : Type 0} → Client S → Bool
may_go client = client.closed && (client.flow.failed || (length client.flow.outbox == 0))

-- there are no more links than before
abbrev pub GainsNone : {L : Type 0} → Table L → Table L → Type 0
GainsNone before after = length after.links.entries ≤ length before.links.entries
