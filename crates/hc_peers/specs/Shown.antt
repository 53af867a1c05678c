-- What was written to clients, of what was sent to them.
use Rattle.std.specs.Prelude.{ℕ, List, Option, Some, None}
use Rattle.std.specs.BTreeMap.{BTreeMap}
use Rattle.hc_links.specs.Links.{IsBeginning}
use Rattle.hc_peers.specs.Guests.{AreUnwritten}
use Rattle.hc_order.specs.declared.receiver.Receiver.TheVariants as to
use Rattle.hc_order.specs.Log.{Move}
use Rattle.hc_order.specs.Passages.{Passage}
use Rattle.hc_peers.specs.declared.client.Client.{Client}
use Rattle.hc_peers.specs.declared.peers.Peers.{Peers}
use Rattle.hc_peers.specs.Tables.{AreAt}

-- what was written to a client's link is a beginning of what was sent to it
abbrev pub IsShownAt : {S : Type 0} → (S → List ℕ → Type 0) → Option (Client S) → Passage → Type 0
IsShownAt has_got None passage = Unit {0}
IsShownAt has_got (Some client) passage = (got : List ℕ) × has_got client.flow.stream got × IsBeginning got passage.sent

-- so it is with each client whose link is kept
abbrev pub AreShown : {S : Type 0} → (S → List ℕ → Type 0) → BTreeMap ℕ (Client S) → List Move → Type 0
AreShown has_got table log = AreAt (IsShownAt has_got) to.Client table log

-- and with each client of all links together; to guests nothing was written
abbrev pub ShowNoMore : {S : Type 0} → (S → List ℕ → Type 0) → Peers S → List Move → Type 0
ShowNoMore has_got peers log = AreShown has_got peers.clients.links log × AreUnwritten has_got peers.guests
