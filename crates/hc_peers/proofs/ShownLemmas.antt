-- What was written to clients is a beginning of what was sent to them.
use Rattle.std.proofs.Common.{◌≡◌, ℕ, List, Option, Some, None}
use Rattle.std.specs.BTreeMap.{BTreeMap, WritesThrough, get}
use Rattle.std.specs.Ordering.{nat_cmp}
use Rattle.hc_flow.specs.Passing.{Stays}
use Rattle.hc_peers.proofs.TableLemmas.{lent_stays}
use Rattle.hc_order.specs.declared.receiver.Receiver.TheVariants.{Client as to_client}
use Rattle.hc_order.specs.Log.{Move}
use Rattle.hc_order.specs.Passages.{Passage, passage_of}
use Rattle.hc_peers.specs.declared.client.Client.{Client}
use Rattle.hc_peers.specs.declared.peers.Peers.{Peers}
use Rattle.hc_peers.specs.Clients.{AreClients, IsClientAt}
use Rattle.hc_peers.specs.Peers.{ArePeers, Bounds}
use Rattle.hc_peers.specs.Shown.{AreShown, IsShownAt, ShowNoMore}

shown_at : {S : Type 0} (has_given has_got : S → List ℕ → Type 0) (kept : Option (Client S)) (passage : Passage) → IsClientAt has_given has_got kept passage → IsShownAt has_got kept passage
shown_at has_given has_got None passage is = tt
shown_at has_given has_got (Some client) passage is = (is.owes.got, is.owes.has_it, (is.owes.rest, is.owes.sent_is))

-- where what passed is what a log says, no more was written than was sent by then
told_shown : {S : Type 0} (has_given has_got : S → List ℕ → Type 0) (table : BTreeMap ℕ (Client S)) (log : List Move) → AreClients has_given has_got table log → AreShown has_got table log
told_shown has_given has_got table log are = λ n. shown_at has_given has_got (get nat_cmp table n) (passage_of (to_client n) log) (are n)

-- and so it is with all links together
pub peers_show : {S : Type 0} (has_given has_got : S → List ℕ → Type 0) (bounds : Bounds) (peers : Peers S) (log : List Move) → ArePeers has_given has_got bounds peers log → ShowNoMore has_got peers log
peers_show has_given has_got bounds peers log are = (told_shown has_given has_got peers.clients.links log are.clients, are.guests.1)

-- one is lent, and what was written to its link stays
pub lent_shown : {S : Type 0} (has_got : S → List ℕ → Type 0) (table table' : BTreeMap ℕ (Client S)) (k : ℕ) (client client' : Client S) → Some client ≡ get nat_cmp table k
    → WritesThrough nat_cmp (nat_cmp k) table client' table' → Stays (has_got client.flow.stream) (has_got client'.flow.stream)
    → (log : List Move) → AreShown has_got table log → AreShown has_got table' log
lent_shown has_got table table' k client client' there wrote stays =
    lent_stays (IsShownAt has_got) table table' k client client' there wrote to_client (λ passage had. (had.0, stays had.0 had.1, had.2))
