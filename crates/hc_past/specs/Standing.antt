-- Where replies stand among the items of a history.
use Rattle.std.specs.Prelude.{◌-◌, ◌&&◌, ℕ, Bool, List, [], ◌∷◌, Option, None, drop, is_some, length, nat_le}
use Rattle.hc_transcript.specs.Items.{Exchange, Item, ClientRequest, ClientReply, OriginRequest, OriginResponse, OriginFailure}
use Rattle.hc_transcript.specs.History.{exchange_of}

-- the exchange that an item behind others answers, if it is a reply
abbrev pub answered : Item → List Item → Option Exchange
answered (ClientReply number moment reply) before = exchange_of number before
answered (ClientRequest number moment request target) before = None
answered (OriginRequest number moment request target cause) before = None
answered (OriginResponse number moment response) before = None
answered (OriginFailure number moment) before = None

-- the same of the newest of these items
abbrev pub newest_exchange : List Item → Option Exchange
newest_exchange [] = None
newest_exchange (item ∷ before) = answered item before

-- the exchange that the item at a position answers, if it is a reply: there the items up to it are looked at, the newest first
abbrev pub exchange_at : ℕ → List Item → Option Exchange
exchange_at position h = newest_exchange (drop (length h - position) h)

-- whether a reply to an open exchange stands at a position among these items
abbrev pub stands_at : ℕ → List Item → Bool
stands_at position h = nat_le position (length h) && is_some (exchange_at position h)
