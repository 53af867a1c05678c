-- What passed at one link, as the log tells it: that of a client, or that of a forward.
use Rattle.std.specs.Prelude.{ℕ, ◌==◌, Bool, true, false, List, [], ◌∷◌, ◌++◌, if◌then◌else◌}
use Rattle.hc_service.specs.declared.event.Happening.{Happening}
use Rattle.hc_service.specs.declared.event.Happening.TheVariants.{ClientOpened, ClientBytes, ClientEnd, OriginBytes, OriginEnd, OriginFailed}
use Rattle.hc_order.specs.declared.receiver.Receiver.{Receiver}
use Rattle.hc_order.specs.declared.receiver.Receiver.TheVariants.{Client, Origin}
use Rattle.hc_order.specs.Log.{Move}
use Rattle.hc_order.specs.Log.Move.{Before, Closed, Heard, Sent}
use Rattle.hc_order.specs.Mirrors.{is_its, is_on}

-- the octets that were heard from a link since it was opened, those that were sent to it, whether it is open, and whether its other side has ended
pub record Passage : Type 0 where
  pub heard : List ℕ
  pub sent : List ℕ
  pub is_open : Bool
  pub is_ended : Bool

-- ---- what one move makes of it

-- nothing has passed, and it isn't open
abbrev pub unopened : Passage
unopened = record { heard = []; sent = []; is_open = false; is_ended = false }

-- it was opened anew, and these octets were sent
abbrev pub opened_with : List ℕ → Passage
opened_with octets = record { heard = []; sent = octets; is_open = true; is_ended = false }

-- these octets more were heard
abbrev pub hearing : List ℕ → Passage → Passage
hearing octets before = record { heard = before.heard ++ octets; sent = before.sent; is_open = before.is_open; is_ended = before.is_ended }

-- these octets more were sent, which opens nothing
abbrev pub sending : List ℕ → Passage → Passage
sending octets before = record { heard = before.heard; sent = before.sent ++ octets; is_open = before.is_open; is_ended = before.is_ended }

-- its other side has ended
abbrev pub ending : Passage → Passage
ending before = record { heard = before.heard; sent = before.sent; is_open = before.is_open; is_ended = true }

-- it isn't open any more; what passed there stays
abbrev pub closing : Passage → Passage
closing before = record { heard = before.heard; sent = before.sent; is_open = false; is_ended = before.is_ended }

-- what a client's link is behind what happens: its opening begins it anew
abbrev pub client_behind : ℕ → Happening → Passage → Passage
client_behind c (ClientOpened d) before = if d == c then opened_with [] else before
client_behind c (ClientBytes d octets) before = if d == c then hearing octets before else before
client_behind c (ClientEnd d) before = if d == c then ending before else before
client_behind c other before = before

-- what a forward's link is: its failure closes it
abbrev pub origin_behind : ℕ → Happening → Passage → Passage
origin_behind f (OriginBytes g octets) before = if g == f then hearing octets before else before
origin_behind f (OriginEnd g) before = if g == f then ending before else before
origin_behind f (OriginFailed g) before = if g == f then closing before else before
origin_behind f other before = before

abbrev pub heard_behind : Receiver → Happening → Passage → Passage
heard_behind (Client c) happening before = client_behind c happening before
heard_behind (Origin f) happening before = origin_behind f happening before

-- what it is behind octets that are sent there: they open a forward anew
abbrev pub sent_behind : Receiver → List ℕ → Passage → Passage
sent_behind (Client c) octets before = sending octets before
sent_behind (Origin f) octets before = opened_with octets

-- whether both are the same link
abbrev pub is_at : Receiver → Receiver → Bool
is_at (Client c) other = is_its c other
is_at (Origin f) other = is_on f other

abbrev pub passed_behind : Receiver → Move → Passage → Passage
passed_behind link (Before beginning) before = unopened
passed_behind link (Heard occurrence) before = heard_behind link occurrence.event.of before
passed_behind link (Sent to octets) before = if is_at link to then sent_behind link octets before else before
passed_behind link (Closed other) before = if is_at link other then closing before else before

-- ---- what all moves make of it

-- what passed at the link, by the log
abbrev pub passage_of : Receiver → List Move → Passage
passage_of link [] = unopened
passage_of link (move ∷ log) = passed_behind link move (passage_of link log)

-- ---- of which link a move is

-- it happens to that client
abbrev pub happens_to : ℕ → Happening → Bool
happens_to c (ClientOpened d) = d == c
happens_to c (ClientBytes d octets) = d == c
happens_to c (ClientEnd d) = d == c
happens_to c other = false

-- it happens on that forward
abbrev pub happens_on : ℕ → Happening → Bool
happens_on f (OriginBytes g octets) = g == f
happens_on f (OriginEnd g) = g == f
happens_on f (OriginFailed g) = g == f
happens_on f other = false

abbrev pub happens_at : Receiver → Happening → Bool
happens_at (Client c) happening = happens_to c happening
happens_at (Origin f) happening = happens_on f happening

-- it is of that link; what was before all others is of each
abbrev pub is_of : Receiver → Move → Bool
is_of link (Before beginning) = true
is_of link (Heard occurrence) = happens_at link occurrence.event.of
is_of link (Sent to octets) = is_at link to
is_of link (Closed other) = is_at link other
