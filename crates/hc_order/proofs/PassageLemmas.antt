-- What passed at a link says whether it is open, and moves of other links leave it.
use Rattle.std.proofs.Common.{◌≡◌, ℕ, Bool, true, false, cond, List, [], ◌∷◌, nat_eq, refl, ap, ◌∙◌}
use Rattle.hc_service.specs.declared.event.Happening.{Happening}
use Rattle.hc_service.specs.declared.event.Happening.TheVariants.{ClientOpened, ClientBytes, ClientEnd, OriginBytes, OriginEnd, OriginFailed, Stopping}
use Rattle.hc_service.specs.Follows.{lost_by, opened_by}
use Rattle.hc_order.specs.declared.receiver.Receiver.{Receiver}
use Rattle.hc_order.specs.declared.receiver.Receiver.TheVariants.{Client, Origin}
use Rattle.hc_order.specs.Log.{Move}
use Rattle.hc_order.specs.Log.Move.{Before, Closed, Heard, Sent}
use Rattle.hc_order.specs.Mirrors.{is_connected, is_its, is_on, is_underway}
use Rattle.hc_order.specs.Passages.{Passage, client_behind, closing, ending, happens_on, happens_to, hearing, is_of, opened_with, origin_behind, passage_of, sending, sent_behind}

-- ---- whether it is open

opened_where : (b : Bool) (made before : Passage) → (cond b made before).is_open ≡ cond b made.is_open before.is_open
opened_where true made before = refl
opened_where false made before = refl

same_where : (b : Bool) (made before : Passage) → made.is_open ≡ before.is_open → (cond b made before).is_open ≡ before.is_open
same_where true made before same = same
same_where false made before same = refl

client_open : (c : ℕ) (happening : Happening) (before : Passage) → (client_behind c happening before).is_open ≡ opened_by c happening before.is_open
client_open c (ClientOpened d) before = opened_where (nat_eq d c) (opened_with []) before
client_open c (ClientBytes d octets) before = same_where (nat_eq d c) (hearing octets before) before refl
client_open c (ClientEnd d) before = same_where (nat_eq d c) (ending before) before refl
client_open c (OriginBytes f octets) before = refl
client_open c (OriginEnd f) before = refl
client_open c (OriginFailed f) before = refl
client_open c Stopping before = refl

origin_open : (f : ℕ) (happening : Happening) (before : Passage) → (origin_behind f happening before).is_open ≡ lost_by f happening before.is_open
origin_open f (ClientOpened c) before = refl
origin_open f (ClientBytes c octets) before = refl
origin_open f (ClientEnd c) before = refl
origin_open f (OriginBytes g octets) before = same_where (nat_eq g f) (hearing octets before) before refl
origin_open f (OriginEnd g) before = same_where (nat_eq g f) (ending before) before refl
origin_open f (OriginFailed g) before = opened_where (nat_eq g f) (closing before) before
origin_open f Stopping before = refl

pub client_is_open : (c : ℕ) (log : List Move) → (passage_of (Client c) log).is_open ≡ is_connected c log
client_is_open c [] = refl
client_is_open c (Before beginning ∷ log) = refl
client_is_open c (Heard occurrence ∷ log) =
    client_open c occurrence.event.of (passage_of (Client c) log) ∙ ap (opened_by c occurrence.event.of) (client_is_open c log)
client_is_open c (Sent to octets ∷ log) =
    same_where (is_its c to) (sending octets (passage_of (Client c) log)) (passage_of (Client c) log) refl ∙ client_is_open c log
client_is_open c (Closed link ∷ log) =
    opened_where (is_its c link) (closing (passage_of (Client c) log)) (passage_of (Client c) log)
    ∙ ap (λ (b : Bool). cond (is_its c link) false b) (client_is_open c log)

pub origin_is_open : (f : ℕ) (log : List Move) → (passage_of (Origin f) log).is_open ≡ is_underway f log
origin_is_open f [] = refl
origin_is_open f (Before beginning ∷ log) = refl
origin_is_open f (Heard occurrence ∷ log) =
    origin_open f occurrence.event.of (passage_of (Origin f) log) ∙ ap (lost_by f occurrence.event.of) (origin_is_open f log)
origin_is_open f (Sent to octets ∷ log) =
    opened_where (is_on f to) (opened_with octets) (passage_of (Origin f) log) ∙ ap (λ (b : Bool). cond (is_on f to) true b) (origin_is_open f log)
origin_is_open f (Closed link ∷ log) =
    opened_where (is_on f link) (closing (passage_of (Origin f) log)) (passage_of (Origin f) log)
    ∙ ap (λ (b : Bool). cond (is_on f link) false b) (origin_is_open f log)

-- ---- moves of other links

client_elsewhere : (c : ℕ) (happening : Happening) (before : Passage) → happens_to c happening ≡ false → client_behind c happening before ≡ before
client_elsewhere c (ClientOpened d) before other = ap (λ (b : Bool). cond b (opened_with []) before) other
client_elsewhere c (ClientBytes d octets) before other = ap (λ (b : Bool). cond b (hearing octets before) before) other
client_elsewhere c (ClientEnd d) before other = ap (λ (b : Bool). cond b (ending before) before) other
client_elsewhere c (OriginBytes f octets) before other = refl
client_elsewhere c (OriginEnd f) before other = refl
client_elsewhere c (OriginFailed f) before other = refl
client_elsewhere c Stopping before other = refl

origin_elsewhere : (f : ℕ) (happening : Happening) (before : Passage) → happens_on f happening ≡ false → origin_behind f happening before ≡ before
origin_elsewhere f (ClientOpened c) before other = refl
origin_elsewhere f (ClientBytes c octets) before other = refl
origin_elsewhere f (ClientEnd c) before other = refl
origin_elsewhere f (OriginBytes g octets) before other = ap (λ (b : Bool). cond b (hearing octets before) before) other
origin_elsewhere f (OriginEnd g) before other = ap (λ (b : Bool). cond b (ending before) before) other
origin_elsewhere f (OriginFailed g) before other = ap (λ (b : Bool). cond b (closing before) before) other
origin_elsewhere f Stopping before other = refl

pub left_elsewhere : (link : Receiver) (newest : Move) (log : List Move) → is_of link newest ≡ false → passage_of link (newest ∷ log) ≡ passage_of link log
left_elsewhere link (Before beginning) log other = absurd (cc)
left_elsewhere (Client c) (Heard occurrence) log other = client_elsewhere c occurrence.event.of (passage_of (Client c) log) other
left_elsewhere (Origin f) (Heard occurrence) log other = origin_elsewhere f occurrence.event.of (passage_of (Origin f) log) other
left_elsewhere link (Sent to octets) log other =
    ap (λ (b : Bool). cond b (sent_behind link octets (passage_of link log)) (passage_of link log)) other
left_elsewhere link (Closed to) log other = ap (λ (b : Bool). cond b (closing (passage_of link log)) (passage_of link log)) other
