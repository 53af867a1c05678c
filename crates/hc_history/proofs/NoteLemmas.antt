-- What the next item makes of what is known of a history.
use Rattle.std.proofs.Common.{◌≡◌, ℕ, zero, suc, ◌+◌, ◌≤◌, Bool, true, false, cond, ◌&&◌, ◌||◌, if◌then◌else◌, ltb, eqb, List, [], ◌∷◌, ◌++◌, length, map, Option, Some, None, refl, ap, sym, ◌∙◌, arith, add-one, eq-eqb}
use Rattle.std.specs.Option.{option_map}
use Rattle.std.proofs.lemmas.Bool.{lt-ltb, le-ltb, eqb-true}
use Rattle.std.proofs.lemmas.List.{map-append, append-nil}
use Rattle.hc_head.specs.declared.head.RequestHead.{RequestHead}
use Rattle.hc_head.specs.declared.head.ResponseHead.{ResponseHead}
use Rattle.hc_head.specs.declared.head.Target.{Target}
use Rattle.hc_head.specs.Targets.{same_target}
use Rattle.hc_framing.specs.declared.message.Message.{Message}
use Rattle.hc_update.specs.States.{initial_state}
use Rattle.hc_transcript.specs.declared.format.Format.{Format}
use Rattle.hc_transcript.specs.Items.{Item, ClientRequest, OriginRequest, OriginResponse, OriginFailure, ClientReply, Exchange, Forward}
use Rattle.hc_transcript.specs.History.{next_position, exchange_of, forward_of, cause_of, exchange_after, forward_after, cause_after}
use Rattle.hc_history.specs.declared.kept.Kept.{Kept}
use Rattle.hc_history.specs.States.{begun_by, begun_to, state_begun, state_answered, kept_answered_to, state_after, state_at}
use Rattle.hc_history.specs.Windows.{some_since, has_forward, is_sent_for, is_error_by, is_failure_by, is_error, is_failure}
use Rattle.hc_history.specs.Seen.{remaining, Live, live_at, live_up_to, live_of, WindowResponse, response_in, responses_since, window_responses_of, has_forward_after, has_forward_in, Seen, IsSeenAs}
use Rattle.hc_history.specs.Noting.{live_answered, lives_answered, lives_after, added_to_window, window_after, Notes}
use Rattle.hc_head.proofs.SameTargetLemmas.{same_target_one}
use Rattle.hc_history.proofs.StateLemmas.{earlier_at}
use Rattle.hc_history.proofs.ForgetLemmas.{remaining_answered}

-- ---- live responses

-- the live responses of a target after a response, without what it begins
abbrev walked : Target → Option Forward → ℕ → ℕ → Message ResponseHead → List Live → List Live
walked target None position moment response lives = lives
walked target (Some forward) position moment response lives =
    if same_target forward.target target then map (live_answered forward position moment response) lives else lives

walked_append : (target : Target) (o : Option Forward) (position moment : ℕ) (response : Message ResponseHead) (xs ys : List Live)
    → walked target o position moment response (xs ++ ys) ≡ walked target o position moment response xs ++ walked target o position moment response ys
walked_append target None position moment response xs ys = refl
walked_append target (Some forward) position moment response xs ys = go (same_target forward.target target)
  where
    go : (b : Bool) → cond b (map (live_answered forward position moment response) (xs ++ ys)) (xs ++ ys)
        ≡ cond b (map (live_answered forward position moment response) xs) xs ++ cond b (map (live_answered forward position moment response) ys) ys
    go true = map-append (live_answered forward position moment response) xs ys
    go false = refl

walked_none : (target : Target) (o : Option Forward) (position moment : ℕ) (response : Message ResponseHead) → [] ≡ walked target o position moment response []
walked_none target None position moment response = refl
walked_none target (Some forward) position moment response = go (same_target forward.target target)
  where
    go : (b : Bool) → [] ≡ cond b (map (live_answered forward position moment response) []) []
    go true = refl
    go false = refl

-- one live response of the target
walked_one : (target : Target) (forward : Forward) (position moment j : ℕ) (response : Message ResponseHead) (kept : Kept) (here there : Bool)
    → same_target kept.target target ≡ here → same_target forward.target kept.target ≡ there
    → live_at target j (Some (cond there (record { target = kept.target; state = state_answered forward position moment response kept.state }) kept))
    ≡ walked target (Some forward) position moment response (cond here (record { position = j; state = remaining kept.state } ∷ []) [])
walked_one target forward position moment j response kept false true is same = rw is (walked_none target (Some forward) position moment response)
walked_one target forward position moment j response kept false false is same = rw is (walked_none target (Some forward) position moment response)
walked_one target forward position moment j response kept true true is same =
    let at_target : same_target forward.target target ≡ true = ap (same_target forward.target) (sym (same_target_one kept.target target is)) ∙ same in
    rw (is, at_target) (ap (λ s. let l : Live = record { position = j; state = s } in l ∷ []) (sym (remaining_answered forward position moment response kept.state)))
walked_one target forward position moment j response kept true false is same =
    let at_target : same_target forward.target target ≡ false = ap (same_target forward.target) (sym (same_target_one kept.target target is)) ∙ same in
    rw (is, at_target) refl

walked_at : (target : Target) (o : Option Forward) (position moment j : ℕ) (response : Message ResponseHead) (k : Option Kept)
    → live_at target j (option_map (kept_answered_to o position moment response) k) ≡ walked target o position moment response (live_at target j k)
walked_at target o position moment j response None = walked_none target o position moment response
walked_at target None position moment j response (Some kept) = refl
walked_at target (Some forward) position moment j response (Some kept) =
    walked_one target forward position moment j response kept (same_target kept.target target) (same_target forward.target kept.target) refl refl

-- what an item makes of the live responses of a target, without what it begins
abbrev walk : Target → List Item → Item → List Live → List Live
walk target h (OriginResponse number moment response) lives = walked target (forward_of number h) (next_position h) moment response lives
walk target h item lives = lives

walk_append : (target : Target) (h : List Item) (item : Item) (xs ys : List Live) → walk target h item (xs ++ ys) ≡ walk target h item xs ++ walk target h item ys
walk_append target h (OriginResponse number moment response) xs ys = walked_append target (forward_of number h) (next_position h) moment response xs ys
walk_append target h item xs ys = refl

walk_none : (target : Target) (h : List Item) (item : Item) → [] ≡ walk target h item []
walk_none target h (OriginResponse number moment response) = walked_none target (forward_of number h) (next_position h) moment response
walk_none target h item = refl

map_same : (f : Kept → Kept) → ((kept : Kept) → f kept ≡ kept) → (o : Option Kept) → option_map f o ≡ o
map_same f same None = refl
map_same f same (Some kept) = ap Some (same kept)

walk_at : (target : Target) (h : List Item) (item : Item) (j : ℕ) (o : Option Kept) → live_at target j (option_map (state_after h item) o) ≡ walk target h item (live_at target j o)
unfolding state_after
walk_at target h (OriginResponse number moment response) j o = walked_at target (forward_of number h) (next_position h) moment j response o
walk_at target h item j o = ap (live_at target j) (map_same _ (λ k. refl) o)

walk_up_to : (target : Target) (h : List Item) (item : Item) (n : ℕ) → n ≤ length h → live_up_to target n (item ∷ h) ≡ walk target h item (live_up_to target n h)
walk_up_to target h item zero le = walk_none target h item
walk_up_to target h item (suc n) le =
    ap (λ (o : Option Kept). live_up_to target n (item ∷ h) ++ live_at target (suc n) o) (earlier_at h item (suc n) le)
    ∙ ap (λ (ls : List Live). ls ++ live_at target (suc n) (option_map (state_after h item) (state_at (suc n) h))) (walk_up_to target h item n (omega arith))
    ∙ ap (λ (ls : List Live). walk target h item (live_up_to target n h) ++ ls) (walk_at target h item (suc n) (state_at (suc n) h))
    ∙ sym (walk_append target h item (live_up_to target n h) (live_at target (suc n) (state_at (suc n) h)))

begun_here : (h : List Item) (item : Item) → state_at (suc (length h)) (item ∷ h) ≡ state_begun h item
begun_here h item = rw (add-one, eq-eqb (suc (length h)) (suc (length h)) refl) refl

live_behind : (target : Target) (h : List Item) (item : Item) → live_of target (item ∷ h) ≡ walk target h item (live_of target h) ++ live_at target (next_position h) (state_begun h item)
live_behind target h item =
    ap (λ (ls : List Live). ls ++ live_at target (suc (length h)) (state_at (suc (length h)) (item ∷ h))) (walk_up_to target h item (length h) (omega arith))
    ∙ ap (λ (o : Option Kept). walk target h item (live_of target h) ++ live_at target (suc (length h)) o) (begun_here h item)
    ∙ simp add-one

-- what a response to a forward of another target begins isn't of this one
begun_elsewhere : (target : Target) (forward : Forward) (position moment : ℕ) (response : Message ResponseHead) (stores : Bool) → same_target forward.target target ≡ false
    → live_at target position (cond stores (Some (record { target = forward.target; state = initial_state forward.request forward.moment response moment })) None) ≡ []
begun_elsewhere target forward position moment response true other = rw other refl
begun_elsewhere target forward position moment response false other = refl

answered_is : (target : Target) (o : Option Forward) (position moment : ℕ) (response : Message ResponseHead) (lives : List Live)
    → walked target o position moment response lives ++ live_at target position (begun_to o moment response) ≡ lives_answered target o position moment response lives
answered_is target None position moment response lives = append-nil lives
answered_is target (Some forward) position moment response lives = go (same_target forward.target target) refl
  where
    go : (b : Bool) → same_target forward.target target ≡ b
        → cond b (map (live_answered forward position moment response) lives) lives ++ live_at target position (begun_by forward moment response)
        ≡ cond b (map (live_answered forward position moment response) lives ++ live_at target position (begun_by forward moment response)) lives
    go true is = refl
    go false is = ap (λ (ls : List Live). lives ++ ls) (begun_elsewhere target forward position moment response _ is) ∙ append-nil lives

noted_is : (target : Target) (h : List Item) (item : Item) (lives : List Live)
    → walk target h item lives ++ live_at target (next_position h) (state_begun h item) ≡ lives_after target (λ f. forward_of f h) (next_position h) item lives
noted_is target h (OriginResponse number moment response) lives = answered_is target (forward_of number h) (next_position h) moment response lives
noted_is target h item lives = append-nil lives

same_lives : (a b : ℕ → Option Forward) → ((f : ℕ) → a f ≡ b f) → (target : Target) (position : ℕ) (item : Item) (lives : List Live)
    → lives_after target a position item lives ≡ lives_after target b position item lives
same_lives a b same target position (OriginResponse number moment response) lives =
    ap (λ (o : Option Forward). lives_answered target o position moment response lives) (same number)
same_lives a b same target position item lives = refl

-- ---- windows

responses_past : (format : Format) (e : ℕ) (target : Target) (since : ℕ) (h : List Item) → length h ≤ since → responses_since format e target since h ≡ []
responses_past format e target since [] le = refl
responses_past format e target since (item ∷ h) le =
    rw (le-ltb since (length h + 1) (omega arith)) (append-nil (responses_since format e target since h) ∙ responses_past format e target since h (omega arith))

position_in : Option Exchange → ℕ
position_in None = 0
position_in (Some exchange) = exchange.position

opened_place : (h : List Item) (number : ℕ) (request : RequestHead) (target : Target) (exchange : Exchange) (b : Bool) (o : Option Exchange)
    → (o ≡ Some exchange → exchange.position ≤ length h)
    → cond b (Some (record { number = number; position = next_position h; request = request; target = target })) o ≡ Some exchange → exchange.position ≤ length h + 1
unfolding position_in
opened_place h number request target exchange true o before is = let at_it = ap position_in is in omega (arith, at_it)
opened_place h number request target exchange false o before is = let place = before is in omega (arith, place)

closed_place : (h : List Item) (exchange : Exchange) (b : Bool) (o : Option Exchange)
    → (o ≡ Some exchange → exchange.position ≤ length h) → cond b None o ≡ Some exchange → exchange.position ≤ length h + 1
closed_place h exchange true o before is = cc
closed_place h exchange false o before is = let place = before is in omega (arith, place)

-- an exchange was opened before
exchange_place : (e : ℕ) (h : List Item) (exchange : Exchange) → exchange_of e h ≡ Some exchange → exchange.position ≤ length h
exchange_place e [] exchange is = cc
exchange_place e (ClientRequest number moment request target ∷ h) exchange is =
    omega (arith, opened_place h number request.head target exchange (eqb number e) (exchange_of e h) (exchange_place e h exchange) is)
exchange_place e (ClientReply number moment reply ∷ h) exchange is =
    omega (arith, closed_place h exchange (eqb number e) (exchange_of e h) (exchange_place e h exchange) is)
exchange_place e (item ∷ h) exchange is = omega (arith, exchange_place e h exchange is)

-- an item that is no response adds nothing to a window
nothing_added : (b : Bool) (window : List WindowResponse) → window ++ cond b [] [] ≡ window
nothing_added true window = append-nil window
nothing_added false window = append-nil window

quiet : (format : Format) (h : List Item) (item : Item) → ((e : ℕ) (target : Target) → response_in format e target h item ≡ []) → (o : Option Exchange)
    → window_responses_of format o (item ∷ h) ≡ window_responses_of format o h
quiet format h item none None = refl
quiet format h item none (Some exchange) =
    ap (λ (added : List WindowResponse). responses_since format exchange.number exchange.target exchange.position h ++ cond (ltb exchange.position (next_position h)) added [])
    (none exchange.number exchange.target)
    ∙ nothing_added (ltb exchange.position (next_position h)) (responses_since format exchange.number exchange.target exchange.position h)

loud : (format : Format) (h : List Item) (number moment e : ℕ) (response : Message ResponseHead) (o : Option Exchange) → exchange_of e h ≡ o
    → window_responses_of format o (OriginResponse number moment response ∷ h)
    ≡ window_responses_of format o h ++ added_to_window format o (forward_of number h) (cause_of number h) response
loud format h number moment e response None is = refl
loud format h number moment e response (Some exchange) is =
    rw (lt-ltb exchange.position (length h + 1) (let place = exchange_place e h exchange is in omega arith)) refl

opened : (format : Format) (h : List Item) (number moment e : ℕ) (request : Message RequestHead) (target : Target) (b : Bool)
    → window_responses_of format (cond b (Some (record { number = number; position = next_position h; request = request.head; target = target })) (exchange_of e h)) (ClientRequest number moment request target ∷ h)
    ≡ cond b [] (window_responses_of format (exchange_of e h) h)
opened format h number moment e request target true = responses_past format number target (length h + 1) (ClientRequest number moment request target ∷ h) (omega arith)
opened format h number moment e request target false = quiet format h (ClientRequest number moment request target) (λ n t. refl) (exchange_of e h)

closed : (format : Format) (h : List Item) (number moment e : ℕ) (reply : Message ResponseHead) (b : Bool)
    → window_responses_of format (cond b None (exchange_of e h)) (ClientReply number moment reply ∷ h) ≡ cond b [] (window_responses_of format (exchange_of e h) h)
closed format h number moment e reply true = refl
closed format h number moment e reply false = quiet format h (ClientReply number moment reply) (λ n t. refl) (exchange_of e h)

window_behind : (format : Format) (e : ℕ) (h : List Item) (item : Item) → window_responses_of format (exchange_of e (item ∷ h)) (item ∷ h)
    ≡ window_after format e (exchange_of e h) (λ f. forward_of f h) (λ f. cause_of f h) item (window_responses_of format (exchange_of e h) h)
window_behind format e h (ClientRequest number moment request target) = opened format h number moment e request target (eqb number e)
window_behind format e h (OriginResponse number moment response) = loud format h number moment e response (exchange_of e h) refl
window_behind format e h (ClientReply number moment reply) = closed format h number moment e reply (eqb number e)
window_behind format e h item = quiet format h item (λ n t. refl) (exchange_of e h)

same_window : (format : Format) (a b : ℕ → Option Forward) (c d : ℕ → Option ℕ) → ((f : ℕ) → a f ≡ b f) → ((f : ℕ) → c f ≡ d f) → (e : ℕ) (o : Option Exchange) (item : Item)
    (window : List WindowResponse) → window_after format e o a c item window ≡ window_after format e o b d item window
same_window format a b c d same cause e o (OriginResponse number moment response) window =
    λ i. window ++ added_to_window format o (same number i) (cause number i) response
same_window format a b c d same cause e o item window = refl

-- ---- forwards that were made for an exchange

number_in : Option Exchange → ℕ
number_in None = 0
number_in (Some exchange) = exchange.number

opened_number : (h : List Item) (number e : ℕ) (request : RequestHead) (target : Target) (exchange : Exchange) (b : Bool) (o : Option Exchange) → eqb number e ≡ b
    → (o ≡ Some exchange → exchange.number ≡ e)
    → cond b (Some (record { number = number; position = next_position h; request = request; target = target })) o ≡ Some exchange → exchange.number ≡ e
unfolding number_in
opened_number h number e request target exchange true o same before is = let it = ap number_in is in omega (arith, it, eqb-true number e same)
opened_number h number e request target exchange false o same before is = before is

closed_number : (e : ℕ) (exchange : Exchange) (b : Bool) (o : Option Exchange) → (o ≡ Some exchange → exchange.number ≡ e) → cond b None o ≡ Some exchange → exchange.number ≡ e
closed_number e exchange true o before is = cc
closed_number e exchange false o before is = before is

-- the open exchange of a number has that number
exchange_number : (e : ℕ) (h : List Item) (exchange : Exchange) → exchange_of e h ≡ Some exchange → exchange.number ≡ e
exchange_number e [] exchange is = cc
exchange_number e (ClientRequest number moment request target ∷ h) exchange is =
    opened_number h number e request.head target exchange (eqb number e) (exchange_of e h) refl (exchange_number e h exchange) is
exchange_number e (ClientReply number moment reply ∷ h) exchange is = closed_number e exchange (eqb number e) (exchange_of e h) (exchange_number e h exchange) is
exchange_number e (item ∷ h) exchange is = exchange_number e h exchange is

nothing_sent : (b before : Bool) → before ≡ ((b && false) || before)
nothing_sent true before = refl
nothing_sent false before = refl

sent_past : (e since : ℕ) (h : List Item) → length h ≤ since → false ≡ some_since (λ earlier item. is_sent_for e item) since h
sent_past e since [] le = refl
sent_past e since (item ∷ h) le = rw (le-ltb since (length h + 1) (omega arith)) (sent_past e since h (omega arith))

-- what is sent behind the request of an open exchange stands in its window
sent_behind : (e : ℕ) (h : List Item) (item : Item) (exchange : Exchange) → exchange_of e h ≡ Some exchange → (is_sent_for e item || has_forward exchange h) ≡ has_forward exchange (item ∷ h)
sent_behind e h item exchange is =
    rw (lt-ltb exchange.position (length h + 1) (let place = exchange_place e h exchange is in omega arith))
    (ap (λ (n : ℕ). is_sent_for n item || has_forward exchange h) (sym (exchange_number e h exchange is)))

forward_opened : (h : List Item) (number moment e : ℕ) (request : Message RequestHead) (target : Target) (exchange : Exchange) (b : Bool) (before : Bool)
    → (exchange_of e h ≡ Some exchange → before ≡ has_forward exchange h)
    → cond b (Some (record { number = number; position = next_position h; request = request.head; target = target })) (exchange_of e h) ≡ Some exchange
    → cond b false before ≡ has_forward exchange (ClientRequest number moment request target ∷ h)
unfolding position_in
forward_opened h number moment e request target exchange true before so is =
    let at : next_position h ≡ exchange.position = ap position_in is in
    sent_past exchange.number exchange.position (ClientRequest number moment request target ∷ h) (omega (arith, at))
forward_opened h number moment e request target exchange false before so is = so is ∙ nothing_sent (ltb exchange.position (next_position h)) (has_forward exchange h)

forward_closed : (h : List Item) (number moment e : ℕ) (reply : Message ResponseHead) (exchange : Exchange) (b : Bool) (before : Bool)
    → (exchange_of e h ≡ Some exchange → before ≡ has_forward exchange h) → cond b None (exchange_of e h) ≡ Some exchange
    → cond b false before ≡ has_forward exchange (ClientReply number moment reply ∷ h)
forward_closed h number moment e reply exchange true before so is = cc
forward_closed h number moment e reply exchange false before so is = so is ∙ nothing_sent (ltb exchange.position (next_position h)) (has_forward exchange h)

-- whether a forward was made for an open exchange
pub forwarded_in_window : (e : ℕ) (h : List Item) (exchange : Exchange) → exchange_of e h ≡ Some exchange → has_forward_in e h ≡ has_forward exchange h
forwarded_in_window e [] exchange is = cc
forwarded_in_window e (ClientRequest number moment request target ∷ h) exchange is =
    forward_opened h number moment e request target exchange (eqb number e) (has_forward_in e h) (forwarded_in_window e h exchange) is
forwarded_in_window e (OriginRequest number moment request target cause ∷ h) exchange is =
    ap (λ (b : Bool). is_sent_for e (OriginRequest number moment request target cause) || b) (forwarded_in_window e h exchange is)
    ∙ sent_behind e h (OriginRequest number moment request target cause) exchange is
forwarded_in_window e (OriginResponse number moment response ∷ h) exchange is =
    forwarded_in_window e h exchange is ∙ sent_behind e h (OriginResponse number moment response) exchange is
forwarded_in_window e (OriginFailure number moment ∷ h) exchange is =
    forwarded_in_window e h exchange is ∙ sent_behind e h (OriginFailure number moment) exchange is
forwarded_in_window e (ClientReply number moment reply ∷ h) exchange is =
    forward_closed h number moment e reply exchange (eqb number e) (has_forward_in e h) (forwarded_in_window e h exchange) is

-- ---- errors and failures

same_error : (a b : ℕ → Option Forward) → ((f : ℕ) → a f ≡ b f) → (target : Target) (item : Item) → is_error_by target a item ≡ is_error_by target b item
same_error a b same target (OriginResponse number moment response) =
    ap (λ (f : Option Forward). is_error_by target (λ n. f) (OriginResponse number moment response)) (same number)
same_error a b same target item = refl

same_failure : (a b : ℕ → Option Forward) → ((f : ℕ) → a f ≡ b f) → (target : Target) (item : Item) → is_failure_by target a item ≡ is_failure_by target b item
same_failure a b same target (OriginFailure number moment) = ap (λ (f : Option Forward). is_failure_by target (λ n. f) (OriginFailure number moment)) (same number)
same_failure a b same target item = refl

-- ---- all of it

pub noted : (format : Format) (old new : Seen) (h : List Item) (item : Item) → IsSeenAs format old h → Notes format old (next_position h) item new → IsSeenAs format new (item ∷ h)
noted format old new h item is n = record {
  live = λ target. n.live target
      ∙ same_lives old.forward (λ f. forward_of f h) is.forward target (next_position h) item (old.live target)
      ∙ ap (lives_after target (λ f. forward_of f h) (next_position h) item) (is.live target)
      ∙ sym (noted_is target h item (live_of target h))
      ∙ sym (live_behind target h item);
  exchange = λ e. n.exchange e ∙ ap (exchange_after e (next_position h) item) (is.exchange e);
  forward = λ f. n.forward f ∙ ap (forward_after f item) (is.forward f);
  cause = λ f. n.cause f ∙ ap (cause_after f item) (is.cause f);
  window = λ e. n.window e
      ∙ ap (λ (o : Option Exchange). window_after format e o old.forward old.cause item (old.window e)) (is.exchange e)
      ∙ same_window format old.forward (λ f. forward_of f h) old.cause (λ f. cause_of f h) is.forward is.cause e (exchange_of e h) item (old.window e)
      ∙ ap (window_after format e (exchange_of e h) (λ f. forward_of f h) (λ f. cause_of f h) item) (is.window e)
      ∙ sym (window_behind format e h item);
  has_forward = λ e. n.has_forward e ∙ ap (has_forward_after e item) (is.has_forward e);
  error = λ target. n.error target
      ∙ ap (λ (b : Bool). cond b (next_position h) (old.error target)) (same_error old.forward (λ f. forward_of f h) is.forward target item)
      ∙ ap (λ (p : ℕ). cond (is_error target h item) (next_position h) p) (is.error target);
  failure = λ target. n.failure target
      ∙ ap (λ (b : Bool). cond b (next_position h) (old.failure target)) (same_failure old.forward (λ f. forward_of f h) is.forward target item)
      ∙ ap (λ (p : ℕ). cond (is_failure target h item) (next_position h) p) (is.failure target);
}
