-- What each kind of item makes of maps.
use Rattle.std.proofs.Common.{◌≡◌, ◌⊎◌, ℕ, Bool, true, false, not, ◌&&◌, ◌||◌, cond, eqb, List, [], ◌∷◌, ◌++◌, Option, Some, None, map, refl, sym, ap, subst, ◌∙◌, inl, inr, eq-eqb, ne_eqb}
use Rattle.std.specs.Ordering.{nat_cmp}
use Rattle.std.specs.BTreeMap.{BTreeMap, get}
use Rattle.std.proofs.lemmas.Bool.{cases_eq}
use Rattle.std.proofs.lemmas.List.{append-nil}
use Rattle.hc_head.specs.declared.head.RequestHead.{RequestHead}
use Rattle.hc_head.specs.declared.head.ResponseHead.{ResponseHead}
use Rattle.hc_head.specs.declared.head.Target.{Target}
use Rattle.hc_head.specs.Targets.{same_target}
use Rattle.hc_framing.specs.declared.message.Message.{Message}
use Rattle.hc_transcript.specs.declared.format.Format.{Format}
use Rattle.hc_transcript.specs.declared.line.ToldCause.{ToldCause}
use Rattle.hc_transcript.specs.Records.{told_in}
use Rattle.hc_transcript.specs.Items.{ClientRequest, ClientReply, OriginResponse, OriginFailure, Exchange, Forward}
use Rattle.hc_history.specs.States.{begun_by}
use Rattle.hc_head.specs.Statuses.{is_error_status}
use Rattle.hc_history.specs.Windows.{may_be_for, is_forward_of}
use Rattle.hc_history.specs.Seen.{live_at, WindowResponse}
use Rattle.hc_history.specs.Noting.{live_answered, lives_answered, added_to_window, Notes}
use Rattle.hc_head.proofs.SameTargetLemmas.{same_target_one}
use Rattle.hc_index.specs.declared.kept.RecordedForward.{RecordedForward}
use Rattle.hc_index.specs.declared.kept.PooledExchange.{PooledExchange}
use Rattle.hc_index.specs.declared.at_target.AtTarget.{AtTarget}
use Rattle.hc_index.specs.declared.map_index.MapIndex.{MapIndex}
use Rattle.hc_index.specs.Forwards.{BeginsAnew, Takes}
use Rattle.hc_index.specs.Lists.{by_target, exchange_seen, forward_seen}
use Rattle.hc_index.specs.Windows.{ToldResponse, those_for, answer_to}
use Rattle.hc_index.specs.Maps.{Targets, ChangesAt, OpensAt, ClosesAt, FailsAt, AnswersAt, is_open, live_kept, error_kept, failure_kept, open_kept, window_kept, known_in, open_in, pooled_exchange, window_in, seen_in}
use Rattle.hc_index.proofs.WindowLemmas.{added_for, added_is, those_append}

-- ---- what is told of a target, where one changed

changed_by : {Y : Type 0} (target t : Target) (old new : Targets) (R : Option AtTarget → Option AtTarget → Type 0) (f g : Target → Option AtTarget → Y) (b : Bool)
    → same_target target t ≡ b → ChangesAt target old new R → ((o n : Option AtTarget) → R o n → f target n ≡ g target o)
    → f t (get by_target new t) ≡ cond b (g t (get by_target old t)) (f t (get by_target old t))
changed_by target t old new R f g true is changes told =
    subst (λ (k : Target). f k (get by_target new k) ≡ g k (get by_target old k)) (same_target_one target t is)
    (told (get by_target old target) (get by_target new target) changes.here)
changed_by target t old new R f g false is changes told = ap (f t) (changes.elsewhere t is)

changed_at : {Y : Type 0} (target t : Target) (old new : Targets) (R : Option AtTarget → Option AtTarget → Type 0) (f g : Target → Option AtTarget → Y)
    → ChangesAt target old new R → ((o n : Option AtTarget) → R o n → f target n ≡ g target o)
    → f t (get by_target new t) ≡ cond (same_target target t) (g t (get by_target old t)) (f t (get by_target old t))
changed_at target t old new R f g changes told = changed_by target t old new R f g (same_target target t) refl changes told

either_way : {Y : Type 0} (b : Bool) (y : Y) → cond b y y ≡ y
either_way true y = refl
either_way false y = refl

same_at : {Y : Type 0} (target t : Target) (old new : Targets) (R : Option AtTarget → Option AtTarget → Type 0) (f : Target → Option AtTarget → Y)
    → ChangesAt target old new R → ((o n : Option AtTarget) → R o n → f target n ≡ f target o) → f t (get by_target new t) ≡ f t (get by_target old t)
same_at target t old new R f changes told =
    changed_at target t old new R f f changes told ∙ either_way (same_target target t) (f t (get by_target old t))

-- ---- what is told of an exchange

-- the windows of the exchange of a number stay as they are
abbrev KeepsWindow : ℕ → Targets → Targets → Type 0
KeepsWindow e old new = (t : Target) (b : ℕ) → (open_kept b e (get by_target new t) ≡ open_kept b e (get by_target old t))
    × (open_kept b e (get by_target old t) ≡ true → window_kept b (get by_target new t) ≡ window_kept b (get by_target old t))

keeps_by : (e : ℕ) (target t : Target) (old new : Targets) (R : Option AtTarget → Option AtTarget → Type 0) (b : ℕ) (same : Bool) → same_target target t ≡ same
    → ChangesAt target old new R
    → ((o n : Option AtTarget) → R o n → (open_kept b e n ≡ open_kept b e o) × (open_kept b e o ≡ true → window_kept b n ≡ window_kept b o))
    → (open_kept b e (get by_target new t) ≡ open_kept b e (get by_target old t))
    × (open_kept b e (get by_target old t) ≡ true → window_kept b (get by_target new t) ≡ window_kept b (get by_target old t))
keeps_by e target t old new R b true is changes keeps =
    subst (λ (k : Target). (open_kept b e (get by_target new k) ≡ open_kept b e (get by_target old k))
    × (open_kept b e (get by_target old k) ≡ true → window_kept b (get by_target new k) ≡ window_kept b (get by_target old k)))
    (same_target_one target t is) (keeps (get by_target old target) (get by_target new target) changes.here)
keeps_by e target t old new R b false is changes keeps =
    (ap (open_kept b e) (changes.elsewhere t is), λ there. ap (window_kept b) (changes.elsewhere t is))

keeps_window : (e : ℕ) (target : Target) (old new : Targets) (R : Option AtTarget → Option AtTarget → Type 0) → ChangesAt target old new R
    → ((b : ℕ) (o n : Option AtTarget) → R o n → (open_kept b e n ≡ open_kept b e o) × (open_kept b e o ≡ true → window_kept b n ≡ window_kept b o))
    → KeepsWindow e old new
keeps_window e target old new R changes keeps t b = keeps_by e target t old new R b (same_target target t) refl changes (keeps b)

known_stays : (e : ℕ) (old new : Targets) → KeepsWindow e old new → (o : Option PooledExchange) → known_in new e o ≡ known_in old e o
known_stays e old new keeps None = refl
known_stays e old new keeps (Some x) = ap (λ (b : Bool). cond b (Some x) None) (keeps x.exchange.target x.behind).0

window_if : (new old : Targets) (x : PooledExchange) (b c : Bool) → c ≡ b
    → (b ≡ true → window_kept x.behind (get by_target new x.exchange.target) ≡ window_kept x.behind (get by_target old x.exchange.target))
    → window_in new (cond c (Some x) None) ≡ window_in old (cond b (Some x) None)
window_if new old x true true is same = ap (those_for x.exchange.number) (same refl)
window_if new old x true false is same = absurd (let e = is in cc)
window_if new old x false true is same = absurd (let e = is in cc)
window_if new old x false false is same = refl

window_stays : (e : ℕ) (old new : Targets) → KeepsWindow e old new → (o : Option PooledExchange) → window_in new (known_in new e o) ≡ window_in old (known_in old e o)
window_stays e old new keeps None = refl
window_stays e old new keeps (Some x) =
    window_if new old x (open_kept x.behind e (get by_target old x.exchange.target)) (open_kept x.behind e (get by_target new x.exchange.target))
    (keeps x.exchange.target x.behind).0 (keeps x.exchange.target x.behind).1

-- ---- requests

-- what a request makes of all that is kept
pub record Asks (old : MapIndex) (number : ℕ) (x : PooledExchange) (new : MapIndex) : Type 0 where
  pub exchanges : (e : ℕ) → get nat_cmp new.exchanges e ≡ cond (eqb number e) (Some x) (get nat_cmp old.exchanges e)
  pub targets : ChangesAt x.exchange.target old.targets new.targets (OpensAt x.exchange.target number x.behind)
  pub forwards : BeginsAnew number old.forwards new.forwards

keeps_others : (number e behind : ℕ) (target : Target) (old new : Targets) → (e ≡ number → ⊥) → ChangesAt target old new (OpensAt target number behind) → KeepsWindow e old new
keeps_others number e behind target old new ne changes =
    keeps_window e target old new (OpensAt target number behind) changes (λ b o n opens. (opens.others b e ne, opens.windows b e))

asked_exchange : (old : MapIndex) (number : ℕ) (x : PooledExchange) (new : MapIndex) → Asks old number x new
    → (e : ℕ) → pooled_exchange (known_in new.targets e (get nat_cmp new.exchanges e))
    ≡ cond (eqb number e) (Some (exchange_seen x.exchange)) (pooled_exchange (known_in old.targets e (get nat_cmp old.exchanges e)))
asked_exchange old number x new asks e =
    elim (cases_eq number e) [
      | inl same ↦ rw (asks.exchanges e, eq-eqb number e same)
          (ap (λ (b : Bool). pooled_exchange (cond b (Some x) None))
          (subst (λ (k : ℕ). open_kept x.behind k (get by_target new.targets x.exchange.target) ≡ true) same asks.targets.here.opened))
      | inr ne ↦ rw (asks.exchanges e, ne_eqb number e ne)
          (ap pooled_exchange (known_stays e old.targets new.targets (keeps_others number e x.behind x.exchange.target old.targets new.targets (λ k. ne (sym k)) asks.targets)
          (get nat_cmp old.exchanges e)))
    ]

asked_window : (old : MapIndex) (number : ℕ) (x : PooledExchange) (new : MapIndex) → Asks old number x new
    → (e : ℕ) → window_in new.targets (known_in new.targets e (get nat_cmp new.exchanges e))
    ≡ cond (eqb number e) [] (window_in old.targets (known_in old.targets e (get nat_cmp old.exchanges e)))
asked_window old number x new asks e =
    elim (cases_eq number e) [
      | inl same ↦ rw (asks.exchanges e, eq-eqb number e same)
          (ap (λ (b : Bool). window_in new.targets (cond b (Some x) None))
          (subst (λ (k : ℕ). open_kept x.behind k (get by_target new.targets x.exchange.target) ≡ true) same asks.targets.here.opened)
          ∙ ap (those_for x.exchange.number) asks.targets.here.nothing_yet)
      | inr ne ↦ rw (asks.exchanges e, ne_eqb number e ne)
          (window_stays e old.targets new.targets (keeps_others number e x.behind x.exchange.target old.targets new.targets (λ k. ne (sym k)) asks.targets)
          (get nat_cmp old.exchanges e))
    ]

pub notes_request : (format : Format) (old : MapIndex) (number position moment : ℕ) (request : Message RequestHead) (x : PooledExchange) (new : MapIndex) → Asks old number x new
    → exchange_seen x.exchange ≡ (record { number = number; position = position; request = request.head; target = x.exchange.target })
    → Notes format (seen_in old) position (ClientRequest number moment request x.exchange.target) (seen_in new)
notes_request format old number position moment request x new asks is =
    let target = x.exchange.target in
    let R = OpensAt target number x.behind in
    record {
      live = λ t. same_at target t old.targets new.targets R live_kept asks.targets (λ o n opens. opens.live);
      exchange = λ e. asked_exchange old number x new asks e
          ∙ ap (λ (exchange : Exchange). cond (eqb number e) (Some exchange) (pooled_exchange (known_in old.targets e (get nat_cmp old.exchanges e)))) is;
      forward = asks.forwards.forward;
      cause = asks.forwards.cause;
      window = asked_window old number x new asks;
      has_forward = asks.forwards.has_forward;
      error = λ t. same_at target t old.targets new.targets R (λ k. error_kept) asks.targets (λ o n opens. opens.error);
      failure = λ t. same_at target t old.targets new.targets R (λ k. failure_kept) asks.targets (λ o n opens. opens.failure);
    }

-- ---- replies

-- what a reply makes of all that is kept, where the exchange was there
pub record Replies (old : MapIndex) (number : ℕ) (target : Target) (new : MapIndex) : Type 0 where
  pub exchanges : (e : ℕ) → get nat_cmp new.exchanges e ≡ cond (eqb number e) None (get nat_cmp old.exchanges e)
  pub targets : ChangesAt target old.targets new.targets (ClosesAt target number)
  pub forwards : BeginsAnew number old.forwards new.forwards

keeps_open : (number e : ℕ) (target : Target) (old new : Targets) → (e ≡ number → ⊥) → ChangesAt target old new (ClosesAt target number) → KeepsWindow e old new
keeps_open number e target old new ne changes =
    keeps_window e target old new (ClosesAt target number) changes (λ b o n closes. (closes.others b e ne, closes.windows b e ne))

replied_exchange : (old : MapIndex) (number : ℕ) (target : Target) (new : MapIndex) → Replies old number target new
    → (e : ℕ) → pooled_exchange (known_in new.targets e (get nat_cmp new.exchanges e))
    ≡ cond (eqb number e) None (pooled_exchange (known_in old.targets e (get nat_cmp old.exchanges e)))
replied_exchange old number target new replies e =
    elim (cases_eq number e) [
      | inl same ↦ rw (replies.exchanges e, eq-eqb number e same) refl
      | inr ne ↦ rw (replies.exchanges e, ne_eqb number e ne)
          (ap pooled_exchange (known_stays e old.targets new.targets (keeps_open number e target old.targets new.targets (λ k. ne (sym k)) replies.targets)
          (get nat_cmp old.exchanges e)))
    ]

replied_window : (old : MapIndex) (number : ℕ) (target : Target) (new : MapIndex) → Replies old number target new
    → (e : ℕ) → window_in new.targets (known_in new.targets e (get nat_cmp new.exchanges e))
    ≡ cond (eqb number e) [] (window_in old.targets (known_in old.targets e (get nat_cmp old.exchanges e)))
replied_window old number target new replies e =
    elim (cases_eq number e) [
      | inl same ↦ rw (replies.exchanges e, eq-eqb number e same) refl
      | inr ne ↦ rw (replies.exchanges e, ne_eqb number e ne)
          (window_stays e old.targets new.targets (keeps_open number e target old.targets new.targets (λ k. ne (sym k)) replies.targets)
          (get nat_cmp old.exchanges e))
    ]

pub notes_reply : (format : Format) (old : MapIndex) (number position moment : ℕ) (reply : Message ResponseHead) (target : Target) (new : MapIndex) → Replies old number target new
    → Notes format (seen_in old) position (ClientReply number moment reply) (seen_in new)
notes_reply format old number position moment reply target new replies =
    let R = ClosesAt target number in
    record {
      live = λ t. same_at target t old.targets new.targets R live_kept replies.targets (λ o n closes. closes.live);
      exchange = replied_exchange old number target new replies;
      forward = replies.forwards.forward;
      cause = replies.forwards.cause;
      window = replied_window old number target new replies;
      has_forward = replies.forwards.has_forward;
      error = λ t. same_at target t old.targets new.targets R (λ k. error_kept) replies.targets (λ o n closes. closes.error);
      failure = λ t. same_at target t old.targets new.targets R (λ k. failure_kept) replies.targets (λ o n closes. closes.failure);
    }

-- ---- failures

-- what a failure of an open forward makes of all that is kept
pub record Fails (old : MapIndex) (forward : RecordedForward) (number position : ℕ) (new : MapIndex) : Type 0 where
  pub forwards : Takes number (Some forward) old.forwards new.forwards
  pub targets : ChangesAt forward.target old.targets new.targets (FailsAt forward.target position)
  pub exchanges : new.exchanges ≡ old.exchanges

pub notes_failure : (format : Format) (old : MapIndex) (forward : RecordedForward) (number position moment : ℕ) (new : MapIndex) → Fails old forward number position new
    → Notes format (seen_in old) position (OriginFailure number moment) (seen_in new)
notes_failure format old forward number position moment new fails =
    let target = forward.target in
    let R = FailsAt target position in
    let is = fails.forwards.was_open in
    let keeps : (e : ℕ) → KeepsWindow e old.targets new.targets = λ e. keeps_window e target old.targets new.targets R fails.targets (λ b o n f. (f.others b e, f.windows b e)) in
    record {
      live = λ t. same_at target t old.targets new.targets R live_kept fails.targets (λ o n f. f.live);
      exchange = λ e. ap (λ (m : BTreeMap ℕ PooledExchange). pooled_exchange (known_in new.targets e (get nat_cmp m e))) fails.exchanges
          ∙ ap pooled_exchange (known_stays e old.targets new.targets (keeps e) (get nat_cmp old.exchanges e));
      forward = fails.forwards.forward;
      cause = fails.forwards.cause;
      window = λ e. ap (λ (m : BTreeMap ℕ PooledExchange). window_in new.targets (known_in new.targets e (get nat_cmp m e))) fails.exchanges
          ∙ window_stays e old.targets new.targets (keeps e) (get nat_cmp old.exchanges e);
      has_forward = fails.forwards.has_forward;
      error = λ t. same_at target t old.targets new.targets R (λ k. error_kept) fails.targets (λ o n f. f.error);
      failure = λ t. changed_at target t old.targets new.targets R (λ k. failure_kept) (λ k o. position) fails.targets (λ o n f. f.failure)
          ∙ ap (λ (o : Option Forward). cond (is_forward_of t o) position (failure_kept (get by_target old.targets t))) is;
    }

-- ---- responses

-- what a response to an open forward makes of all that is kept
pub record Answers (format : Format) (old : MapIndex) (forward : RecordedForward) (number position moment : ℕ) (response : Message ResponseHead) (new : MapIndex) : Type 0 where
  pub forwards : Takes number (Some forward) old.forwards new.forwards
  pub targets : ChangesAt forward.target old.targets new.targets (AnswersAt (forward_seen forward) (told_in format forward.cause) position moment response)
  pub exchanges : new.exchanges ≡ old.exchanges

-- the answers behind the exchange of a number grow by the response
abbrev GrowsWindow : ℕ → Forward → ToldCause → Message ResponseHead → Targets → Targets → Type 0
GrowsWindow e forward cause response old new = (t : Target) (b : ℕ) → (open_kept b e (get by_target new t) ≡ open_kept b e (get by_target old t))
    × (open_kept b e (get by_target old t) ≡ true
    → window_kept b (get by_target new t) ≡ window_kept b (get by_target old t) ++ added_for t forward cause response)

grows_by : (e : ℕ) (forward : Forward) (cause : ToldCause) (position moment : ℕ) (response : Message ResponseHead) (old new : Targets)
    → ChangesAt forward.target old new (AnswersAt forward cause position moment response)
    → (t : Target) (b : ℕ) (same : Bool) → same_target forward.target t ≡ same
    → (open_kept b e (get by_target new t) ≡ open_kept b e (get by_target old t))
    × (open_kept b e (get by_target old t) ≡ true
    → window_kept b (get by_target new t) ≡ window_kept b (get by_target old t) ++ cond same (answer_to forward cause response ∷ []) [])
grows_by e forward cause position moment response old new changes t b true is =
    subst (λ (k : Target). (open_kept b e (get by_target new k) ≡ open_kept b e (get by_target old k))
    × (open_kept b e (get by_target old k) ≡ true → window_kept b (get by_target new k) ≡ window_kept b (get by_target old k) ++ answer_to forward cause response ∷ []))
    (same_target_one forward.target t is) (changes.here.others b e, changes.here.windows b e)
grows_by e forward cause position moment response old new changes t b false is = (
  ap (open_kept b e) (changes.elsewhere t is),
  λ there. ap (window_kept b) (changes.elsewhere t is) ∙ sym (append-nil (window_kept b (get by_target old t))),
)

grows_window : (e : ℕ) (forward : Forward) (cause : ToldCause) (position moment : ℕ) (response : Message ResponseHead) (old new : Targets)
    → ChangesAt forward.target old new (AnswersAt forward cause position moment response) → GrowsWindow e forward cause response old new
grows_window e forward cause position moment response old new changes t b =
    grows_by e forward cause position moment response old new changes t b (same_target forward.target t) refl

known_stays_open : (e : ℕ) (forward : Forward) (cause : ToldCause) (response : Message ResponseHead) (old new : Targets) → GrowsWindow e forward cause response old new
    → (o : Option PooledExchange) → known_in new e o ≡ known_in old e o
known_stays_open e forward cause response old new grows None = refl
known_stays_open e forward cause response old new grows (Some x) = ap (λ (b : Bool). cond b (Some x) None) (grows x.exchange.target x.behind).0

window_grown_if : (format : Format) (new old : Targets) (x : PooledExchange) (forward : Forward) (cause : Option ℕ) (response : Message ResponseHead) (b c : Bool) → c ≡ b
    → (b ≡ true → window_kept x.behind (get by_target new x.exchange.target)
    ≡ window_kept x.behind (get by_target old x.exchange.target) ++ added_for x.exchange.target forward (told_in format cause) response)
    → window_in new (cond c (Some x) None) ≡ window_in old (cond b (Some x) None) ++ added_to_window format (pooled_exchange (cond b (Some x) None)) (Some forward) cause response
window_grown_if format new old x forward cause response true true is grown =
    let before = window_kept x.behind (get by_target old x.exchange.target) in
    ap (those_for x.exchange.number) (grown refl)
    ∙ those_append x.exchange.number before (added_for x.exchange.target forward (told_in format cause) response)
    ∙ ap (λ (added : List WindowResponse). those_for x.exchange.number before ++ added)
    (added_is x.exchange.number x.exchange.target forward (told_in format cause) response)
window_grown_if format new old x forward cause response true false is grown = absurd (let e = is in cc)
window_grown_if format new old x forward cause response false true is grown = absurd (let e = is in cc)
window_grown_if format new old x forward cause response false false is grown = refl

window_grows : (format : Format) (e : ℕ) (forward : Forward) (cause : Option ℕ) (response : Message ResponseHead) (old new : Targets) → GrowsWindow e forward (told_in format cause) response old new
    → (o : Option PooledExchange)
    → window_in new (known_in new e o) ≡ window_in old (known_in old e o) ++ added_to_window format (pooled_exchange (known_in old e o)) (Some forward) cause response
window_grows format e forward cause response old new grows None = refl
window_grows format e forward cause response old new grows (Some x) =
    window_grown_if format new old x forward cause response (open_kept x.behind e (get by_target old x.exchange.target)) (open_kept x.behind e (get by_target new x.exchange.target))
    (grows x.exchange.target x.behind).0 (grows x.exchange.target x.behind).1

two_tests : (a b : Bool) (p q : ℕ) → cond b (cond a p q) q ≡ cond (a && b) p q
two_tests true true p q = refl
two_tests true false p q = refl
two_tests false true p q = refl
two_tests false false p q = refl

pub notes_response : (format : Format) (old : MapIndex) (forward : RecordedForward) (number position moment : ℕ) (response : Message ResponseHead) (new : MapIndex)
    → Answers format old forward number position moment response new → Notes format (seen_in old) position (OriginResponse number moment response) (seen_in new)
notes_response format old forward number position moment response new answers =
    let seen = forward_seen forward in
    let told = told_in format forward.cause in
    let R = AnswersAt seen told position moment response in
    let is = answers.forwards.was_open in
    let cause = answers.forwards.its_cause in
    let grows : (e : ℕ) → GrowsWindow e seen told response old.targets new.targets = λ e. grows_window e seen told position moment response old.targets new.targets answers.targets in
    record {
      live = λ t. changed_at forward.target t old.targets new.targets R live_kept
          (λ k o. map (live_answered seen position moment response) (live_kept k o) ++ live_at k position (begun_by seen moment response)) answers.targets (λ o n a. a.live)
          ∙ ap (λ (o : Option Forward). lives_answered t o position moment response (live_kept t (get by_target old.targets t))) is;
      exchange = λ e. ap (λ (m : BTreeMap ℕ PooledExchange). pooled_exchange (known_in new.targets e (get nat_cmp m e))) answers.exchanges
          ∙ ap pooled_exchange (known_stays_open e seen told response old.targets new.targets (grows e) (get nat_cmp old.exchanges e));
      forward = answers.forwards.forward;
      cause = answers.forwards.cause;
      window = λ e. ap (λ (m : BTreeMap ℕ PooledExchange). window_in new.targets (known_in new.targets e (get nat_cmp m e))) answers.exchanges
          ∙ window_grows format e seen forward.cause response old.targets new.targets (grows e) (get nat_cmp old.exchanges e)
          ∙ (λ i. window_in old.targets (known_in old.targets e (get nat_cmp old.exchanges e))
          ++ added_to_window format (pooled_exchange (known_in old.targets e (get nat_cmp old.exchanges e))) (is i) (cause i) response);
      has_forward = answers.forwards.has_forward;
      error = λ t. changed_at forward.target t old.targets new.targets R (λ k. error_kept)
          (λ k o. cond (is_error_status response.head.status) position (error_kept o)) answers.targets (λ o n a. a.error)
          ∙ two_tests (is_error_status response.head.status) (same_target forward.target t) position (error_kept (get by_target old.targets t))
          ∙ ap (λ (o : Option Forward). cond (is_error_status response.head.status && is_forward_of t o) position (error_kept (get by_target old.targets t))) is;
      failure = λ t. same_at forward.target t old.targets new.targets R (λ k. failure_kept) answers.targets (λ o n a. a.failure);
    }

-- ---- what is lent

-- the exchange of a number is open, as far as its target knows
known_at : (index : MapIndex) (number : ℕ) (x : PooledExchange) (here : AtTarget) (b : Bool) → Some x ≡ get nat_cmp index.exchanges number
    → Some here ≡ get by_target index.targets x.exchange.target → is_open x.behind number here.pool ≡ b → open_in index number ≡ cond b (Some x) None
known_at index number x here b is here-is there =
    ap (known_in index.targets number) (sym is)
    ∙ ap (λ (o : Option AtTarget). cond (open_kept x.behind number o) (Some x) None) (sym here-is)
    ∙ ap (λ (there : Bool). cond there (Some x) None) there

pub none_known : (surely : Bool) (index : MapIndex) (number : ℕ) (x : PooledExchange) (here : AtTarget) → Some x ≡ get nat_cmp index.exchanges number
    → Some here ≡ get by_target index.targets x.exchange.target → (not surely || is_open x.behind number here.pool) ≡ false
    → pooled_exchange (open_in index number) ≡ None
none_known surely index number x here is here-is closed =
    ap pooled_exchange (known_at index number x here false is here-is (neither surely (is_open x.behind number here.pool) closed))
  where
    neither : (a b : Bool) → (not a || b) ≡ false → b ≡ false
    neither true b closed = closed
    neither false b closed = absurd (let e = closed in cc)

pub known_or_unsure : (surely : Bool) (index : MapIndex) (number : ℕ) (x : PooledExchange) (here : AtTarget) → Some x ≡ get nat_cmp index.exchanges number
    → Some here ≡ get by_target index.targets x.exchange.target → (not surely || is_open x.behind number here.pool) ≡ true
    → ((surely ≡ false) × (pooled_exchange (open_in index number) ≡ None)) ⊎ (open_in index number ≡ Some x)
known_or_unsure surely index number x here is here-is may = go surely (is_open x.behind number here.pool) refl may
  where
    go : (a b : Bool) → is_open x.behind number here.pool ≡ b → (not a || b) ≡ true
        → ((a ≡ false) × (pooled_exchange (open_in index number) ≡ None)) ⊎ (open_in index number ≡ Some x)
    go a true there may = inr (known_at index number x here true is here-is there)
    go false false there may = inl (refl, ap pooled_exchange (known_at index number x here false is here-is there))
    go true false there may = absurd (let e = may in cc)
